-- A group is answered for the first limit that it passes.
use Rattle.std.proofs.Common.{◌≡◌, inl, inr, ◌⊎◌, ◌↔◌, ℕ, ◌+◌, ◌≤◌, ◌<◌, nat_le, Bool, true, false, cond, List, [], ◌∷◌, ◌++◌, length, Result, Ok, Err, refl, sym, ap, subst, ◌∙◌, arith}
use Rattle.std.specs.Prelude.{◌&&◌, not, sum_by}
use Rattle.std.proofs.lemmas.Bool.Decides.{nat_tests}
use Rattle.st_form.specs.declared.variables.Variable.{Variable}
use Rattle.st_tokens.specs.declared.limit.LimitKind.TheVariants as limits
use Rattle.st_program.specs.Tree.{Pieces}
use Rattle.st_program.specs.Tree as tree
use Rattle.st_program.specs.Types.{PiecesFit}
use Rattle.st_program.specs.Groups.{Link, paths_along}
use Rattle.expression_typer.specs.declared.fault.TypeFault.{TypeFault}
use Rattle.expression_typer.specs.declared.fault.TypeFault.TheVariants as faults
use Rattle.expression_typer.specs.Answers.{◌>>=◌}
use Rattle.spl_typer.specs.Walk.{give, with_weight}
use Rattle.spl_typer.specs.StatementRules.{faults_of, inside_faults, limit_faults}
use Rattle.spl_typer.specs.Groups.{Composition, nothing, limit_unless, path_on, all_small, with_path, with_paths, grouped}
use Rattle.spl_typer.specs.Unbounded.{all_small_along, is_too_large}
use Rattle.spl_typer.proofs.Unbounded.{too_large_exactly}
use Rattle.group_limits.specs.Choices.{ways_along}
use Rattle.group_limits.specs.Weights.{weight_of, AreComposed}
use Rattle.group_limits.specs.Order.{HasLargeNumber, IsAnswered, has_many_paths, has_large_number, has_many_atoms, is_heavy, is_taken, GroupsAreAnswered, GroupsAreTyped}
use Rattle.group_limits.proofs.Paths.{ways_along_count}
use Rattle.group_limits.proofs.Faults.{Only, only_small, only_paths}
use Rattle.group_limits.proofs.Refusals.{paths_refuse}
use Rattle.group_limits.proofs.Atoms.{atoms_refuse, behind_limits}
use Rattle.group_limits.proofs.Weights.{weights_are_added}
use Rattle.group_limits.proofs.Large.{large_number, number_fails}

at_most : (n m : ℕ) → nat_le n m ≡ true → n ≤ m
at_most n m e = grind (arith, nat_tests)

more : (n m : ℕ) → nat_le n m ≡ false → m < n
more n m e = grind (arith, nat_tests)

is_at_most : (n m : ℕ) → n ≤ m → nat_le n m ≡ true
is_at_most n m h = grind (arith, nat_tests)

is_more : (n m : ℕ) → m < n → nat_le n m ≡ false
is_more n m h = grind (arith, nat_tests)

opposite : (b : Bool) → b ≡ true → b ≡ false → ⊥
opposite b e f = let k : true ≡ false = sym e ∙ f in cc

abbrev IsLarge : ℕ → TypeFault → Type 0
IsLarge place f = f ≡ faults.TooLarge place

abbrev IsEither : ℕ → TypeFault → Type 0
IsEither place f = IsLarge place f ⊎ (f ≡ faults.Limit limits.Atoms place)

fault_of : {A : Type 0} (Q : TypeFault → Type 0) (r : Result A TypeFault) (f : TypeFault) → r ≡ Err f → Only Q r → Q f
fault_of {A} Q r f is h = subst (λ (z : Result A TypeFault). Only Q z) is h

-- what is composed along all paths, or a fault
abbrev Ends : ℕ → List (List Link) → ℕ → Type 0
Ends place paths w = ((cs : List Composition) × AreComposed place paths cs) ⊎ ((f : TypeFault) × (with_paths place paths w ≡ Err f))

by_rest : (place : ℕ) (path : List Link) (paths : List (List Link)) (w : ℕ) (c : Composition) → path_on place path nothing ≡ Ok c → Ends place paths (with_path w c) → Ends place (path ∷ paths) w
by_rest place path paths w c e (inl h) = inl (c ∷ h.0, (e, h.1))
by_rest place path paths w c e (inr h) = inr (h.0, ap (λ (r : Result Composition TypeFault). r >>= λ d. with_paths place paths (with_path w d)) e ∙ h.1)

by_path : (place : ℕ) (path : List Link) (paths : List (List Link)) (w : ℕ) (r : Result Composition TypeFault) → path_on place path nothing ≡ r → ((c : Composition) → Ends place paths (with_path w c)) → Ends place (path ∷ paths) w
by_path place path paths w (Ok c) e again = by_rest place path paths w c e (again c)
by_path place path paths w (Err f) e again = inr (f, ap (λ (r : Result Composition TypeFault). r >>= λ d. with_paths place paths (with_path w d)) e)

composed_or : (place : ℕ) (paths : List (List Link)) (w : ℕ) → Ends place paths w
composed_or place [] w = inl ([], refl)
composed_or place (path ∷ paths) w = by_path place path paths w (path_on place path nothing) refl (λ c. composed_or place paths (with_path w c))

module _ (vs : List Variable) (xs : Pieces) (place before : ℕ) (few : length vs ≤ 64) (fits : PiecesFit vs xs) (light : before ≤ 16777216) where
  abbrev answer : Result ℕ TypeFault
  answer = grouped place xs before

  abbrev Paths : List (List Link)
  Paths = paths_along xs

  counted : ways_along xs ≤ 64 → length Paths ≤ 64
  counted h = subst (λ n. n ≤ 64) (sym (ways_along_count xs)) h

  large_is : is_too_large answer ≡ (nat_le (length Paths) 64 && not (all_small_along Paths))
  large_is = too_large_exactly vs xs place before few fits

  large_where : ways_along xs ≤ 64 → (b : Bool) → all_small_along Paths ≡ b → is_too_large answer ≡ not b
  large_where h b e = large_is ∙ ap (λ c. c && not (all_small_along Paths)) (is_at_most (length Paths) 64 (counted h)) ∙ ap not e

  -- behind the number of paths
  abbrev rest : ℕ → Result ℕ TypeFault
  rest v = limit_unless (nat_le v 16777216) (faults.Limit limits.Weight place) >>= λ _. Ok v

  behind_paths : ways_along xs ≤ 64 → answer ≡ (all_small place Paths >>= λ _. with_paths place Paths before >>= λ v. rest v)
  behind_paths h = ap (λ b. limit_unless b (faults.Limit limits.Paths place) >>= λ _. all_small place Paths >>= λ _. with_paths place Paths before >>= λ v. rest v) (is_at_most (length Paths) 64 (counted h))

  not_large : ways_along xs ≤ 64 → all_small_along Paths ≡ true → answer ≡ Err (faults.TooLarge place) → ⊥
  not_large h e is = opposite (is_too_large answer) (ap is_too_large is) (large_where h true e)

  small_is : ways_along xs ≤ 64 → all_small_along Paths ≡ true → all_small place Paths ≡ Ok tt
  small_is h e = by (all_small place Paths) refl
    where
      by : (r : Result (Unit {0}) TypeFault) → all_small place Paths ≡ r → all_small place Paths ≡ Ok tt
      by (Ok u) is = is
      by (Err f) is =
          let large : f ≡ faults.TooLarge place = fault_of (IsLarge place) (all_small place Paths) f is (only_small place (IsLarge place) refl Paths) in
          absurd (not_large h e (behind_paths h ∙ ap (λ (r : Result (Unit {0}) TypeFault). r >>= λ _. with_paths place Paths before >>= λ v. rest v) is ∙ ap (λ g. Err g) large))

  -- a number is too large
  weighed_is : (v : ℕ) (b : Bool) → is_too_large (limit_unless b (faults.Limit limits.Weight place) >>= λ _. Ok v) ≡ false
  weighed_is v true = refl
  weighed_is v false = refl

  large_at : (r : Result ℕ TypeFault) → is_too_large r ≡ true → Only (IsEither place) r → r ≡ Err (faults.TooLarge place)
  large_at (Ok v) e h = absurd (let k : false ≡ true = e in cc)
  large_at (Err f) e (inl is) = ap (λ g. Err g) is
  large_at (Err f) e (inr is) = absurd (opposite (is_too_large (Err f)) e (ap (λ g. is_too_large (Err g)) is))

  with_at : (r : Result ℕ TypeFault) → Only (IsEither place) r → is_too_large (r >>= λ v. rest v) ≡ true → (r >>= λ v. rest v) ≡ Err (faults.TooLarge place)
  with_at (Ok v) h e = absurd (opposite (is_too_large (rest v)) e (weighed_is v (nat_le v 16777216)))
  with_at (Err f) h e = large_at (Err f) e h

  small_at : (r : Result (Unit {0}) TypeFault) → Only (IsLarge place) r → is_too_large (r >>= λ _. with_paths place Paths before >>= λ v. rest v) ≡ true
      → (r >>= λ _. with_paths place Paths before >>= λ v. rest v) ≡ Err (faults.TooLarge place)
  small_at (Ok u) h e = with_at (with_paths place Paths before) (only_paths place (IsEither place) (inl refl) (inr refl) Paths before) e
  small_at (Err f) h e = ap (λ g. Err g) h

  too_large : ways_along xs ≤ 64 → all_small_along Paths ≡ false → answer ≡ Err (faults.TooLarge place)
  too_large h e =
      behind_paths h ∙ small_at (all_small place Paths) (only_small place (IsLarge place) refl Paths) (ap is_too_large (sym (behind_paths h)) ∙ large_where h false e)

  -- all numbers are small
  small_test : (HasLargeNumber xs → ⊥) → all_small_along Paths ≡ true
  small_test no_one = by (all_small_along Paths) refl
    where
      by : (b : Bool) → all_small_along Paths ≡ b → all_small_along Paths ≡ true
      by true e = e
      by false e = absurd (no_one (large_number xs e))

  no_large : all_small_along Paths ≡ true → HasLargeNumber xs → ⊥
  no_large e h = opposite (all_small_along Paths) e (number_fails xs h)

  by_weight : ways_along xs ≤ 64 → all_small_along Paths ≡ true → (cs : List Composition) → AreComposed place Paths cs → (b : Bool) → nat_le (before + sum_by weight_of cs) 16777216 ≡ b
      → answer ≡ cond b (Ok (before + sum_by weight_of cs)) (Err (faults.Limit limits.Weight place)) → IsAnswered place before xs answer
  by_weight h e cs a true t is = subst (IsAnswered place before xs) (sym is) (is_taken h (no_large e) cs a (at_most (before + sum_by weight_of cs) 16777216 t))
  by_weight h e cs a false t is = subst (IsAnswered place before xs) (sym is) (is_heavy h (no_large e) cs a (more (before + sum_by weight_of cs) 16777216 t))

  weight_is : ways_along xs ≤ 64 → all_small_along Paths ≡ true → (cs : List Composition) → AreComposed place Paths cs
      → answer ≡ cond (nat_le (before + sum_by weight_of cs) 16777216) (Ok (before + sum_by weight_of cs)) (Err (faults.Limit limits.Weight place))
  weight_is h e cs a = weights_are_added place xs before cs h (small_is h e) a light

  by_fault : ways_along xs ≤ 64 → all_small_along Paths ≡ true → (f : TypeFault) → answer ≡ Err f → IsEither place f → IsAnswered place before xs answer
  by_fault h e f is (inl large) = absurd (not_large h e (is ∙ ap (λ g. Err g) large))
  by_fault h e f is (inr many) =
      let same : answer ≡ Err (faults.Limit limits.Atoms place) = is ∙ ap (λ g. Err g) many in
      subst (IsAnswered place before xs) (sym same) (has_many_atoms h (no_large e) ((atoms_refuse place xs before h (small_is h e)).0 same))

  by_ends : ways_along xs ≤ 64 → all_small_along Paths ≡ true → Ends place Paths before → IsAnswered place before xs answer
  by_ends h e (inl k) = by_weight h e k.0 k.1 (nat_le (before + sum_by weight_of k.0) 16777216) refl (weight_is h e k.0 k.1)
  by_ends h e (inr k) =
      let is : answer ≡ Err k.0 = behind_limits place xs before (counted h) (small_is h e) ∙ ap (λ (r : Result ℕ TypeFault). r >>= λ v. rest v) k.1 in
      by_fault h e k.0 is (fault_of (IsEither place) (with_paths place Paths before) k.0 k.1 (only_paths place (IsEither place) (inl refl) (inr refl) Paths before))

  by_numbers : ways_along xs ≤ 64 → (b : Bool) → all_small_along Paths ≡ b → IsAnswered place before xs answer
  by_numbers h false e = subst (IsAnswered place before xs) (sym (too_large h e)) (has_large_number h (large_number xs e))
  by_numbers h true e = by_ends h e (composed_or place Paths before)

  by_ways : (b : Bool) → nat_le (ways_along xs) 64 ≡ b → IsAnswered place before xs answer
  by_ways false e = let many = more (ways_along xs) 64 e in subst (IsAnswered place before xs) (sym ((paths_refuse place xs before).1 many)) (has_many_paths many)
  by_ways true e = by_numbers (at_most (ways_along xs) 64 e) (all_small_along Paths) refl

  told : (r : Result ℕ TypeFault) → IsAnswered place before xs r → answer ≡ r
  told r (has_many_paths many) = (paths_refuse place xs before).1 many
  told r (has_large_number h large) = too_large h (number_fails xs large)
  told r (has_many_atoms h none many) = (atoms_refuse place xs before h (small_is h (small_test none))).1 many
  told r (is_heavy h none cs a past) =
      weight_is h (small_test none) cs a
      ∙ ap (λ b. cond b (Ok (before + sum_by weight_of cs)) (Err (faults.Limit limits.Weight place))) (is_more (before + sum_by weight_of cs) 16777216 past)
  told r (is_taken h none cs a within) =
      weight_is h (small_test none) cs a
      ∙ ap (λ b. cond b (Ok (before + sum_by weight_of cs)) (Err (faults.Limit limits.Weight place))) (is_at_most (before + sum_by weight_of cs) 16777216 within)

  answered : (r : Result ℕ TypeFault) → (answer ≡ r) ↔ IsAnswered place before xs r
  answered r = (λ is. subst (IsAnswered place before xs) is (by_ways (nat_le (ways_along xs) 64) refl), λ h. told r h)

pub groups_are_answered : GroupsAreAnswered
groups_are_answered vs xs place before few fits light r = answered vs xs place before few fits light r

pub groups_are_typed : GroupsAreTyped
groups_are_typed vs s l head place ss st xs few fits light pieces r h =
    let is : grouped place xs st.weight ≡ r = told vs xs place st.weight few fits light r h in
    record {
      gives =
          ap (λ (z : Result Pieces TypeFault). z >>= λ ys. grouped place ys st.weight >>= λ w. give (tree.group ys) (with_weight w st)) pieces
          ∙ ap (λ (z : Result ℕ TypeFault). z >>= λ w. give (tree.group xs) (with_weight w st)) is;
      rules = ap (λ (z : Result Pieces TypeFault). inside_faults s place ss ++ limit_faults place st.weight z) pieces ∙ ap (λ (z : Result ℕ TypeFault). inside_faults s place ss ++ faults_of z) is;
    }
