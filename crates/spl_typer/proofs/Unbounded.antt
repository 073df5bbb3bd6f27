-- No number on the way through a group comes to 2^100.
use Rattle.std.proofs.Common.{◌≡◌, ℕ, zero, suc, ◌+◌, ◌^◌, ◌<◌, ◌≤◌, ◌&&◌, ◌++◌, Bool, true, false, not, cond, nat_le, ◌==◌, nat_lt, List, [], ◌∷◌, map, flat_map, length, refl, ap, sym, ◌∙◌, arith, ℤ, ◌*ℤ◌, unsigned_abs, Option, Some, None, Result, Ok, Err, append-nil, append_assoc}
use Rattle.std.specs.Prelude.{is_some, option_and_then}
use Rattle.std.specs.Option.{option_map}
use Rattle.std.proofs.lemmas.Bool.{and_parts}
use Rattle.std.proofs.lemmas.Int.{unsigned_abs-mul}
use Rattle.std.proofs.lemmas.Nat.{mul-le}
use Rattle.st_linear.specs.Linear.{Linear, AreEntries, AllAbove, fitting, sum_of, scaled, scaled_entries, form_for, kept_entries, with_one, with_listed, replaced}
use Rattle.st_form.specs.Formula.{Formula, Formulas, truth_value, row, equal, bool_var, at, negation, every, some, none, more, formulas, atoms, atoms_of}
use Rattle.st_form.specs.Exchange.{Exchange, exchanged, all_exchanged, truth_for}
use Rattle.st_form.specs.declared.variables.Variable.{Variable}
use Rattle.st_tokens.specs.declared.limit.LimitKind.TheVariants as limits
use Rattle.st_program.specs.Tree.{Term, number, truth, Piece, Pieces, piece_skip, piece_assign, piece_await, piece_if, no_piece, piece}
use Rattle.st_program.specs.Types.{type_of, EntriesFit, LinearFits, FormulasFit, TestFits, TermFits, TargetsFit, PieceFits, PiecesFit}
use Rattle.st_program.specs.Groups.{Link, tested, given, paths, paths_along, inserted, signed}
use Rattle.expression_typer.specs.declared.fault.TypeFault.{TypeFault}
use Rattle.expression_typer.specs.declared.fault.TypeFault.TheVariants as faults
use Rattle.expression_typer.specs.Answers.{◌>>=◌}
use Rattle.expression_typer.specs.Written.{is_writable, limited}
use Rattle.spl_typer.specs.Groups.{Numbers, Composition, nothing, large_unless, limit_unless, composed_number, composed_formula, few, term_on, terms_on, put, put_all, met, guarded, link_on, path_on, with_number, numbers_of, numbers_put, numbers_on, all_small, with_path, with_paths, grouped}
use Rattle.spl_typer.specs.Unbounded.{with_form, with_forms, composed_form, composed_side, composed_sides, all_writable, are_small_along, all_small_along, is_too_large, IsTooLargeExactly}
use Rattle.expression_typer.proofs.Sizes.{Within, Bounded, bounded_written, bounded_sum, bounded_fits, within_entry}
use Rattle.basic_laws.proofs.Integers.{product}
use Rattle.list_laws.specs.Each.{Each}
use Rattle.list_laws.proofs.Eachs.{each_weaker, each_append, each_flat}

each_map : {X Y : Type 0} (P : Y → Type 0) (f : X → Y) (xs : List X) → Each (λ x. P (f x)) xs → Each P (map f xs)
each_map P f [] h = tt
each_map P f (x ∷ xs) h = (h.0, each_map P f xs h.1)

each_inserted : {X : Type 0} (P : X → Type 0) (v : ℕ) (x : X) (ps : List (ℕ × X)) → P x → Each (λ p. P p.1) ps → Each (λ p. P p.1) (inserted v x ps)
each_inserted P v x [] h k = (h, tt)
each_inserted {X} P v x (p ∷ ps) h k = go (nat_lt v p.0) (v == p.0) (each_inserted P v x ps h k.1)
  where
    go : (a b : Bool) → Each (λ (q : ℕ × X). P q.1) (inserted v x ps) → Each (λ (q : ℕ × X). P q.1) (cond a ((v, x) ∷ p ∷ ps) (cond b ((v, x) ∷ ps) (p ∷ inserted v x ps)))
    go true b r = (h, k)
    go false true r = (h, k.1)
    go false false r = (k.0, r)

-- sizes

scaled_within : (z : ℤ) → unsigned_abs z ≤ 2 ^ 32 → (es : List (ℕ × ℤ)) → Within (2 ^ 30) es → Within (2 ^ 62) (scaled_entries z es)
scaled_within z h [] k = tt
scaled_within z h (e ∷ es) k = within_entry (2 ^ 62) e.0 (e.1 *ℤ z) (scaled_entries z es) (product e.1 z k.0 h) (scaled_within z h es k.1)

scaled_bounded : (z : ℤ) (f : Linear) → unsigned_abs z ≤ 2 ^ 32 → Bounded (2 ^ 30) f → Bounded (2 ^ 62) (scaled z f)
scaled_bounded z f h k = record { constant = product f.constant z k.constant h; entries = scaled_within z h f.entries k.entries }

-- the bound behind some more summands
abbrev behind : ℕ → ℕ → ℕ
behind zero b = b
behind (suc n) b = behind n (b + 2 ^ 62)

behind_le : (n b : ℕ) → b ≤ behind n b
behind_le zero b = omega arith
behind_le (suc n) b = let h = behind_le n (b + 2 ^ 62) in omega arith

behind_more : (n m b c : ℕ) → n ≤ m → b ≤ c → behind n b ≤ behind m c
behind_more zero m b c h k = let g = behind_le m c in omega arith
behind_more (suc n) zero b c h k = absurd (omega arith)
behind_more (suc n) (suc m) b c h k = behind_more n m (b + 2 ^ 62) (c + 2 ^ 62) (omega arith) (omega arith)

fitting_is : (b : ℕ) (f : Linear) → b < 2 ^ 100 → Bounded b f → fitting f ≡ Some f
unfolding fitting
fitting_is b f h k = rw (bounded_fits b f h k) refl

form_bounded : (v : ℕ) (ns : Numbers) (g : Linear) → Each (λ p. Bounded (2 ^ 30) p.1) ns → form_for v ns ≡ Some g → Bounded (2 ^ 30) g
form_bounded v [] g h e = cc
form_bounded v (p ∷ ps) g h e = go (p.0 == v) e (form_bounded v ps g h.1)
  where
    go : (b : Bool) → cond b (Some p.1) (form_for v ps) ≡ Some g → (form_for v ps ≡ Some g → Bounded (2 ^ 30) g) → Bounded (2 ^ 30) g
    go true q down = let same : p.1 ≡ g = cc in rw (sym same) h.0
    go false q down = down q

listed_is : (ns : Numbers) → Each (λ p. Bounded (2 ^ 30) p.1) ns → (es : List (ℕ × ℤ)) → Within (2 ^ 32) es → (f : Linear) (d : ℕ) → Bounded d f → behind (length es) d < 2 ^ 100
    → with_listed ns es f ≡ Some (with_forms ns es f)
listed_is ns k [] h f d g lt = refl
listed_is ns k (e ∷ es) h f d g lt = go (form_for e.0 ns) refl (λ f d g lt. listed_is ns k es h.1 f d g lt)
  where
    go : (o : Option Linear) → form_for e.0 ns ≡ o
        → ((f : Linear) (d : ℕ) → Bounded d f → behind (length es) d < 2 ^ 100 → with_listed ns es f ≡ Some (with_forms ns es f))
        → with_one o e.1 (with_listed ns es) f ≡ Some (with_forms ns es (with_form o e.1 f))
    go None q down =
        let l = behind_more (length es) (length es) d (d + 2 ^ 62) (omega arith) (omega arith) in
        down f d g (omega arith)
    go (Some form) q down =
        let l = behind_le (length es) (d + 2 ^ 62) in
        let multiple = scaled_bounded e.1 form h.0 (form_bounded e.0 ns form k q) in
        let whole = bounded_sum d (2 ^ 62) f (scaled e.1 form) g multiple in
        ap (λ o. option_and_then (with_listed ns es) (option_and_then (λ p. fitting (sum_of f p)) o)) (fitting_is (2 ^ 62) (scaled e.1 form) (omega arith) multiple)
        ∙ (ap (option_and_then (with_listed ns es)) (fitting_is (d + 2 ^ 62) (sum_of f (scaled e.1 form)) (omega arith) whole)
        ∙ down (sum_of f (scaled e.1 form)) (d + 2 ^ 62) whole lt)

kept_within : (b : ℕ) (ns : Numbers) (es : List (ℕ × ℤ)) → Within b es → Within b (kept_entries ns es)
kept_within b ns [] h = tt
kept_within b ns (e ∷ es) h = go (is_some (form_for e.0 ns)) (kept_within b ns es h.1)
  where
    go : (t : Bool) → Within b (kept_entries ns es) → Within b (cond t (kept_entries ns es) (e ∷ kept_entries ns es))
    go true r = r
    go false r = (h.0, r)

-- a form of a program has no more entries than there are variables
index_lt : (vs : List Variable) (v : ℕ) (b : Bool) → type_of vs v ≡ Some b → v < length vs
index_lt [] v b e = cc
index_lt (x ∷ xs) zero b e = omega arith
index_lt (x ∷ xs) (suc v) b e = let h = index_lt xs v b e in omega arith

from_above : (v : ℕ) (es : List (ℕ × ℤ)) → AllAbove v es → Each (λ e. suc v ≤ e.0) es
from_above v [] h = tt
from_above v (e ∷ es) h = ((let q = h.0 in omega arith), from_above v es h.1)

from_zero : (es : List (ℕ × ℤ)) → Each (λ e. 0 ≤ e.0) es
from_zero [] = tt
from_zero (e ∷ es) = (omega arith, from_zero es)

entries_count : (vs : List Variable) (bound : ℕ) (es : List (ℕ × ℤ)) (low : ℕ) → low ≤ length vs → Each (λ e. low ≤ e.0) es → AreEntries es → EntriesFit vs bound es → length es + low ≤ length vs
entries_count vs bound [] low le h k g = omega arith
entries_count vs bound (e ∷ es) low le h k g =
    let lt = index_lt vs e.0 false g.0 in
    let r = entries_count vs bound es (suc e.0) (omega arith) (from_above e.0 es k.0) k.2 g.2 in
    let q = h.0 in
    omega arith

entries_within : (vs : List Variable) (bound : ℕ) (es : List (ℕ × ℤ)) → bound ≤ suc (2 ^ 32) → EntriesFit vs bound es → Within (2 ^ 32) es
entries_within vs bound [] le h = tt
entries_within vs bound (e ∷ es) le h = ((let q = h.1 in omega arith), entries_within vs bound es le h.2)

top : behind 64 (2 ^ 32) ≡ 2 ^ 32 + 2 ^ 68
top = refl

abbrev Small : Numbers → Type 0
Small ns = Each (λ p. Bounded (2 ^ 30) p.1) ns

module _ (vs : List Variable) (few_variables : length vs ≤ 64) where
  replaced_is : (ns : Numbers) → Small ns → (bound : ℕ) → bound ≤ suc (2 ^ 32) → (f : Linear) → LinearFits vs bound f → replaced ns f ≡ Some (composed_form ns f)
  replaced_is ns k bound le f h =
      let count = entries_count vs bound f.entries 0 (omega arith) (from_zero f.entries) h.rising h.entries in
      let within = entries_within vs bound f.entries le h.entries in
      let most = behind_more (length f.entries) 64 (2 ^ 32) (2 ^ 32) (omega arith) (omega arith) in
      let t = top in
      listed_is ns k f.entries within (record { constant = f.constant; entries = kept_entries ns f.entries }) (2 ^ 32)
      (record { constant = (let q = h.constant in omega arith); entries = kept_within (2 ^ 32) ns f.entries within }) (omega arith)

  number_is : (place : ℕ) (ns : Numbers) → Small ns → (f : Linear) → LinearFits vs (suc (2 ^ 30)) f → composed_number place ns f ≡ limited place (composed_form ns f)
  number_is place ns k f h = ap (λ o. large_unless place o >>= λ g. limited place g) (replaced_is ns k (suc (2 ^ 30)) (omega arith) f h)

  -- a formula that is composed
  abbrev There : Option Formula → Type 0
  There o = (g : Formula) × (o ≡ Some g)

  mutual
    exchanged_there : (x : Exchange) → Small x.numbers → (f : Formula) → TestFits vs f → There (exchanged x f)
    exchanged_there x k (truth_value b) h = (truth_value b, refl)
    exchanged_there x k (row f) h = (row (composed_form x.numbers f), ap (option_map row) (replaced_is x.numbers k (2 ^ 32) (omega arith) f h))
    exchanged_there x k (equal f) h = (equal (composed_form x.numbers f), ap (option_map equal) (replaced_is x.numbers k (2 ^ 32) (omega arith) f h))
    exchanged_there x k (bool_var v) h = (truth_for v x.truths, refl)
    exchanged_there x k (at l) h = absurd h
    exchanged_there x k (negation f) h = let r = exchanged_there x k f h in (negation r.0, ap (option_map negation) r.1)
    exchanged_there x k (every fs) h = let r = all_there x k fs h in (every r.0, ap (option_map every) r.1)
    exchanged_there x k (some fs) h = let r = all_there x k fs h in (some r.0, ap (option_map some) r.1)

    all_there : (x : Exchange) → Small x.numbers → (fs : Formulas) → FormulasFit vs (2 ^ 32) fs → (gs : Formulas) × (all_exchanged x fs ≡ Some gs)
    all_there x k none h = (none, refl)
    all_there x k (more f fs) h =
        let r = exchanged_there x k f h.0 in
        let s = all_there x k fs h.1 in
        (more r.0 s.0, ap (option_and_then (λ g. option_map (more g) (all_exchanged x fs))) r.1 ∙ ap (option_map (more r.0)) s.1)

  abbrev LinkFits : Link → Type 0
  LinkFits (tested f b) = TestFits vs f
  LinkFits (given xs) = TargetsFit vs xs

  mutual
    paths_fit : (x : Piece) → PieceFits vs x → Each (Each LinkFits) (paths x)
    paths_fit piece_skip h = (tt, tt)
    paths_fit (piece_assign xs) h = ((h, tt), tt)
    paths_fit (piece_await t) h = ((h, tt), tt)
    paths_fit (piece_if t y n) h =
        each_append (Each LinkFits) (map (λ path. tested t true ∷ path) (paths_along y)) (map (λ path. tested t false ∷ path) (paths_along n))
        (each_map (Each LinkFits) (λ path. tested t true ∷ path) (paths_along y) (each_weaker (Each LinkFits) _ (λ path k. (h.0, k)) (paths_along y) (along_fit y h.1)))
        (each_map (Each LinkFits) (λ path. tested t false ∷ path) (paths_along n) (each_weaker (Each LinkFits) _ (λ path k. (h.0, k)) (paths_along n) (along_fit n h.2)))

    along_fit : (xs : Pieces) → PiecesFit vs xs → Each (Each LinkFits) (paths_along xs)
    along_fit no_piece h = (tt, tt)
    along_fit (piece x xs) h =
        each_flat (Each LinkFits) (Each LinkFits) (λ path. map (λ further. path ++ further) (paths_along xs))
        (λ path k. each_map (Each LinkFits) (λ further. path ++ further) (paths_along xs) (each_weaker (Each LinkFits) _ (λ further q. each_append LinkFits path further k q) (paths_along xs) (along_fit xs h.1)))
        (paths x) (paths_fit x h.0)

  -- the pass over numbers

  numbers_are : (place : ℕ) (ns : Numbers) → Small ns → (done : Numbers) (xs : List (ℕ × Term)) → TargetsFit vs xs
      → numbers_of place ns done xs ≡ cond (all_writable (composed_sides ns xs)) (Ok (done ++ composed_sides ns xs)) (Err (faults.TooLarge place))
  numbers_are place ns k done [] h = ap Ok (sym (append-nil done))
  numbers_are place ns k done (x ∷ xs) h = by_term x.1 h.1 (λ done. numbers_are place ns k done xs h.3)
    where
      by_term : (t : Term) → TermFits vs t
          → ((done : Numbers) → numbers_of place ns done xs ≡ cond (all_writable (composed_sides ns xs)) (Ok (done ++ composed_sides ns xs)) (Err (faults.TooLarge place)))
          → (with_number place ns x.0 t done >>= λ more. numbers_of place ns more xs)
          ≡ cond (all_writable (composed_side ns x.0 t ++ composed_sides ns xs)) (Ok (done ++ (composed_side ns x.0 t ++ composed_sides ns xs))) (Err (faults.TooLarge place))
      by_term (truth f) g down = down done
      by_term (number f) g down =
          ap (λ r. r >>= (λ g. Ok (done ++ (x.0, g) ∷ [])) >>= λ more. numbers_of place ns more xs) (number_is place ns k f g)
          ∙ by_test (is_writable (composed_form ns f))
        where
          by_test : (b : Bool)
              → (cond b (Ok (composed_form ns f)) (Err (faults.TooLarge place)) >>= (λ g. Ok (done ++ (x.0, g) ∷ [])) >>= λ more. numbers_of place ns more xs)
              ≡ cond (b && all_writable (composed_sides ns xs)) (Ok (done ++ ((x.0, composed_form ns f) ∷ composed_sides ns xs))) (Err (faults.TooLarge place))
          by_test false = refl
          by_test true =
              down (done ++ (x.0, composed_form ns f) ∷ [])
              ∙ ap (λ l. cond (all_writable (composed_sides ns xs)) (Ok l) (Err (faults.TooLarge place))) (append_assoc done ((x.0, composed_form ns f) ∷ []) (composed_sides ns xs))

  small_of : (new : Numbers) → all_writable new ≡ true → Small new
  small_of [] h = tt
  small_of (x ∷ xs) h = let p = and_parts (is_writable x.1) (all_writable xs) h in (bounded_written x.1 p.0, small_of xs p.1)

  small_put : (new ns : Numbers) → Small new → Small ns → Small (numbers_put new ns)
  small_put [] ns h k = k
  small_put (x ∷ xs) ns h k = small_put xs (inserted x.0 x.1 ns) h.1 (each_inserted (Bounded (2 ^ 30)) x.0 x.1 ns h.0 k)

  -- goes on exactly where the test holds, and is too large otherwise
  abbrev GoesIf : {X : Type 0} → Bool → Result X TypeFault → Type 0
  GoesIf true (Ok x) = Unit {0}
  GoesIf true (Err f) = ⊥
  GoesIf false (Ok x) = ⊥
  GoesIf false (Err f) = is_too_large (Err f) ≡ true

  numbers_go : (place : ℕ) (path : List Link) (ns : Numbers) → Each LinkFits path → Small ns → GoesIf (are_small_along ns path) (numbers_on place path ns)
  numbers_go place [] ns h k = tt
  numbers_go place (tested f b ∷ path) ns h k = numbers_go place path ns h.1 k
  numbers_go place (given xs ∷ path) ns h k =
      rw (numbers_are place ns k [] xs h.0) (go (all_writable (composed_sides ns xs)) refl (λ l. numbers_go place path (numbers_put (composed_sides ns xs) ns) h.1 l))
    where
      go : (b : Bool) → all_writable (composed_sides ns xs) ≡ b
          → (Small (numbers_put (composed_sides ns xs) ns) → GoesIf (are_small_along (numbers_put (composed_sides ns xs) ns) path) (numbers_on place path (numbers_put (composed_sides ns xs) ns)))
          → GoesIf (b && are_small_along (numbers_put (composed_sides ns xs) ns) path)
          (cond b (Ok (composed_sides ns xs)) (Err (faults.TooLarge place)) >>= (λ new. Ok (numbers_put new ns)) >>= λ ms. numbers_on place path ms)
      go false e down = refl
      go true e down = down (small_put (composed_sides ns xs) ns (small_of (composed_sides ns xs) e) k)

  all_go : (place : ℕ) (ps : List (List Link)) → Each (Each LinkFits) ps → GoesIf (all_small_along ps) (all_small place ps)
  all_go place [] h = tt
  all_go place (path ∷ ps) h = go (are_small_along [] path) (numbers_on place path []) (numbers_go place path [] h.0 tt) (all_go place ps h.1)
    where
      go : (b : Bool) (r : Result Numbers TypeFault) → GoesIf b r → GoesIf (all_small_along ps) (all_small place ps) → GoesIf (b && all_small_along ps) (r >>= λ ns. all_small place ps)
      go true (Ok ns) g down = down
      go true (Err f) g down = absurd g
      go false (Ok ns) g down = absurd g
      go false (Err f) g down = g

  -- the pass over tests and truth values, where the numbers are small

  abbrev Fine : {X : Type 0} → (X → Type 0) → Result X TypeFault → Type 0
  Fine P (Ok x) = P x
  Fine P (Err f) = is_too_large (Err f) ≡ false

  fine_then : {X Y : Type 0} (P : X → Type 0) (Q : Y → Type 0) (r : Result X TypeFault) (k : X → Result Y TypeFault) → Fine P r → ((x : X) → P x → Fine Q (k x)) → Fine Q (r >>= k)
  fine_then P Q (Ok x) k h go = go x h
  fine_then P Q (Err f) k h go = h

  formula_fine : (place : ℕ) (x : Exchange) → Small x.numbers → (f : Formula) → TestFits vs f → Fine (λ g. Unit {0}) (composed_formula place x f)
  formula_fine place x k f h = let r = exchanged_there x k f h in rw r.1 tt

  few_fine : (place : ℕ) (f : Formula) → Fine (λ g. Unit {0}) (few place f)
  few_fine place f = go (nat_le (atoms f) 2048)
    where
      go : (b : Bool) → Fine (λ g. Unit {0}) (cond b (Ok f) (Err (faults.Limit limits.Atoms place)))
      go true = tt
      go false = refl

  abbrev number_side : ℕ → Term → Numbers
  number_side v (number f) = (v, f) ∷ []
  number_side v (truth f) = []

  abbrev number_part : List (ℕ × Term) → Numbers
  number_part [] = []
  number_part (x ∷ xs) = number_side x.0 x.1 ++ number_part xs

  part_behind : (done : List (ℕ × Term)) (v : ℕ) (t : Term) → number_part (done ++ (v, t) ∷ []) ≡ number_part done ++ number_side v t
  part_behind [] v t = append-nil (number_side v t)
  part_behind (x ∷ xs) v t = ap (λ l. number_side x.0 x.1 ++ l) (part_behind xs v t) ∙ sym (append_assoc (number_side x.0 x.1) (number_part xs) (number_side v t))

  writable_parts : (a b : Numbers) → all_writable (a ++ b) ≡ true → (all_writable a ≡ true) × (all_writable b ≡ true)
  writable_parts [] b h = (refl, h)
  writable_parts (x ∷ xs) b h =
      let p = and_parts (is_writable x.1) (all_writable (xs ++ b)) h in
      let q = writable_parts xs b p.1 in
      (ap (λ t. t && all_writable xs) p.0 ∙ q.0, q.1)

  term_fine : (place : ℕ) (x : Exchange) → Small x.numbers → (v : ℕ) (t : Term) → TermFits vs t → all_writable (composed_side x.numbers v t) ≡ true
      → Fine (λ u. number_side v u ≡ composed_side x.numbers v t) (term_on place x t)
  term_fine place x k v (number f) h w =
      let p = and_parts (is_writable (composed_form x.numbers f)) true w in
      rw (number_is place x.numbers k f h, p.0) refl
  term_fine place x k v (truth f) h w =
      fine_then (λ g. Unit {0}) (λ u. number_side v u ≡ []) (composed_formula place x f) _ (formula_fine place x k f h)
      (λ g t. fine_then (λ g. Unit {0}) (λ u. number_side v u ≡ []) (few place g) _ (few_fine place g) (λ h u. refl))

  terms_fine : (place : ℕ) (x : Exchange) → Small x.numbers → (done xs : List (ℕ × Term)) → TargetsFit vs xs → all_writable (composed_sides x.numbers xs) ≡ true
      → Fine (λ new. number_part new ≡ number_part done ++ composed_sides x.numbers xs) (terms_on place x done xs)
  terms_fine place x k done [] h w = sym (append-nil (number_part done))
  terms_fine place x k done (y ∷ ys) h w =
      let p = writable_parts (composed_side x.numbers y.0 y.1) (composed_sides x.numbers ys) w in
      fine_then (λ u. number_side y.0 u ≡ composed_side x.numbers y.0 y.1) (λ new. number_part new ≡ number_part done ++ (composed_side x.numbers y.0 y.1 ++ composed_sides x.numbers ys)) (term_on place x y.1) _
      (term_fine place x k y.0 y.1 h.1 p.0)
      (λ u e. longer u e (terms_on place x (done ++ (y.0, u) ∷ []) ys) (terms_fine place x k (done ++ (y.0, u) ∷ []) ys h.3 p.1))
    where
      longer : (u : Term) → number_side y.0 u ≡ composed_side x.numbers y.0 y.1 → (r : Result (List (ℕ × Term)) TypeFault)
          → Fine (λ new. number_part new ≡ number_part (done ++ (y.0, u) ∷ []) ++ composed_sides x.numbers ys) r
          → Fine (λ new. number_part new ≡ number_part done ++ (composed_side x.numbers y.0 y.1 ++ composed_sides x.numbers ys)) r
      longer u e (Err f) g = g
      longer u e (Ok new) g =
          g ∙ (ap (λ l. l ++ composed_sides x.numbers ys) (part_behind done y.0 u ∙ ap (λ l. number_part done ++ l) e)
          ∙ append_assoc (number_part done) (composed_side x.numbers y.0 y.1) (composed_sides x.numbers ys))

  puts_numbers : (new : List (ℕ × Term)) (c : Composition) → (put_all new c).change.numbers ≡ numbers_put (number_part new) c.change.numbers
  puts_numbers [] c = refl
  puts_numbers (x ∷ xs) c = by_term x.1 (λ d. puts_numbers xs d)
    where
      by_term : (t : Term) → ((d : Composition) → (put_all xs d).change.numbers ≡ numbers_put (number_part xs) d.change.numbers) → (put_all xs (put x.0 t c)).change.numbers ≡ numbers_put (number_side x.0 t ++ number_part xs) c.change.numbers
      by_term (number f) down = down (put x.0 (number f) c)
      by_term (truth f) down = down (put x.0 (truth f) c)

  guarded_fine : (place : ℕ) (c : Composition) (ns : Numbers) → c.change.numbers ≡ ns → Fine (λ d. d.change.numbers ≡ ns) (guarded place c)
  guarded_fine place c ns e = go (nat_le (atoms_of (formulas c.tests)) 2048)
    where
      go : (b : Bool) → Fine (λ (d : Composition). d.change.numbers ≡ ns) (cond b (Ok c) (Err (faults.Limit limits.Atoms place)))
      go true = e
      go false = refl

  given_fine : (place : ℕ) (c : Composition) (ns : Numbers) → c.change.numbers ≡ ns → Small ns → (xs : List (ℕ × Term)) → TargetsFit vs xs → all_writable (composed_sides ns xs) ≡ true
      → Fine (λ d. d.change.numbers ≡ numbers_put (composed_sides ns xs) ns) (link_on place (given xs) c)
  given_fine place c ns e k xs h w =
      fine_then (λ new. number_part new ≡ composed_sides ns xs) (λ (d : Composition). d.change.numbers ≡ numbers_put (composed_sides ns xs) ns) (terms_on place c.change [] xs) _
      (rw (sym e) (terms_fine place c.change (rw e k) [] xs h (rw e w)))
      (λ new i. puts_numbers new c ∙ (ap (λ l. numbers_put l c.change.numbers) i ∙ ap (numbers_put (composed_sides ns xs)) e))

  path_fine : (place : ℕ) (path : List Link) (c : Composition) (ns : Numbers) → c.change.numbers ≡ ns → Each LinkFits path → Small ns → are_small_along ns path ≡ true → Fine (λ d. Unit {0}) (path_on place path c)
  path_fine place [] c ns e h k w = tt
  path_fine place (tested f b ∷ path) c ns e h k w =
      fine_then (λ (d : Composition). d.change.numbers ≡ ns) (λ d. Unit {0}) (link_on place (tested f b) c) _
      (fine_then (λ g. Unit {0}) (λ (d : Composition). d.change.numbers ≡ ns) (composed_formula place c.change f) _ (formula_fine place c.change (rw e k) f h.0) (λ g u. guarded_fine place (met (signed b g) c) ns e))
      (λ d i. path_fine place path d ns i h.1 k w)
  path_fine place (given xs ∷ path) c ns e h k w =
      let p = and_parts (all_writable (composed_sides ns xs)) (are_small_along (numbers_put (composed_sides ns xs) ns) path) w in
      fine_then (λ (d : Composition). d.change.numbers ≡ numbers_put (composed_sides ns xs) ns) (λ d. Unit {0}) (link_on place (given xs) c) _
      (given_fine place c ns e k xs h.0 p.0)
      (λ d i. path_fine place path d (numbers_put (composed_sides ns xs) ns) i h.1 (small_put (composed_sides ns xs) ns (small_of (composed_sides ns xs) p.0) k) p.1)

  paths_fine : (place : ℕ) (ps : List (List Link)) (w : ℕ) → Each (Each LinkFits) ps → all_small_along ps ≡ true → Fine (λ v. Unit {0}) (with_paths place ps w)
  paths_fine place [] w h e = tt
  paths_fine place (path ∷ ps) w h e =
      let p = and_parts (are_small_along [] path) (all_small_along ps) e in
      fine_then (λ c. Unit {0}) (λ v. Unit {0}) (path_on place path nothing) _ (path_fine place path nothing [] refl h.0 tt p.0) (λ c u. paths_fine place ps (with_path w c) h.1 p.1)

  weighed_fine : (v place : ℕ) → is_too_large (limit_unless (nat_le v 16777216) (faults.Limit limits.Weight place) >>= λ u. Ok v) ≡ false
  weighed_fine v place = go (nat_le v 16777216)
    where
      go : (b : Bool) → is_too_large (limit_unless b (faults.Limit limits.Weight place) >>= λ u. Ok v) ≡ false
      go true = refl
      go false = refl

  grouped_is : (xs : Pieces) (place w : ℕ) → PiecesFit vs xs → is_too_large (grouped place xs w) ≡ (nat_le (length (paths_along xs)) 64 && not (all_small_along (paths_along xs)))
  grouped_is xs place w h = by_count (nat_le (length (paths_along xs)) 64)
    where
      weighed : (r : Result ℕ TypeFault) → Fine (λ v. Unit {0}) r → is_too_large (r >>= λ v. limit_unless (nat_le v 16777216) (faults.Limit limits.Weight place) >>= λ u. Ok v) ≡ false
      weighed (Ok v) g = weighed_fine v place
      weighed (Err f) g = g

      by_numbers : (b : Bool) → all_small_along (paths_along xs) ≡ b → (r : Result (Unit {0}) TypeFault) → GoesIf b r
          → is_too_large (r >>= λ u1. with_paths place (paths_along xs) w >>= λ v. limit_unless (nat_le v 16777216) (faults.Limit limits.Weight place) >>= λ u. Ok v) ≡ not b
      by_numbers true e (Ok u) g = weighed (with_paths place (paths_along xs) w) (paths_fine place (paths_along xs) w (along_fit xs h) e)
      by_numbers true e (Err f) g = absurd g
      by_numbers false e (Ok u) g = absurd g
      by_numbers false e (Err f) g = g

      by_count : (b : Bool)
          → is_too_large (limit_unless b (faults.Limit limits.Paths place) >>= λ u. all_small place (paths_along xs) >>= λ u1. with_paths place (paths_along xs) w >>= λ v. limit_unless (nat_le v 16777216) (faults.Limit limits.Weight place) >>= λ u2. Ok v)
          ≡ (b && not (all_small_along (paths_along xs)))
      by_count false = refl
      by_count true = by_numbers (all_small_along (paths_along xs)) refl (all_small place (paths_along xs)) (all_go place (paths_along xs) (along_fit xs h))

pub too_large_exactly : IsTooLargeExactly
too_large_exactly vs xs place w few h = grouped_is vs few xs place w h
