-- The limits of a group are told at its first token.
use Rattle.std.proofs.Common.{◌≡◌, ℕ, suc, ◌++◌, Bool, true, false, cond, List, [], ◌∷◌, length, nat_le, refl, arith, Option, Some, None, Result, Ok, Err}
use Rattle.st_linear.specs.Linear.{Linear, replaced}
use Rattle.st_form.specs.Formula.{Formula, formulas, atoms, atoms_of}
use Rattle.st_form.specs.Exchange.{Exchange, exchanged}
use Rattle.st_tokens.specs.declared.limit.LimitKind.TheVariants as limits
use Rattle.st_program.specs.Tree.{Term, number, truth, Pieces}
use Rattle.st_program.specs.Groups.{Link, tested, given, paths_along, signed}
use Rattle.expression_typer.specs.declared.fault.TypeFault.{TypeFault}
use Rattle.expression_typer.specs.declared.fault.TypeFault.TheVariants as faults
use Rattle.expression_typer.specs.Answers.{◌>>=◌}
use Rattle.expression_typer.specs.Written.{is_writable, limited}
use Rattle.spl_typer.specs.Groups.{Numbers, Composition, nothing, large_unless, limit_unless, composed_number, with_number, numbers_of, numbers_put, numbers_behind, numbers_on, all_small, few, composed_formula, term_on, terms_on, put_all, met, guarded, link_on, path_on, with_path, with_paths, grouped}
use Rattle.expression_typer.specs.Placed.{place}
use Rattle.spl_typer.specs.StatementRules.{faults_of}
use Rattle.typing_laws.specs.Laws.{IsRule}
use Rattle.typing_laws.proofs.Ordering.{Ordered, alone}

-- a fault is a rule's, at this place
abbrev Tells : {A : Type 0} → ℕ → Result A TypeFault → Type 0
Tells p (Ok x) = Unit {0}
Tells p (Err f) = (place f ≡ p) × IsRule f

bind : {A B : Type 0} (p : ℕ) (r : Result A TypeFault) (k : A → Result B TypeFault) → Tells p r → ((x : A) → Tells p (k x)) → Tells p (r >>= k)
bind p (Ok x) k h go = go x
bind p (Err f) k h go = h

module _ (p : ℕ) where
  told_or : {A : Type 0} (b : Bool) (x : A) (f : TypeFault) → place f ≡ p → IsRule f → Tells {A = A} p (cond b (Ok x) (Err f))
  told_or true x f e h = tt
  told_or false x f e h = (e, h)

  large_told : {A : Type 0} (o : Option A) → Tells p (large_unless p o)
  large_told None = (refl, tt)
  large_told (Some x) = tt

  limited_told : (f : Linear) → Tells p (limited p f)
  limited_told f = told_or (is_writable f) f (faults.TooLarge p) refl tt

  number_told : (ns : Numbers) (f : Linear) → Tells p (composed_number p ns f)
  number_told ns f = bind p (large_unless p (replaced ns f)) (λ g. limited p g) (large_told (replaced ns f)) limited_told

  with_told : (ns : Numbers) (v : ℕ) (t : Term) (done : Numbers) → Tells p (with_number p ns v t done)
  with_told ns v (number f) done = bind p (composed_number p ns f) (λ g. Ok (done ++ (v, g) ∷ [])) (number_told ns f) (λ g. tt)
  with_told ns v (truth f) done = tt

  numbers_told : (ns done : Numbers) (xs : List (ℕ × Term)) → Tells p (numbers_of p ns done xs)
  numbers_told ns done [] = tt
  numbers_told ns done (x ∷ xs) = bind p (with_number p ns x.0 x.1 done) (λ more. numbers_of p ns more xs) (with_told ns x.0 x.1 done) (λ more. numbers_told ns more xs)

  behind_told : (link : Link) (ns : Numbers) → Tells p (numbers_behind p link ns)
  behind_told (tested f b) ns = tt
  behind_told (given xs) ns = bind p (numbers_of p ns [] xs) (λ new. Ok (numbers_put new ns)) (numbers_told ns [] xs) (λ new. tt)

  on_told : (path : List Link) (ns : Numbers) → Tells p (numbers_on p path ns)
  on_told [] ns = tt
  on_told (link ∷ path) ns = bind p (numbers_behind p link ns) (λ ms. numbers_on p path ms) (behind_told link ns) (λ ms. on_told path ms)

  small_told : (paths : List (List Link)) → Tells p (all_small p paths)
  small_told [] = tt
  small_told (path ∷ paths) = bind p (numbers_on p path []) (λ ns. all_small p paths) (on_told path []) (λ ns. small_told paths)

  few_told : (f : Formula) → Tells p (few p f)
  few_told f = told_or (nat_le (atoms f) 2048) f (faults.Limit limits.Atoms p) refl tt

  term_told : (c : Exchange) (t : Term) → Tells p (term_on p c t)
  term_told c (number f) = bind p (composed_number p c.numbers f) (λ g. Ok (number g)) (number_told c.numbers f) (λ g. tt)
  term_told c (truth f) = bind p (composed_formula p c f) (λ g. few p g >>= λ h. Ok (truth h)) (large_told (exchanged c f)) (λ g. bind p (few p g) (λ h. Ok (truth h)) (few_told g) (λ h. tt))

  terms_told : (c : Exchange) (done xs : List (ℕ × Term)) → Tells p (terms_on p c done xs)
  terms_told c done [] = tt
  terms_told c done (x ∷ xs) = bind p (term_on p c x.1) (λ t. terms_on p c (done ++ (x.0, t) ∷ []) xs) (term_told c x.1) (λ t. terms_told c (done ++ (x.0, t) ∷ []) xs)

  guard_told : (c : Composition) → Tells p (guarded p c)
  guard_told c = told_or (nat_le (atoms_of (formulas c.tests)) 2048) c (faults.Limit limits.Atoms p) refl tt

  link_told : (link : Link) (c : Composition) → Tells p (link_on p link c)
  link_told (tested f b) c = bind p (composed_formula p c.change f) (λ g. guarded p (met (signed b g) c)) (large_told (exchanged c.change f)) (λ g. guard_told (met (signed b g) c))
  link_told (given xs) c = bind p (terms_on p c.change [] xs) (λ new. Ok (put_all new c)) (terms_told c.change [] xs) (λ new. tt)

  path_told : (path : List Link) (c : Composition) → Tells p (path_on p path c)
  path_told [] c = tt
  path_told (link ∷ path) c = bind p (link_on p link c) (λ d. path_on p path d) (link_told link c) (λ d. path_told path d)

  paths_told : (paths : List (List Link)) (w : ℕ) → Tells p (with_paths p paths w)
  paths_told [] w = tt
  paths_told (path ∷ paths) w = bind p (path_on p path nothing) (λ c. with_paths p paths (with_path w c)) (path_told path nothing) (λ c. paths_told paths (with_path w c))

  group_told : (xs : Pieces) (w : ℕ) → Tells p (grouped p xs w)
  group_told xs w =
      bind p (limit_unless (nat_le (length (paths_along xs)) 64) (faults.Limit limits.Paths p)) _ (told_or (nat_le (length (paths_along xs)) 64) tt (faults.Limit limits.Paths p) refl tt)
      (λ a. bind p (all_small p (paths_along xs)) _ (small_told (paths_along xs))
      (λ b. bind p (with_paths p (paths_along xs) w) _ (paths_told (paths_along xs) w)
      (λ v. bind p (limit_unless (nat_le v 16777216) (faults.Limit limits.Weight p)) _ (told_or (nat_le v 16777216) tt (faults.Limit limits.Weight p) refl tt) (λ c. tt))))

pub group_ordered : (p w : ℕ) (xs : Pieces) → Ordered p (suc p) (faults_of (grouped p xs w))
group_ordered p w xs = go (grouped p xs w) (group_told p xs w)
  where
    go : (r : Result ℕ TypeFault) → Tells p r → Ordered p (suc p) (faults_of r)
    go (Ok v) h = omega arith
    go (Err f) h = rw (← h.0) (alone f h.1)
