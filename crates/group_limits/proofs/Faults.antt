-- What a fault along a group's paths can be: a number that is too large, or too many atoms. What is so of both is so of each fault.
use Rattle.std.proofs.Common.{ℕ, nat_le, Bool, true, false, if◌then◌else◌, List, [], ◌∷◌, ◌++◌, Option, Some, None, Result, Ok, Err}
use Rattle.st_linear.specs.Linear.{Linear, replaced}
use Rattle.st_form.specs.Formula.{Formula, formulas, atoms, atoms_of}
use Rattle.st_form.specs.Exchange.{Exchange, exchanged}
use Rattle.st_tokens.specs.declared.limit.LimitKind.TheVariants as limits
use Rattle.st_program.specs.Tree.{Term, number, truth}
use Rattle.st_program.specs.Groups.{Link, tested, given, signed}
use Rattle.expression_typer.specs.declared.fault.TypeFault.{TypeFault}
use Rattle.expression_typer.specs.declared.fault.TypeFault.TheVariants as faults
use Rattle.expression_typer.specs.Answers.{◌>>=◌}
use Rattle.expression_typer.specs.Written.{is_writable, limited}
use Rattle.spl_typer.specs.Groups.{Numbers, Composition, nothing, large_unless, composed_number, with_number, numbers_of, numbers_put, numbers_behind, numbers_on, all_small, few, composed_formula, term_on, terms_on, put_all, met, guarded, link_on, path_on, with_path, with_paths}

-- a fault is so
abbrev pub Only : {A : Type 0} → (TypeFault → Type 0) → Result A TypeFault → Type 0
Only Q (Ok x) = Unit {0}
Only Q (Err f) = Q f

pub only_bind : {A B : Type 0} (Q : TypeFault → Type 0) (o : Result A TypeFault) (k : A → Result B TypeFault) → Only Q o → ((x : A) → Only Q (k x)) → Only Q (o >>= k)
only_bind Q (Ok x) k h go = go x
only_bind Q (Err f) k h go = h

pub only_if : {A : Type 0} (Q : TypeFault → Type 0) (b : Bool) (x : A) (f : TypeFault) → Q f → Only Q (if b then Ok x else Err f)
only_if Q true x f h = tt
only_if Q false x f h = h

module _ (at : ℕ) (Q : TypeFault → Type 0) (large : Q (faults.TooLarge at)) where
  only_large : {A : Type 0} (o : Option A) → Only Q (large_unless at o)
  only_large None = large
  only_large (Some x) = tt

  -- NUMBERS
  only_number : (ns : Numbers) (f : Linear) → Only Q (composed_number at ns f)
  only_number ns f = only_bind Q (large_unless at (replaced ns f)) (λ g. limited at g) (only_large (replaced ns f)) (λ g. only_if Q (is_writable g) g (faults.TooLarge at) large)

  only_with : (ns : Numbers) (v : ℕ) (t : Term) (done : Numbers) → Only Q (with_number at ns v t done)
  only_with ns v (number f) done = only_bind Q (composed_number at ns f) (λ g. Ok (done ++ (v, g) ∷ [])) (only_number ns f) (λ g. tt)
  only_with ns v (truth f) done = tt

  only_numbers : (ns done : Numbers) (xs : List (ℕ × Term)) → Only Q (numbers_of at ns done xs)
  only_numbers ns done [] = tt
  only_numbers ns done (x ∷ xs) = only_bind Q (with_number at ns x.0 x.1 done) (λ more. numbers_of at ns more xs) (only_with ns x.0 x.1 done) (λ more. only_numbers ns more xs)

  only_behind : (link : Link) (ns : Numbers) → Only Q (numbers_behind at link ns)
  only_behind (tested f b) ns = tt
  only_behind (given xs) ns = only_bind Q (numbers_of at ns [] xs) (λ new. Ok (numbers_put new ns)) (only_numbers ns [] xs) (λ new. tt)

  only_on : (path : List Link) (ns : Numbers) → Only Q (numbers_on at path ns)
  only_on [] ns = tt
  only_on (link ∷ path) ns = only_bind Q (numbers_behind at link ns) (λ ms. numbers_on at path ms) (only_behind link ns) (λ ms. only_on path ms)

  pub only_small : (paths : List (List Link)) → Only Q (all_small at paths)
  only_small [] = tt
  only_small (path ∷ paths) = only_bind Q (numbers_on at path []) (λ ns. all_small at paths) (only_on path []) (λ ns. only_small paths)

  -- FORMULAS
  module _ (many : Q (faults.Limit limits.Atoms at)) where
    only_formula : (c : Exchange) (f : Formula) → Only Q (composed_formula at c f)
    only_formula c f = only_large (exchanged c f)

    only_term : (c : Exchange) (t : Term) → Only Q (term_on at c t)
    only_term c (number f) = only_bind Q (composed_number at c.numbers f) (λ g. Ok (number g)) (only_number c.numbers f) (λ g. tt)
    only_term c (truth f) =
        only_bind Q (composed_formula at c f) (λ g. few at g >>= λ h. Ok (truth h)) (only_formula c f)
        (λ g. only_bind Q (few at g) (λ h. Ok (truth h)) (only_if Q (nat_le (atoms g) 2048) g (faults.Limit limits.Atoms at) many) (λ h. tt))

    only_terms : (c : Exchange) (done xs : List (ℕ × Term)) → Only Q (terms_on at c done xs)
    only_terms c done [] = tt
    only_terms c done (x ∷ xs) = only_bind Q (term_on at c x.1) (λ t. terms_on at c (done ++ (x.0, t) ∷ []) xs) (only_term c x.1) (λ t. only_terms c (done ++ (x.0, t) ∷ []) xs)

    only_guarded : (c : Composition) → Only Q (guarded at c)
    only_guarded c = only_if Q (nat_le (atoms_of (formulas c.tests)) 2048) c (faults.Limit limits.Atoms at) many

    only_link : (link : Link) (c : Composition) → Only Q (link_on at link c)
    only_link (tested f b) c = only_bind Q (composed_formula at c.change f) (λ g. guarded at (met (signed b g) c)) (only_formula c.change f) (λ g. only_guarded (met (signed b g) c))
    only_link (given xs) c = only_bind Q (terms_on at c.change [] xs) (λ new. Ok (put_all new c)) (only_terms c.change [] xs) (λ new. tt)

    only_path : (path : List Link) (c : Composition) → Only Q (path_on at path c)
    only_path [] c = tt
    only_path (link ∷ path) c = only_bind Q (link_on at link c) (λ d. path_on at path d) (only_link link c) (λ d. only_path path d)

    pub only_paths : (paths : List (List Link)) (w : ℕ) → Only Q (with_paths at paths w)
    only_paths [] w = tt
    only_paths (path ∷ paths) w = only_bind Q (path_on at path nothing) (λ c. with_paths at paths (with_path w c)) (only_path path nothing) (λ c. only_paths paths (with_path w c))
