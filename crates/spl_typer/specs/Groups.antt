-- The limits of groups.
--
-- At most 64 paths; then numbers alone are composed along all of them, and stay as small as written ones; then tests
-- and truth values are composed, and none nor a guard has more than 2,048 atoms; then the weights of all paths of this
-- group and of the groups before it are at most 16,777,216 together. Numbers come first because they don't depend on
-- truth values, which may grow without bound.
use Rattle.std.specs.Prelude.{ℕ, ◌+◌, ◌-◌, ◌^◌, ◌++◌, min, Bool, if◌then◌else◌, nat_le, List, [], ◌∷◌, length, Option, Some, None, Result, Ok, Err}
use Rattle.st_linear.specs.Linear.{Linear, replaced}
use Rattle.st_form.specs.Formula.{Formula, formulas, atoms, atoms_of, weight}
use Rattle.st_form.specs.Exchange.{Exchange, exchanged}
use Rattle.st_tokens.specs.declared.limit.LimitKind.TheVariants as limits
use Rattle.st_program.specs.Tree.{Term, number, truth, Pieces}
use Rattle.st_program.specs.Groups.{Link, tested, given, paths_along, inserted, signed}
use Rattle.expression_typer.specs.declared.fault.TypeFault.{TypeFault}
use Rattle.expression_typer.specs.declared.fault.TypeFault.TheVariants as faults
use Rattle.expression_typer.specs.Answers.{◌>>=◌}
use Rattle.expression_typer.specs.Written.{limited}

abbrev pub Numbers : Type 0
Numbers = List (ℕ × Linear)

-- what is composed along a path so far: its tests, and the values that it gives
pub record Composition : Type 0 where
  pub tests : List Formula
  pub change : Exchange

abbrev pub nothing : Composition
nothing = record { tests = []; change = record { numbers = []; truths = []; leaves = []; enters = [] } }

abbrev pub large_unless : {X : Type 0} → ℕ → Option X → Result X TypeFault
large_unless at None = Err (faults.TooLarge at)
large_unless at (Some x) = Ok x

abbrev pub limit_unless : Bool → TypeFault → Result (Unit {0}) TypeFault
limit_unless b fault = if b then Ok tt else Err fault

-- a composed right side of an integer variable
abbrev pub composed_number : ℕ → Numbers → Linear → Result Linear TypeFault
composed_number at ns f = large_unless at (replaced ns f) >>= λ g. limited at g

abbrev pub with_number : ℕ → Numbers → ℕ → Term → Numbers → Result Numbers TypeFault
with_number at ns v (number f) done = composed_number at ns f >>= λ g. Ok (done ++ (v, g) ∷ [])
with_number at ns v (truth f) done = Ok done

-- the composed right sides of an assignment's integer variables, behind those that are done
abbrev pub numbers_of : ℕ → Numbers → Numbers → List (ℕ × Term) → Result Numbers TypeFault
numbers_of at ns done [] = Ok done
numbers_of at ns done (x ∷ xs) = with_number at ns x.0 x.1 done >>= λ more. numbers_of at ns more xs

abbrev pub numbers_put : Numbers → Numbers → Numbers
numbers_put [] ns = ns
numbers_put (x ∷ xs) ns = numbers_put xs (inserted x.0 x.1 ns)

abbrev pub numbers_behind : ℕ → Link → Numbers → Result Numbers TypeFault
numbers_behind at (tested f b) ns = Ok ns
numbers_behind at (given xs) ns = numbers_of at ns [] xs >>= λ new. Ok (numbers_put new ns)

abbrev pub numbers_on : ℕ → List Link → Numbers → Result Numbers TypeFault
numbers_on at [] ns = Ok ns
numbers_on at (link ∷ path) ns = numbers_behind at link ns >>= λ ms. numbers_on at path ms

-- the numbers on each path stay small
abbrev pub all_small : ℕ → List (List Link) → Result (Unit {0}) TypeFault
all_small at [] = Ok tt
all_small at (path ∷ paths) = numbers_on at path [] >>= λ ns. all_small at paths

-- a composed formula with few atoms
abbrev pub few : ℕ → Formula → Result Formula TypeFault
few at f = if nat_le (atoms f) 2048 then Ok f else Err (faults.Limit limits.Atoms at)

abbrev pub composed_formula : ℕ → Exchange → Formula → Result Formula TypeFault
composed_formula at c f = large_unless at (exchanged c f)

abbrev pub term_on : ℕ → Exchange → Term → Result Term TypeFault
term_on at c (number f) = composed_number at c.numbers f >>= λ g. Ok (number g)
term_on at c (truth f) = composed_formula at c f >>= λ g. few at g >>= λ h. Ok (truth h)

-- the composed right sides of an assignment, behind those that are done
abbrev pub terms_on : ℕ → Exchange → List (ℕ × Term) → List (ℕ × Term) → Result (List (ℕ × Term)) TypeFault
terms_on at c done [] = Ok done
terms_on at c done (x ∷ xs) = term_on at c x.1 >>= λ t. terms_on at c (done ++ (x.0, t) ∷ []) xs

abbrev pub put : ℕ → Term → Composition → Composition
put v (number f) c = record {
  tests = c.tests;
  change = record { numbers = inserted v f c.change.numbers; truths = c.change.truths; leaves = c.change.leaves; enters = c.change.enters };
}
put v (truth f) c = record {
  tests = c.tests;
  change = record { numbers = c.change.numbers; truths = inserted v f c.change.truths; leaves = c.change.leaves; enters = c.change.enters };
}

abbrev pub put_all : List (ℕ × Term) → Composition → Composition
put_all [] c = c
put_all (x ∷ xs) c = put_all xs (put x.0 x.1 c)

abbrev pub met : Formula → Composition → Composition
met f c = record { tests = c.tests ++ f ∷ []; change = c.change }

-- a guard with few atoms: a test has no more of them than the guard that it becomes part of
abbrev pub guarded : ℕ → Composition → Result Composition TypeFault
guarded at c = if nat_le (atoms_of (formulas c.tests)) 2048 then Ok c else Err (faults.Limit limits.Atoms at)

abbrev pub link_on : ℕ → Link → Composition → Result Composition TypeFault
link_on at (tested f b) c = composed_formula at c.change f >>= λ g. guarded at (met (signed b g) c)
link_on at (given xs) c = terms_on at c.change [] xs >>= λ new. Ok (put_all new c)

abbrev pub path_on : ℕ → List Link → Composition → Result Composition TypeFault
path_on at [] c = Ok c
path_on at (link ∷ path) c = link_on at link c >>= λ d. path_on at path d

-- sums stand still at the largest number of 64 bits
abbrev pub added : ℕ → ℕ → ℕ
added a b = min (a + b) (2 ^ 64 - 1)

abbrev pub numbers_weight : ℕ → Numbers → ℕ
numbers_weight w [] = w
numbers_weight w (x ∷ xs) = numbers_weight (added w (length x.1.entries)) xs

abbrev pub formulas_weight : ℕ → List Formula → ℕ
formulas_weight w [] = w
formulas_weight w (f ∷ fs) = formulas_weight (added w (weight f)) fs

abbrev pub truths_weight : ℕ → List (ℕ × Formula) → ℕ
truths_weight w [] = w
truths_weight w (x ∷ xs) = truths_weight (added w (weight x.1)) xs

-- a weight with that of a path's guard and of the values that stand at its end
abbrev pub with_path : ℕ → Composition → ℕ
with_path w c = truths_weight (numbers_weight (formulas_weight w c.tests) c.change.numbers) c.change.truths

-- a weight with those of all paths
abbrev pub with_paths : ℕ → List (List Link) → ℕ → Result ℕ TypeFault
with_paths at [] w = Ok w
with_paths at (path ∷ paths) w = path_on at path nothing >>= λ c. with_paths at paths (with_path w c)

-- the weight with this group, or the fault of its limits
abbrev pub grouped : ℕ → Pieces → ℕ → Result ℕ TypeFault
grouped at xs w =
    limit_unless (nat_le (length (paths_along xs)) 64) (faults.Limit limits.Paths at) >>= λ _.
    all_small at (paths_along xs) >>= λ _.
    with_paths at (paths_along xs) w >>= λ v.
    limit_unless (nat_le v 16777216) (faults.Limit limits.Weight at) >>= λ _. Ok v
