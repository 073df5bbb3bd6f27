-- How large what is composed along a path is, told without composing a formula.
--
-- A truth variable counts as much as the value that it was given. Nobody has to believe this page: that it tells the sizes of
-- the formulas that Groups composes is a lemma.
use Rattle.std.specs.Prelude.{ℕ, ◌-◌, ◌^◌, ◌++◌, ◌==◌, min, if◌then◌else◌, nat_le, List, [], ◌∷◌, length, Result, Ok, Err}
use Rattle.st_linear.specs.Linear.{Linear, replaced}
use Rattle.st_form.specs.Formula.{Formula, Formulas, truth_value, row, equal, bool_var, at, negation, every, some, none, more, atoms, weight}
use Rattle.st_tokens.specs.declared.limit.LimitKind.TheVariants as limits
use Rattle.st_program.specs.Tree.{Term, number, truth}
use Rattle.st_program.specs.Groups.{Link, tested, given, inserted}
use Rattle.expression_typer.specs.declared.fault.TypeFault.{TypeFault}
use Rattle.expression_typer.specs.declared.fault.TypeFault.TheVariants as faults
use Rattle.spl_typer.specs.declared.measure.Size.{Size}
use Rattle.spl_typer.specs.declared.composing.Side.{Side}
use Rattle.spl_typer.specs.declared.composing.Side.TheVariants as sides
use Rattle.expression_typer.specs.Answers.{◌>>=◌}
use Rattle.spl_typer.specs.Groups.{Numbers, large_unless, composed_number, added, numbers_weight}

abbrev pub capped : ℕ → ℕ
capped n = min n (2 ^ 64 - 1)

abbrev pub size_of : Formula → Size
size_of f = record { atoms = capped (atoms f); weight = capped (weight f) }

abbrev pub no_size : Size
no_size = record { atoms = 0; weight = 0 }

abbrev pub leaf : Size
leaf = record { atoms = 1; weight = 1 }

abbrev pub row_size : Linear → Size
row_size f = record { atoms = 1; weight = added 1 (length f.entries) }

abbrev pub both : Size → Size → Size
both a b = record { atoms = added a.atoms b.atoms; weight = added a.weight b.weight }

-- the size of the value that a truth variable has
abbrev pub size_for : ℕ → List (ℕ × Size) → Size
size_for v [] = leaf
size_for v (p ∷ ps) = if p.0 == v then p.1 else size_for v ps

abbrev mutual
  -- the size of a formula with these numbers in the place of variables, and truth values of these sizes
  pub sized : ℕ → Numbers → List (ℕ × Size) → Formula → Result Size TypeFault
  sized place ns ts (truth_value b) = Ok no_size
  sized place ns ts (row f) = large_unless place (replaced ns f) >>= λ g. Ok (row_size g)
  sized place ns ts (equal f) = large_unless place (replaced ns f) >>= λ g. Ok (row_size g)
  sized place ns ts (bool_var v) = Ok (size_for v ts)
  sized place ns ts (at l) = Ok leaf
  sized place ns ts (negation f) = sized place ns ts f
  sized place ns ts (every fs) = all_sized place ns ts no_size fs
  sized place ns ts (some fs) = all_sized place ns ts no_size fs

  pub all_sized : ℕ → Numbers → List (ℕ × Size) → Size → Formulas → Result Size TypeFault
  all_sized place ns ts sum none = Ok sum
  all_sized place ns ts sum (more f fs) = sized place ns ts f >>= λ s. all_sized place ns ts (both sum s) fs

-- the sizes of a path's tests, the numbers that it gives, and the sizes of the truth values
pub record Measure : Type 0 where
  pub tests : List Size
  pub numbers : Numbers
  pub truths : List (ℕ × Size)

abbrev pub no_measure : Measure
no_measure = record { tests = []; numbers = []; truths = [] }

abbrev pub few_atoms : ℕ → Size → Result Size TypeFault
few_atoms place s = if nat_le s.atoms 2048 then Ok s else Err (faults.Limit limits.Atoms place)

abbrev pub side_on : ℕ → Measure → Term → Result Side TypeFault
side_on place m (number f) = composed_number place m.numbers f >>= λ g. Ok (sides.Number g)
side_on place m (truth f) = sized place m.numbers m.truths f >>= λ s. few_atoms place s >>= λ t. Ok (sides.Truth t)

-- the right sides of an assignment, behind those that are done
abbrev pub sides_on : ℕ → Measure → List (ℕ × Side) → List (ℕ × Term) → Result (List (ℕ × Side)) TypeFault
sides_on place m done [] = Ok done
sides_on place m done (x ∷ xs) = side_on place m x.1 >>= λ t. sides_on place m (done ++ (x.0, t) ∷ []) xs

abbrev pub put_side : ℕ → Side → Measure → Measure
put_side v (sides.Number f) m = record { tests = m.tests; numbers = inserted v f m.numbers; truths = m.truths }
put_side v (sides.Truth s) m = record { tests = m.tests; numbers = m.numbers; truths = inserted v s m.truths }

abbrev pub put_sides : List (ℕ × Side) → Measure → Measure
put_sides [] m = m
put_sides (x ∷ xs) m = put_sides xs (put_side x.0 x.1 m)

abbrev pub met_size : Size → Measure → Measure
met_size s m = record { tests = m.tests ++ s ∷ []; numbers = m.numbers; truths = m.truths }

abbrev pub atoms_on : ℕ → List Size → ℕ
atoms_on n [] = n
atoms_on n (s ∷ ss) = atoms_on (added n s.atoms) ss

abbrev pub few_tests : ℕ → Measure → Result Measure TypeFault
few_tests place m = if nat_le (atoms_on 0 m.tests) 2048 then Ok m else Err (faults.Limit limits.Atoms place)

abbrev pub link_measured : ℕ → Link → Measure → Result Measure TypeFault
link_measured place (tested f b) m = sized place m.numbers m.truths f >>= λ s. few_tests place (met_size s m)
link_measured place (given xs) m = sides_on place m [] xs >>= λ new. Ok (put_sides new m)

abbrev pub path_measured : ℕ → List Link → Measure → Result Measure TypeFault
path_measured place [] m = Ok m
path_measured place (link ∷ path) m = link_measured place link m >>= λ n. path_measured place path n

abbrev pub tests_weight : ℕ → List Size → ℕ
tests_weight w [] = w
tests_weight w (s ∷ ss) = tests_weight (added w s.weight) ss

abbrev pub values_weight : ℕ → List (ℕ × Size) → ℕ
values_weight w [] = w
values_weight w (x ∷ xs) = values_weight (added w x.1.weight) xs

abbrev pub with_measure : ℕ → Measure → ℕ
with_measure w m = values_weight (numbers_weight (tests_weight w m.tests) m.numbers) m.truths

abbrev pub paths_measured : ℕ → List (List Link) → ℕ → Result ℕ TypeFault
paths_measured place [] w = Ok w
paths_measured place (path ∷ paths) w = path_measured place path no_measure >>= λ m. paths_measured place paths (with_measure w m)
