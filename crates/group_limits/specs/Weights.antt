-- How heavy a group is: the sum over its paths.
use Rattle.std.specs.Prelude.{◌≡◌, ℕ, ◌+◌, ◌≤◌, nat_le, if◌then◌else◌, List, [], ◌∷◌, length, sum_by, Ok, Err}
use Rattle.st_linear.specs.Linear.{Linear}
use Rattle.st_form.specs.Formula.{Formula, weight}
use Rattle.st_program.specs.Tree.{Pieces}
use Rattle.st_program.specs.Groups.{Link, paths_along}
use Rattle.st_tokens.specs.declared.limit.LimitKind.TheVariants as limits
use Rattle.expression_typer.specs.declared.fault.TypeFault.TheVariants as faults
use Rattle.spl_typer.specs.Groups.{Composition, nothing, path_on, all_small, grouped}
use Rattle.group_limits.specs.Choices.{ways_along}

-- the weight of a path: of its tests, of the entries of the numbers that stand at its end, and of the truth values there
abbrev pub weight_of : Composition → ℕ
weight_of c = sum_by weight c.tests + sum_by (λ (x : ℕ × Linear). length x.1.entries) c.change.numbers + sum_by (λ (x : ℕ × Formula). weight x.1) c.change.truths

-- what is composed along each of the paths
abbrev pub AreComposed : ℕ → List (List Link) → List Composition → Type 0
AreComposed place [] cs = cs ≡ []
AreComposed place (path ∷ paths) [] = ⊥
AreComposed place (path ∷ paths) (c ∷ cs) = (path_on place path nothing ≡ Ok c) × AreComposed place paths cs

-- Where no other limit is passed, the weights of all paths are added to that of the groups before, and the sum is refused where it is past
-- the limit.
abbrev pub WeightsAreAdded : Type 0
WeightsAreAdded = (place : ℕ) (xs : Pieces) (before : ℕ) (cs : List Composition)
    → ways_along xs ≤ 64 → all_small place (paths_along xs) ≡ Ok tt → AreComposed place (paths_along xs) cs → before ≤ 16777216
    → grouped place xs before ≡ (if nat_le (before + sum_by weight_of cs) 16777216 then Ok (before + sum_by weight_of cs) else Err (faults.Limit limits.Weight place))
