-- The numbers of a group as if forms could hold any number, and what that makes of `TooLarge`.
--
-- Forms hold numbers below 2^100. No group comes so far: a composed right side goes on only with numbers of at most 2^30, so a form
-- over at most 64 variables becomes a sum of at most 65 numbers of at most 2^62 each.
use Rattle.std.specs.Prelude.{ℕ, ◌≡◌, ◌≤◌, ◌&&◌, ◌++◌, Bool, true, false, not, nat_le, List, [], ◌∷◌, length, ℤ, Option, Some, None, Result, Err}
use Rattle.st_linear.specs.Linear.{Linear, sum_of, scaled, form_for, kept_entries}
use Rattle.st_form.specs.declared.variables.Variable.{Variable}
use Rattle.st_program.specs.Tree.{Term, number, truth, Pieces}
use Rattle.st_program.specs.Types.{PiecesFit}
use Rattle.st_program.specs.Groups.{Link, tested, given, paths_along}
use Rattle.expression_typer.specs.declared.fault.TypeFault.{TypeFault}
use Rattle.expression_typer.specs.declared.fault.TypeFault.TheVariants as faults
use Rattle.expression_typer.specs.Written.{is_writable}
use Rattle.spl_typer.specs.Groups.{Numbers, numbers_put, grouped}

abbrev pub with_form : Option Linear → ℤ → Linear → Linear
with_form None c f = f
with_form (Some g) c f = sum_of f (scaled c g)

abbrev pub with_forms : Numbers → List (ℕ × ℤ) → Linear → Linear
with_forms ns [] f = f
with_forms ns (e ∷ es) f = with_forms ns es (with_form (form_for e.0 ns) e.1 f)

-- a form with the listed forms in the place of variables, whatever its numbers become
abbrev pub composed_form : Numbers → Linear → Linear
composed_form ns f = with_forms ns f.entries (record { constant = f.constant; entries = kept_entries ns f.entries })

abbrev pub composed_side : Numbers → ℕ → Term → Numbers
composed_side ns v (number f) = (v, composed_form ns f) ∷ []
composed_side ns v (truth f) = []

-- the right sides of an assignment's integer variables over the store before the group
abbrev pub composed_sides : Numbers → List (ℕ × Term) → Numbers
composed_sides ns [] = []
composed_sides ns (x ∷ xs) = composed_side ns x.0 x.1 ++ composed_sides ns xs

-- no number of them is past 2^30
abbrev pub all_writable : Numbers → Bool
all_writable [] = true
all_writable (x ∷ xs) = is_writable x.1 && all_writable xs

abbrev pub are_small_along : Numbers → List Link → Bool
are_small_along ns [] = true
are_small_along ns (tested f b ∷ path) = are_small_along ns path
are_small_along ns (given xs ∷ path) = all_writable (composed_sides ns xs) && are_small_along (numbers_put (composed_sides ns xs) ns) path

-- no number of a composed right side is past 2^30 on any path
abbrev pub all_small_along : List (List Link) → Bool
all_small_along [] = true
all_small_along (path ∷ paths) = are_small_along [] path && all_small_along paths

abbrev pub is_too_large : Result ℕ TypeFault → Bool
is_too_large (Err (faults.TooLarge place)) = true
is_too_large r = false

-- A group of typed parts over at most 64 variables is too large exactly where it has at most 64 paths and a number of a composed
-- right side is past 2^30.
abbrev pub IsTooLargeExactly : Type 0
IsTooLargeExactly =
    (vs : List Variable) (xs : Pieces) (place w : ℕ) → length vs ≤ 64 → PiecesFit vs xs
    → is_too_large (grouped place xs w) ≡ (nat_le (length (paths_along xs)) 64 && not (all_small_along (paths_along xs)))
