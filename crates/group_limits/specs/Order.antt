-- Which limit refuses a group: they are looked at in one order, and each is told at the group's place.
use Rattle.std.specs.Prelude.{◌≡◌, ◌↔◌, ℕ, ◌+◌, ◌≤◌, ◌<◌, Bool, false, List, [], ◌∷◌, ◌++◌, length, sum_by, Result, Ok, Err}
use Rattle.st_linear.specs.Linear.{Linear}
use Rattle.st_form.specs.declared.variables.Variable.{Variable}
use Rattle.st_program.specs.Tree.{Term, number, Pieces}
use Rattle.st_program.specs.Tree as tree
use Rattle.st_program.specs.Types.{PiecesFit}
use Rattle.st_program.specs.Groups.{Link, tested, given, paths_along}
use Rattle.st_tokens.specs.declared.limit.LimitKind.TheVariants as limits
use Rattle.spl_parser.specs.ProgramTree as raw
use Rattle.expression_typer.specs.declared.fault.TypeFault.{TypeFault}
use Rattle.expression_typer.specs.declared.fault.TypeFault.TheVariants as faults
use Rattle.expression_typer.specs.Answers.{◌>>=◌}
use Rattle.expression_typer.specs.Scope.{Known}
use Rattle.expression_typer.specs.Written.{is_writable}
use Rattle.spl_typer.specs.Walk.{State, give, with_weight}
use Rattle.spl_typer.specs.Statements.{pieces_inside}
use Rattle.spl_typer.specs.Walking.{acting}
use Rattle.spl_typer.specs.StatementRules.{faults_of, inside_faults, action_faults}
use Rattle.spl_typer.specs.Groups.{Composition, Numbers, numbers_put, grouped}
use Rattle.spl_typer.specs.Unbounded.{composed_form, composed_sides}
use Rattle.group_limits.specs.Choices.{IsPathAlong, ways_along}
use Rattle.group_limits.specs.Weights.{weight_of, AreComposed}
use Rattle.group_limits.specs.Atoms.{HasHeavyPath}

-- the values of integer variables behind links, over the store before the group
abbrev pub standing : Numbers → List Link → Numbers
standing ns [] = ns
standing ns (tested f b ∷ path) = standing ns path
standing ns (given xs ∷ path) = standing (numbers_put (composed_sides ns xs) ns) path

-- a right side with a number past 2^30, once it is composed
pub record IsLargeSide (ns : Numbers) (xs : List (ℕ × Term)) : Type 0 where
  pub front : List (ℕ × Term)
  pub variable : ℕ
  pub value : Linear
  pub rest : List (ℕ × Term)
  pub cut : xs ≡ front ++ (variable, number value) ∷ rest
  pub large : is_writable (composed_form ns value) ≡ false

-- a path with such an assignment, behind these values
pub record IsLargePath (ns : Numbers) (path : List Link) : Type 0 where
  pub front : List Link
  pub sides : List (ℕ × Term)
  pub rest : List Link
  pub cut : path ≡ front ++ given sides ∷ rest
  pub side : IsLargeSide (standing ns front) sides

-- a group with such a path
pub record HasLargeNumber (xs : Pieces) : Type 0 where
  pub path : List Link
  pub chosen : IsPathAlong xs path
  pub large : IsLargePath [] path

-- What is answered of a group behind groups of that weight: the first limit that it passes, in this order, at the group's place;
-- or the weight with it.
pub data IsAnswered (place before : ℕ) (xs : Pieces) : Result ℕ TypeFault → Type 0 where
  has_many_paths : 64 < ways_along xs → IsAnswered place before xs (Err (faults.Limit limits.Paths place))
  has_large_number : ways_along xs ≤ 64 → HasLargeNumber xs → IsAnswered place before xs (Err (faults.TooLarge place))
  has_many_atoms : ways_along xs ≤ 64 → (HasLargeNumber xs → ⊥) → HasHeavyPath place (paths_along xs) → IsAnswered place before xs (Err (faults.Limit limits.Atoms place))
  is_heavy : ways_along xs ≤ 64 → (HasLargeNumber xs → ⊥) → (cs : List Composition) → AreComposed place (paths_along xs) cs → 16777216 < before + sum_by weight_of cs
      → IsAnswered place before xs (Err (faults.Limit limits.Weight place))
  is_taken : ways_along xs ≤ 64 → (HasLargeNumber xs → ⊥) → (cs : List Composition) → AreComposed place (paths_along xs) cs → before + sum_by weight_of cs ≤ 16777216
      → IsAnswered place before xs (Ok (before + sum_by weight_of cs))

-- A group of typed parts, behind groups within the limit: this and nothing else is answered.
abbrev pub GroupsAreAnswered : Type 0
GroupsAreAnswered = (vs : List Variable) (xs : Pieces) (place before : ℕ) → length vs ≤ 64 → PiecesFit vs xs → before ≤ 16777216
    → (r : Result ℕ TypeFault) → (grouped place xs before ≡ r) ↔ IsAnswered place before xs r

-- what the typer gives for a grouped statement of which this is answered, and which rules it breaks
pub record IsTyped (s : List Known) (l : ℕ) (head : Bool) (place : ℕ) (ss : raw.Statements) (st : State) (xs : Pieces) (r : Result ℕ TypeFault) : Type 0 where
  pub gives : acting s l head place (raw.group ss) st ≡ (r >>= λ w. give (tree.group xs) (with_weight w st))
  pub rules : action_faults s l head place (raw.group ss) st ≡ inside_faults s place ss ++ faults_of r

-- The typer ends at a grouped statement whose parts are typed for exactly what is answered of it.
abbrev pub GroupsAreTyped : Type 0
GroupsAreTyped = (vs : List Variable) (s : List Known) (l : ℕ) (head : Bool) (place : ℕ) (ss : raw.Statements) (st : State) (xs : Pieces) → length vs ≤ 64 → PiecesFit vs xs → st.weight ≤ 16777216
    → pieces_inside s place ss ≡ Ok xs → (r : Result ℕ TypeFault) → IsAnswered place st.weight xs r → IsTyped s l head place ss st xs r
