-- What names stand for: variables that are known at a place, and in proofs places of control.
use Rattle.std.specs.Prelude.{ℕ, Bool, List, [], ◌∷◌, Option, Some, None, map, if◌then◌else◌}
use Rattle.std.specs.Option.{option_map}
use Rattle.std.specs.Str.{bytes_eq}
use Rattle.expression_typer.specs.declared.scope.Known as declared

pub record Known : Type 0 where
  pub name : List ℕ
  pub var : ℕ
  pub truth : Bool
  pub input : Bool

abbrev pub known_view : declared.Known → Known
known_view k = record { name = k.name.now; var = k.var; truth = k.truth; input = k.input }

abbrev pub scope_view : List declared.Known → List Known
scope_view ks = map known_view ks

abbrev pub find : List ℕ → List Known → Option Known
find name [] = None
find name (k ∷ ks) = if bytes_eq k.name name then Some k else find name ks

-- what each name stands for: as a variable its number and whether it is boolean, and behind `at` its location
pub record Names : Type 0 where
  pub variable : List ℕ → Option (ℕ × Bool)
  pub place : List ℕ → Option ℕ

-- in programs no name stands for a location
abbrev pub only : List Known → Names
only s = record { variable = λ name. option_map (λ k. (k.var, k.truth)) (find name s); place = λ name. None }
