-- What names stand for in the formulas of a proof: each variable for its place among the program's variables, and behind
-- `at` each label of a statement or an end for its location. Names of other bytes than ASCII stand for nothing.
use Rattle.std.specs.Prelude.{◌≡◌, ℕ, ◌<◌, Bool, true, nat_lt, ◌&&◌, List, [], ◌∷◌, Option, Some, None, position, slice_get, if◌then◌else◌}
use Rattle.std.specs.Option.{option_map}
use Rattle.std.specs.Str.{bytes_eq}
use Rattle.st_form.specs.declared.variables.Variable.{Variable}
use Rattle.st_program.specs.Types.{type_of}
use Rattle.st_program.specs.Names.{named, names_in}
use Rattle.st_program.specs.Names as tables
use Rattle.expression_typer.specs.Scope.{Names}

-- a name as text: each byte is ASCII, as in every text
abbrev pub is_text : List ℕ → Bool
is_text [] = true
is_text (b ∷ bs) = nat_lt b 128 && is_text bs

-- the place, and whether the variable there is boolean
abbrev pub variable_at : List (List ℕ × Bool) → Option ℕ → Option (ℕ × Bool)
variable_at variables None = None
variable_at variables (Some place) = option_map (λ v. (place, v.1)) (slice_get variables place)

abbrev pub variable_named : List (List ℕ × Bool) → List ℕ → Option (ℕ × Bool)
variable_named variables name = variable_at variables (position (λ k. bytes_eq name k) (names_in variables))

abbrev pub location_named : List (List ℕ × (ℕ × Option ℕ)) → List ℕ → Option ℕ
location_named labels name = option_map (λ l. l.0) (named name labels)

-- what the names of a program stand for
abbrev pub names_of : tables.Names → Names
names_of t =
    record {
      variable = λ name. if is_text name then variable_named t.variables name else None;
      place = λ name. if is_text name then location_named t.labels name else None;
    }

-- a name as text
abbrev pub text_of : List ℕ → Option (List ℕ)
text_of name = if is_text name then Some name else None

-- the names stand for these variables and for locations below the bound
pub record NamesOver (vs : List Variable) (locations : ℕ) (names : Names) : Type 0 where
  pub variables : (name : List ℕ) (v : ℕ) (b : Bool) → names.variable name ≡ Some (v, b) → type_of vs v ≡ Some b
  pub places : (name : List ℕ) (l : ℕ) → names.place name ≡ Some l → l < locations
