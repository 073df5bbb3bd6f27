-- The names of a program as contracts see them: texts are lists of bytes.
use Rattle.std.specs.Prelude.{◌≡◌, ℕ, Bool, false, List, [], ◌∷◌, map, Option, None, Some, if◌then◌else◌, nat_eq, ⊤, refl}
use Rattle.std.specs.Coded.{Coded, code_by, coded×, coded_list, coded_ℕ, coded_bool, coded_option}
use Rattle.std.specs.Str.{bytes_eq}
use Rattle.std.specs.String.{string_bytes}
use Rattle.std.specs.declared.string.String.{String}

-- the variables in order, each with whether it is boolean; the labels and end labels in text order, each with its
-- location and, where it is a statement's, its occurrence
pub record Names : Type 0 where
  pub variables : List (List ℕ × Bool)
  pub labels : List (List ℕ × (ℕ × Option ℕ))

module _ {A Z : Type 0} where
  -- named things, their names read as bytes
  abbrev pub as_bytes : List (String Z × A) → List (List ℕ × A)
  as_bytes xs = map (λ x. (string_bytes x.0, x.1)) xs

module _ {A : Type 0} where
  abbrev pub names_in : List (List ℕ × A) → List (List ℕ)
  names_in xs = map (λ x. x.0) xs

-- the name is none of these
abbrev pub IsNew : List ℕ → List (List ℕ) → Type 0
IsNew x [] = ⊤
IsNew x (y ∷ ys) = (bytes_eq y x ≡ false) × IsNew x ys

-- no name stands twice
abbrev pub AreApart : List (List ℕ) → Type 0
AreApart [] = ⊤
AreApart (x ∷ xs) = IsNew x xs × AreApart xs

-- what stands beside the first with this name
abbrev pub named : {A : Type 0} → List ℕ → List (List ℕ × A) → Option A
named name [] = None
named name (x ∷ xs) = if bytes_eq name x.0 then Some x.1 else named name xs

-- the first label of a location, in text order
abbrev pub label_of : ℕ → List (List ℕ × (ℕ × Option ℕ)) → Option (List ℕ)
label_of loc [] = None
label_of loc (x ∷ xs) = if nat_eq x.1.0 loc then Some x.0 else label_of loc xs

abbrev pub is_occurrence : ℕ → Option ℕ → Bool
is_occurrence occ None = false
is_occurrence occ (Some o) = nat_eq o occ

-- the label of the statement with this occurrence
abbrev pub statement_label : ℕ → List (List ℕ × (ℕ × Option ℕ)) → Option (List ℕ)
statement_label occ [] = None
statement_label occ (x ∷ xs) = if is_occurrence occ x.1.1 then Some x.0 else statement_label occ xs

abbrev pub names_code : Coded Names
names_code =
    code_by (List (List ℕ × Bool) × List (List ℕ × (ℕ × Option ℕ)))
    (coded× (coded_list (coded× (coded_list coded_ℕ) coded_bool)) (coded_list (coded× (coded_list coded_ℕ) (coded× coded_ℕ (coded_option coded_ℕ)))))
    (λ n. (n.variables, n.labels))
    (λ p. record { variables = p.0; labels = p.1 })
    (λ _. refl)
