-- Equations as invariances of a proof text.
use Rattle.std.specs.Prelude.{ℕ, Bool, true, ◌&&◌, is_some, if◌then◌else◌, List, [], ◌∷◌, ◌++◌, codes, ℤ, Option, None}
use Rattle.std.specs.Option.{option_map}
use Rattle.std.specs.Fmt.{decimal}
use Rattle.st_form.specs.Formula.{Formula}
use Rattle.st_program.specs.Names.{Names, label_of}
use Rattle.control_states.specs.Control.{ControlFacts}
use Rattle.equation_laws.specs.Equations.{PlainEquation}
use Rattle.equation_forms.specs.Formulas.{short_formula}
use Rattle.equation_writer.specs.Texts.{formula_text}

-- a formula as the invariance of this number
abbrev pub invariance_text : Names → ℕ → Formula → List ℕ
invariance_text names n f = codes "invariant eq" ++ decimal n ++ codes ": " ++ formula_text names f ++ codes ";"

-- each location has a label
abbrev pub are_labelled : Names → List (ℕ × ℤ) → Bool
are_labelled names [] = true
are_labelled names (t ∷ ts) = is_some (label_of t.0 names.labels) && are_labelled names ts

-- an equation as the invariance of this number, if its formula is short and each of its locations has a label
abbrev pub sentence : ControlFacts → Names → ℕ → PlainEquation → Option (List ℕ)
sentence k names n e = if are_labelled names e.places then option_map (invariance_text names n) (short_formula k e) else None

-- what stands in the place of an equation that is left out: a comment
abbrev pub left_out_text : ℕ → List ℕ
left_out_text n = codes "% left out: eq" ++ decimal n
