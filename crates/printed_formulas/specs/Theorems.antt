-- What is promised of formulas that are printed.
use Rattle.std.specs.Prelude.{◌≡◌, ℕ, ◌<◌, ◌^◌, true, false, List, [], ◌∷◌, ◌++◌, codes, slice_get, ℤ, Some, Ok, ⊤}
use Rattle.std.specs.Option.{option_map}
use Rattle.std.specs.Fmt.{decimal}
use Rattle.st_tokens.specs.Stream.{◌++>◌, Lexeme, lex}
use Rattle.st_form.specs.Formula.{Formula}
use Rattle.st_program.specs.Names.{Names, IsNew}
use Rattle.control_states.specs.Control.{ControlFacts}
use Rattle.temporal_goals.specs.Texts.{PlainStep, invariant, basic}
use Rattle.matrix_rows.specs.Rows.{IsKept}
use Rattle.equation_laws.specs.Equations.{PlainEquation}
use Rattle.equation_forms.specs.Formulas.{formula_of, is_short}
use Rattle.equation_writer.specs.Texts.{formula_text}
use Rattle.equation_writer.specs.Sentences.{invariance_text, are_labelled}
use Rattle.proof_script.specs.Listing.{Setting}
use Rattle.proof_script.specs.Script.{script_spelled}
use Rattle.proof_grammar.specs.Units.{IsFormula, names_of_steps}
use Rattle.proof_grammar.specs.Growing.{Stands}
use Rattle.declared_names.specs.Words.{AreNames}
use Rattle.printed_formulas.specs.Loose.{IsLoose}
use Rattle.printed_formulas.specs.Printable.{IsPrintable}

-- the tokens of a printed formula spell that formula, wherever it stands before what no name or number goes on with
abbrev pub PrintedFormulasAreSpelled : Type 0
PrintedFormulasAreSpelled =
    (g : Setting) (f : Formula) → IsPrintable g.names 32 f → (end : ℕ) (after : List ℕ) → IsLoose after
    → (ts : List Lexeme) × (lex end 0 (formula_text g.names f ++ after) ≡ ts ++> lex end 0 after) × IsFormula g ts f

-- what the invariance of this number is called, and the step that it is: by itself, and citing nothing
abbrev pub invariance_name : ℕ → List ℕ
invariance_name n = codes "eq" ++ decimal n

abbrev pub invariance : ℕ → Formula → PlainStep
invariance n f = record { name = invariance_name n; goal = invariant f; rule = basic; cited = [] }

-- behind a text that stands for steps, a formula that is printed as the invariance of a number is read as that invariance
abbrev pub PrintedInvariancesAreRead : Type 0
PrintedInvariancesAreRead =
    (g : Setting) (before : List ℕ) (steps : List PlainStep) (n : ℕ) (f : Formula)
    → Stands g before steps → IsNew (invariance_name n) (names_of_steps steps) → n < 2 ^ 64 → IsPrintable g.names 32 f
    → script_spelled g.names g.system (before ++ invariance_text g.names n f) ≡ Ok (steps ++ invariance n f ∷ [])

-- each entry is of an integer variable
abbrev pub AreIntegers : Names → List (ℕ × ℤ) → Type 0
AreIntegers t [] = ⊤
AreIntegers t (e ∷ es) = (option_map (λ x. x.1) (slice_get t.variables e.0) ≡ Some false) × AreIntegers t es

-- the formula of an equation between integer variables is printable where it is short and its locations are labelled
abbrev pub ShortFormulasArePrintable : Type 0
ShortFormulasArePrintable =
    (t : Names) (k : ControlFacts) (e : PlainEquation) → AreNames t → AreIntegers t e.numbers → IsKept e.numbers → are_labelled t e.places ≡ true → is_short k e ≡ true
    → IsPrintable t 32 (formula_of k e)
