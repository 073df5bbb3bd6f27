-- The lines of the text that `invariants` prints: one for each equation, in order.
use Rattle.std.specs.Prelude.{◌≡◌, ℕ, ◌+◌, true, false, List, [], ◌∷◌, ◌++◌, Some, None, Ok}
use Rattle.st_form.specs.Condition.{Implication}
use Rattle.st_certificate.specs.Tree.{Tree}
use Rattle.st_program.specs.Member.{Member}
use Rattle.control_facts.specs.Alternatives.{control_of}
use Rattle.search_laws.specs.Moves.{valid, decided}
use Rattle.temporal_goals.specs.Texts.{PlainStep}
use Rattle.vc_generator.specs.declared.faults.VcFault.{VcFault}
use Rattle.spl_typer.specs.Programs.{Typed}
use Rattle.equation_laws.specs.Equations.{PlainEquation}
use Rattle.equation_forms.specs.Formulas.{formula_of, is_short}
use Rattle.equation_writer.specs.Sentences.{invariance_text, are_labelled, left_out_text}
use Rattle.printed_formulas.specs.Theorems.{invariance}
use Rattle.step_report.specs.Names.{line}
use Rattle.step_run.specs.Conditions.{setting_of, steps_spelled, conditions_of, passes_limit}
use Rattle.step_run.specs.WellFormed.{AreFound}

-- the formula of an equation as the invariance of this number, and the text with it
abbrev pub printed_text : Typed → ℕ → PlainEquation → List ℕ
printed_text p n e = invariance_text p.names n (formula_of (control_of p.processes) e)

abbrev pub with_equation : Typed → List ℕ → ℕ → PlainEquation → List ℕ
with_equation p before n e = before ++ printed_text p n e

-- the step that it is read as, behind others: the invariance `eqN` that claims the formula
abbrev pub with_step : Typed → List PlainStep → ℕ → PlainEquation → List PlainStep
with_step p steps n e = steps ++ invariance n (formula_of (control_of p.processes) e) ∷ []

-- a text spells these steps, no condition passes a limit, and each is decided valid: `verify` ends with status 0 over it
pub record IsVerified (p : Typed) (text : List ℕ) (steps : List PlainStep) : Type 0 where
  pub spelled : steps_spelled p text ≡ Ok steps
  pub few : passes_limit p steps ≡ None
  pub trees : List Tree
  pub found : AreFound (setting_of p) (conditions_of p steps) trees

-- why equation n is left out behind a text of steps
pub data Cause (p : Typed) (before : List ℕ) (steps : List PlainStep) (n : ℕ) (e : PlainEquation) : Type 0 where
  -- its formula has more than 64 cases or 1,024 atoms, or a number past 2^30
  is_long : is_short (control_of p.processes) e ≡ false → Cause p before steps n e
  -- one of its locations has no label
  is_unlabelled : are_labelled p.names e.places ≡ false → Cause p before steps n e
  -- with it a condition of the text passes a limit
  is_past : (passed : VcFault × ℕ) → steps_spelled p (with_equation p before n e) ≡ Ok (with_step p steps n e) → passes_limit p (with_step p steps n e) ≡ Some passed → Cause p before steps n e
  -- with it a condition of the text isn't decided valid
  is_undecided : (c : Implication) → steps_spelled p (with_equation p before n e) ≡ Ok (with_step p steps n e) → Member c (conditions_of p (with_step p steps n e))
      → ((t : Tree) → decided (setting_of p) c.given c.shown ≡ valid t → ⊥) → Cause p before steps n e

-- The line of equation n behind a text of steps, and the steps with it: its formula, where the text with it is read as that
-- invariance behind them, and is verified; or that it is left out for a cause.
pub data IsLine (p : Typed) (before : List ℕ) (steps : List PlainStep) (n : ℕ) (e : PlainEquation) : List ℕ → List PlainStep → Type 0 where
  is_printed : are_labelled p.names e.places ≡ true → is_short (control_of p.processes) e ≡ true → IsVerified p (with_equation p before n e) (with_step p steps n e)
      → IsLine p before steps n e (line (printed_text p n e)) (with_step p steps n e)
  is_left_out : Cause p before steps n e → IsLine p before steps n e (line (left_out_text n)) steps

-- behind a text of steps, a line for each of the equations from number n on
abbrev pub AreLines : Typed → List ℕ → List PlainStep → ℕ → List PlainEquation → List ℕ → Type 0
AreLines p before steps n [] text = text ≡ before
AreLines p before steps n (e ∷ es) text = (l : List ℕ) × (after : List PlainStep) × IsLine p before steps n e l after × AreLines p (before ++ l) after (n + 1) es text
