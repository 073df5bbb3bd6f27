-- The invariances that are found for a program, as a proof text.
use Rattle.std.specs.Prelude.{ℕ, ◌+◌, Bool, true, false, ◌&&◌, is_none, if◌then◌else◌, List, [], ◌∷◌, ◌++◌, Option, Some, None, Result, Ok, Err}
use Rattle.st_form.specs.Condition.{Implication}
use Rattle.control_facts.specs.Alternatives.{control_of}
use Rattle.farkas_check.specs.Problem.{Setting}
use Rattle.search_laws.specs.Moves.{Verdict, valid, open_at, wide_at}
use Rattle.temporal_goals.specs.Texts.{PlainStep}
use Rattle.spl_typer.specs.Programs.{Typed}
use Rattle.st_reading.specs.Reading.{Stop}
use Rattle.st_reading.specs.Breaches.{Breach}
use Rattle.equation_laws.specs.Equations.{PlainEquation, found}
use Rattle.equation_writer.specs.Sentences.{sentence, left_out_text}
use Rattle.step_report.specs.Names.{line}
use Rattle.step_report.specs.Ends.{wide_invariants_text}
use Rattle.step_plan.specs.declared.status.Status.TheVariants.{Proved, InvariantsWide}
use Rattle.step_plan.specs.Outcome.{Outcome}
use Rattle.step_run.specs.Conditions.{system_of, setting_of, steps_spelled, conditions_of, passes_limit}
use Rattle.step_run.specs.Verified.{verdict_on}

abbrev pub is_decided : Verdict → Bool
is_decided (valid t) = true
is_decided (open_at path state) = false
is_decided (wide_at path stage) = false

-- each condition is decided valid
abbrev pub are_decided : Setting → List Implication → Bool
are_decided k [] = true
are_decided k (c ∷ cs) = is_decided (verdict_on k c) && are_decided k cs

-- no condition passes a limit, and each is decided valid
abbrev pub accepts_steps : Typed → Result (List PlainStep) (Stop Breach) → Bool
accepts_steps p (Err fault) = false
accepts_steps p (Ok steps) = is_none (passes_limit p steps) && are_decided (setting_of p) (conditions_of p steps)

-- a text of a proof with which `verify` ends with status 0, within the limit on the length of texts
unfoldable pub accepts : Typed → List ℕ → Bool
accepts p text = accepts_steps p (steps_spelled p text)

-- equation n behind a text: its sentence where it has one and the text with it is accepted, and else a comment in its place
abbrev pub entry : Typed → List ℕ → ℕ → Option (List ℕ) → List ℕ
entry p text n None = left_out_text n
entry p text n (Some s) = if accepts p (text ++ s) then s else left_out_text n

-- the equations from number n on, behind a text
abbrev pub entered : Typed → ℕ → List PlainEquation → List ℕ → List ℕ
entered p n [] text = text
entered p n (e ∷ es) text = entered p (n + 1) es (text ++ line (entry p text n (sentence (control_of p.processes) p.names n e)))

-- an invariance for each equation, or status 13 where a number is too large while they are looked for
abbrev pub invariants_text : Typed → List PlainEquation → List ℕ
invariants_text p es = entered p 1 es []

abbrev pub looked_for : Typed → Option (List PlainEquation) → Outcome
looked_for p None = record { status = InvariantsWide; text = wide_invariants_text }
looked_for p (Some es) = record { status = Proved; text = invariants_text p es }

unfoldable pub invariants_of : Typed → Outcome
invariants_of p = looked_for p (found (system_of p))
