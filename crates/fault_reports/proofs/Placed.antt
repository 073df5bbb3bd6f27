-- What a function makes of a fault has the place at which the text is refused.
use Rattle.std.proofs.Common.{◌≡◌, ◌∙◌, ℕ, List, [], ◌∷◌, ◌++◌, Option, Some, None, Result, Ok, Err, refl, ap, sym}
use Rattle.std.specs.Option.{option_map}
use Rattle.st_reading.specs.Reading.{Stop, IsStop}
use Rattle.expression_typer.specs.declared.fault.TypeFault.{TypeFault}
use Rattle.expression_typer.specs.declared.fault.TypeFault.TheVariants as faults
use Rattle.expression_typer.specs.Answers.{Fails}
use Rattle.proof_script.specs.declared.fault.ScriptKind.{ScriptKind}
use Rattle.proof_script.specs.declared.fault.ScriptKind.TheVariants as kinds
use Rattle.proof_script.specs.Faults.{stop_at}
use Rattle.proof_reports.specs.declared.faults.Fault.{Fault}
use Rattle.fault_reports.specs.Refused.{stop_place, breach_place, typing_place, stopped, mistyped}
use Rattle.fault_reports.specs.Told.{first_told}

-- want of memory aside, a reader stops where the code's fault says
pub stops : {X Y : Type 0} (at : X → ℕ) (s : Option (Stop X)) (read : Result Y (Stop X)) (p : ℕ) → IsStop s read → option_map (stop_place at) s ≡ Some p → Some p ≡ stopped at read
stops at None read p h e = absurd cc
stops at (Some f) read p h e = sym e ∙ ap (stopped at) (sym h)

pub mistypes : {Y : Type 0} (f : TypeFault) (read : Result Y TypeFault) (p : ℕ) → Fails f read → typing_place f ≡ Some p → Some p ≡ mistyped read
mistypes (faults.Unknown q) read p h e = sym e ∙ ap mistyped (sym h)
mistypes (faults.Twice q) read p h e = sym e ∙ ap mistyped (sym h)
mistypes (faults.WrongType q) read p h e = sym e ∙ ap mistyped (sym h)
mistypes (faults.NonLinear q) read p h e = sym e ∙ ap mistyped (sym h)
mistypes (faults.TooLarge q) read p h e = sym e ∙ ap mistyped (sym h)
mistypes (faults.InputAssigned q) read p h e = sym e ∙ ap mistyped (sym h)
mistypes (faults.SelectHead q) read p h e = sym e ∙ ap mistyped (sym h)
mistypes (faults.SameTarget q) read p h e = sym e ∙ ap mistyped (sym h)
mistypes (faults.Limit k q) read p h e = sym e ∙ ap mistyped (sym h)
mistypes faults.Memory read p h e = absurd cc

pub placed : (k : ScriptKind) (p : ℕ) → stop_place breach_place (stop_at k p) ≡ p
placed kinds.Syntax p = refl
placed kinds.BadByte p = refl
placed kinds.LongNumber p = refl
placed kinds.Unknown p = refl
placed kinds.WrongType p = refl
placed kinds.NonLinear p = refl
placed kinds.TooLarge p = refl
placed kinds.Twice p = refl
placed kinds.UnknownLemma p = refl
placed kinds.NotInvariant p = refl
placed kinds.WrongCount p = refl
placed kinds.UnknownTransition p = refl
placed kinds.UnknownNode p = refl
placed kinds.Upward p = refl
placed kinds.NoTerminal p = refl
placed kinds.UnfairHelper p = refl
placed kinds.NotCompassionate p = refl
placed kinds.NoHelper p = refl
placed (kinds.Limit kind) p = refl

-- faults that are added behind leave the first as it is
pub first_stays : (xs ys : List Fault) (a : Option ℕ) → first_told xs ≡ Some a → first_told (xs ++ ys) ≡ Some a
first_stays [] ys a e = absurd cc
first_stays (x ∷ xs) ys a e = e
