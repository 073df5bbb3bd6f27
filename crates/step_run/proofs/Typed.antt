-- What holds of a program that a text spells.
use Rattle.std.proofs.Common.{◌≡◌, ℕ, List, Option, Some, None, Result, Ok, Err, refl, ap, ◌∙◌}
use Rattle.st_tokens.specs.declared.kind.TokenFault.{TokenFault}
use Rattle.st_tokens.specs.declared.kind.TokenFault.TheVariants as tokens
use Rattle.st_reading.specs.Reading.{Stop, syntax, broken, other, IsStop}
use Rattle.st_reading.specs.Faults.{Passed, passed}
use Rattle.st_program.specs.Programs.{IsProgram}
use Rattle.spl_parser.specs.ProgramTree as raw
use Rattle.spl_parser.specs.Parsing.{parsed}
use Rattle.expression_typer.specs.declared.fault.TypeFault.{TypeFault}
use Rattle.expression_typer.specs.declared.fault.TypeFault.TheVariants as faults
use Rattle.expression_typer.specs.Answers as typer
use Rattle.spl_typer.specs.Programs.{Typed, typing}
use Rattle.typing_laws.proofs.Whole.{typed_is_well}
use Rattle.step_run.specs.declared.refusals.Refusal.{Refusal}
use Rattle.step_run.specs.Refusals.{of_token, of_stop, of_rule, IsRefusal, Fails}
use Rattle.step_run.specs.Source.{source_typed, source_of, source_spelled, IsSpelled}

abbrev pub IsWell : Typed → Type 0
IsWell p = IsProgram p.variables p.initial p.processes p.locations p.statements

-- the program of a text
pub record From (text : List ℕ) (p : Typed) : Type 0 where
  pub program : raw.Program
  pub reads : parsed text ≡ Ok program
  pub types : typing program ≡ Ok p

by_typed : (text : List ℕ) (x : raw.Program) (r : Result Typed TypeFault) (p : Typed) → parsed text ≡ Ok x → typing x ≡ r → source_typed r ≡ Ok p → From text p
by_typed text x (Ok t) p reads e h =
    let is : t ≡ p = cc in
    record { program = x; reads = reads; types = e ∙ ap (λ (q : Typed). Ok q) is }
by_typed text x (Err f) p reads e h = absurd cc

by_parsed : (text : List ℕ) (r : Result raw.Program (Stop Passed)) (p : Typed) → parsed text ≡ r → source_of r ≡ Ok p → From text p
by_parsed text (Ok x) p e h = by_typed text x (typing x) p e refl h
by_parsed text (Err f) p e h = absurd cc

pub from_text : (text : List ℕ) (p : Typed) → source_spelled text ≡ Ok p → From text p
unfolding source_spelled
from_text text p h = by_parsed text (parsed text) p refl h

-- reading a text goes on with what was parsed
pub spelled_ok : (text : List ℕ) (x : raw.Program) (p : Typed) → parsed text ≡ Ok x → typing x ≡ Ok p → source_spelled text ≡ Ok p
unfolding source_spelled
spelled_ok text x p e f = ap source_of e ∙ ap source_typed f

fails_token : (f : TokenFault) → Fails {Y = Typed} (of_token f) (Err (of_token f))
fails_token (tokens.BadByte place) = refl
fails_token (tokens.LongNumber place) = refl

fails_stop : (f : Stop Passed) → Fails {Y = Typed} (of_stop f) (Err (of_stop f))
fails_stop (syntax place) = refl
fails_stop (broken f) = fails_token f
fails_stop (other (passed kind place)) = refl

pub spelled_err : (r : Refusal) (o : Option (Stop Passed)) (text : List ℕ) → IsRefusal r o → IsStop o (parsed text) → Fails r (source_spelled text)
unfolding source_spelled
spelled_err r None text is stop = rw is tt
spelled_err r (Some f) text is stop = rw (is, stop) (fails_stop f)

fails_rule : (f : TypeFault) (r : Result Typed TypeFault) → typer.Fails f r → Fails (of_rule f) (source_typed r)
fails_rule (faults.Unknown place) r e = ap source_typed e
fails_rule (faults.Twice place) r e = ap source_typed e
fails_rule (faults.WrongType place) r e = ap source_typed e
fails_rule (faults.NonLinear place) r e = ap source_typed e
fails_rule (faults.TooLarge place) r e = ap source_typed e
fails_rule (faults.InputAssigned place) r e = ap source_typed e
fails_rule (faults.SelectHead place) r e = ap source_typed e
fails_rule (faults.SameTarget place) r e = ap source_typed e
fails_rule (faults.Limit kind place) r e = ap source_typed e
fails_rule faults.Memory r e = tt

pub typed_err : (r : Refusal) (f : TypeFault) (text : List ℕ) (x : raw.Program) → r ≡ of_rule f → parsed text ≡ Ok x → typer.Fails f (typing x) → Fails r (source_spelled text)
unfolding source_spelled
typed_err r f text x is reads e = rw (is, reads) (fails_rule f (typing x) e)

-- a program that some text spells is well typed
pub well_typed : (p : Typed) → IsSpelled p → IsWell p
well_typed p h =
    let f = from_text h.0 p h.1 in
    typed_is_well f.program p f.types
