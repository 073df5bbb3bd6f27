-- A text's program is refused for the lowest rule that is broken at the first place.
use Rattle.std.proofs.Common.{ℕ, List, Result, Ok, Err}
use Rattle.spl_parser.proofs.ProgramTheorems.{what_is_read_is_spelled}
use Rattle.expression_typer.specs.declared.fault.TypeFault.{TypeFault}
use Rattle.expression_typer.specs.Told.{Tells}
use Rattle.spl_typer.specs.Programs.{Typed, typing}
use Rattle.spl_typer.specs.ProgramRules.{program_faults}
use Rattle.spl_typer.proofs.PartTells.{Any}
use Rattle.spl_typer.proofs.ProgramTells.{program_tells}
use Rattle.typing_laws.specs.Laws.{TellsLeast, ReadIsTyped}
use Rattle.typing_laws.proofs.Programs.{spelled_lies}
use Rattle.typing_laws.proofs.Modesty.{program_modest}
use Rattle.typing_laws.proofs.Ordering.{Ordered, ordered_rules, ordered_least}
use Rattle.typing_laws.proofs.ProgramFaults.{program_ordered}

tells_least : (r : Result Typed TypeFault) (fs : List TypeFault) (end : ℕ) → Ordered 0 end fs → Tells (Any {A = Typed}) r fs → TellsLeast r fs
tells_least (Ok x) fs end o t = t.0
tells_least (Err f) fs end o t = ordered_least f 0 end fs t.0 t.1 o

pub read_is_typed : ReadIsTyped
read_is_typed text p e =
    let s = what_is_read_is_spelled text p e in
    let l = spelled_lies text p s in
    let o = program_ordered p l s.2.numbers in
    (ordered_rules 0 l.end (program_faults p) o, tells_least (typing p) (program_faults p) l.end o (program_tells p (program_modest p l)))
