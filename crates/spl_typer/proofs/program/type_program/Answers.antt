use Rattle.spl_parser.specs.ProgramTree.{program_view}
use Rattle.spl_typer.proofs.Finishing.{apart_behind, program_is, typing_is}
use Rattle.spl_typer.proofs.program.type_program.Goals as goal

pub table-requires : goal.table-requires
table-requires c = apart_behind (program_view c.args.raw.now) c.in_ok-head.head c.deref.result.now c.in_ok-head.ensures c.deref.ensures.value

pub invariant_of-program : goal.invariant_of-program
invariant_of-program c = program_is (program_view c.args.raw.now) c.in_ok-head.head c.in_ok-head.ensures

pub returns : goal.returns
returns c = typing_is (program_view c.args.raw.now) c.in_ok-head.head c.deref.result.now c.in_ok-names.names c.in_ok-head.ensures c.deref.ensures.value c.in_ok-names.ensures
