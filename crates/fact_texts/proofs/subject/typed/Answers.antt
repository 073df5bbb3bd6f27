use Rattle.spl_parser.specs.ProgramTree.{program_view}
use Rattle.spl_typer.specs.Programs.{typed_view}
use Rattle.spl_typer.proofs.Tabled.{as_many}
use Rattle.fact_texts.proofs.subject.typed.Goals as goal

pub returns-in-Ok : goal.returns-in-Ok
returns-in-Ok c = as_many (program_view c.args.raw.now) (typed_view c.in-Ok.pair) c.in-Ok.ensures
