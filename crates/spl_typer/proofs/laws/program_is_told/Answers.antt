use Rattle.spl_typer.proofs.ProgramTells.{program_tells}
use Rattle.spl_typer.proofs.laws.program_is_told.Goals as goal

pub returns : goal.returns
returns c = program_tells
