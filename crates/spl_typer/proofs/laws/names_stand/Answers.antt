use Rattle.spl_typer.proofs.Tabled.{names_stand}
use Rattle.spl_typer.proofs.laws.names_stand.Goals as goal

pub returns : goal.returns
returns c = names_stand
