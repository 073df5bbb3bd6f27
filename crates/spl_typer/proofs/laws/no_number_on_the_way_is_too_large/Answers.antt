use Rattle.spl_typer.proofs.Unbounded.{too_large_exactly}
use Rattle.spl_typer.proofs.laws.no_number_on_the_way_is_too_large.Goals as goal

pub returns : goal.returns
returns c = too_large_exactly
