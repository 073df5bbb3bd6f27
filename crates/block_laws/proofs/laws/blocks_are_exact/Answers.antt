use Rattle.block_laws.proofs.Exact.{exact}
use Rattle.block_laws.proofs.laws.blocks_are_exact.Goals as goal

pub returns : goal.returns
returns c = exact
