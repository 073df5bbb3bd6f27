use Rattle.search_blocks.proofs.Holding.{holds}
use Rattle.search_blocks.proofs.laws.texts_hold_blocks.Goals as goal

pub returns : goal.returns
returns c = holds
