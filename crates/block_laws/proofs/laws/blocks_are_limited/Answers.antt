use Rattle.block_laws.proofs.LimitedBlocks.{limited_block}
use Rattle.block_laws.proofs.laws.blocks_are_limited.Goals as goal

pub returns : goal.returns
returns c = limited_block
