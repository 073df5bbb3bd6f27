use Rattle.search_blocks.proofs.Finding.{writable}
use Rattle.search_blocks.proofs.laws.found_are_written.Goals as goal

pub returns : goal.returns
returns c = writable
