use Rattle.search_laws.proofs.Steadying.{division-steady}
use Rattle.search_laws.proofs.laws.divisions_keep_steady.Goals as goal

pub returns : goal.returns
returns c = division-steady
