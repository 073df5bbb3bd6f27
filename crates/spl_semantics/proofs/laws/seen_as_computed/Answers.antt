use Rattle.std.proofs.Common.{sym, subst}
use Rattle.spl_semantics.specs.Runs.{IsSeenOf}
use Rattle.spl_semantics.proofs.SeenRuns.{seen_is, observed_seen}
use Rattle.spl_semantics.proofs.laws.seen_as_computed.Goals as goal

pub returns : goal.returns
returns c p well s later o = (
  seen_is p well.numbered s later o,
  λ e. subst (IsSeenOf p s later) (sym e) (observed_seen p well.numbered s later),
)
