use Rattle.spl_semantics.proofs.KeepsFit.{each-fits, start-fits}
use Rattle.spl_semantics.proofs.laws.steps_fit.Goals as goal

pub returns-clause-first : goal.returns-clause-first
returns-clause-first c p well = start-fits p well.numbered

pub returns-clause-next : goal.returns-clause-next
returns-clause-next c p well rs store a f m = each-fits p well.numbered store rs p f a m
