use Rattle.shared_search.proofs.Deciding.{longer-trans, two-decisions}
use Rattle.shared_search.proofs.decisions.add_truths.Goals as goal

pub returns-clause-longer : goal.returns-clause-longer
returns-clause-longer c = longer-trans _ _ _ c.in_ok-yes.ensures.longer c.in_ok-no.ensures.longer

pub returns-clause-made : goal.returns-clause-made
returns-clause-made c = rw c.in_ok-vec.ensures.items (two-decisions _ _ c.in_ok-yes.yes c.in_ok-no.no _ _ c.in_ok-yes.ensures.made c.in_ok-no.ensures.longer c.in_ok-no.ensures.made)
