use Rattle.test_discharge.proofs.Asking.{all_searchable}
use Rattle.test_discharge.proofs.pieces.searches_run_side_by_side.Goals as goal

pub verify_all-requires-clause-searchable : goal.verify_all-requires-clause-searchable
verify_all-requires-clause-searchable g c κs = rw c.deref.ensures.value (all_searchable 0 c.in_ok-conditions.conditions.items c.in_ok-conditions.ensures.0)
