use Rattle.std.proofs.Common.{◌∙◌, sym}
use Rattle.test_discharge.proofs.Asking.{all_checkable}
use Rattle.test_discharge.proofs.pieces.checks_run_side_by_side.Goals as goal

pub check_all-requires-clause-checkable : goal.check_all-requires-clause-checkable
check_all-requires-clause-checkable g c κs =
    rw (c.deref.ensures.value, c.deref-2.ensures.value)
    (all_checkable c.in_ok-conditions.conditions.items c.in_ok-blocks.blocks.items c.in_ok-conditions.ensures.0 c.in_ok-blocks.ensures.0 (c.in_ok-conditions.ensures.1 ∙ sym c.in_ok-blocks.ensures.1))
