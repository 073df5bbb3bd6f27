use Rattle.std.proofs.Common.{arith, length}
use Rattle.st_form.specs.Plain.{plain_change}
use Rattle.equation_laws.specs.Rows.{variable_row}
use Rattle.linear_invariants.proofs.Appends.{variables-next}
use Rattle.linear_invariants.proofs.Kept.{variable-kept}
use Rattle.linear_invariants.proofs.requirements.push_variable_rows.Goals as goal

pub push_row-requires : goal.push_row-requires
push_row-requires c =
    rw (c.as_slice.ensures, c.in_ok-entries.ensures, c.deref.ensures.value)
    (variable-kept c.args.truths.now c.args.locations c.loop-variable.variable (plain_change c.args.change.now) c.requires.change)

pub loop-variable-preserved : goal.loop-variable-preserved
loop-variable-preserved c =
    rw (c.in_ok-push_row.ensures, c.as_slice.ensures, c.in_ok-entries.ensures, c.deref.ensures.value)
    (variables-next (variable_row (plain_change c.args.change.now)) (length c.args.truths.now) c.loop-variable.variable c.loop-variable.rows.items _ (omega arith) c.loop-variable.invariant)
