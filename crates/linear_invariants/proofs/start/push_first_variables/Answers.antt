use Rattle.std.proofs.Common.{arith, ◌+◌}
use Rattle.equation_laws.specs.Rows.{first_variable_row}
use Rattle.linear_invariants.proofs.Appends.{variables-next}
use Rattle.linear_invariants.proofs.Kept.{first-variable-kept}
use Rattle.linear_invariants.proofs.start.push_first_variables.Goals as goal

pub push_row-requires : goal.push_row-requires
push_row-requires c =
    rw (c.as_slice.ensures, c.in_ok-entries.ensures)
    (first-variable-kept (c.args.variables + c.args.locations + 1) c.loop-variable.variable c.args.forms.now (omega arith) c.requires.slight)

pub loop-variable-preserved : goal.loop-variable-preserved
loop-variable-preserved c =
    rw (c.in_ok-push_row.ensures, c.as_slice.ensures, c.in_ok-entries.ensures)
    (variables-next (first_variable_row (c.args.variables + c.args.locations + 1) c.args.forms.now) c.args.variables c.loop-variable.variable c.loop-variable.rows.items _ (omega arith) c.loop-variable.invariant)
