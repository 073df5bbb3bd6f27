use Rattle.std.proofs.Common.{◌≡◌, ◌-◌, ◌++◌, [], length}
use Rattle.st_form.specs.Plain.{plain_change}
use Rattle.equation_laws.specs.Rows.{variable_rows, variable_row}
use Rattle.linear_invariants.proofs.requirements.push_variable_rows.Given as goal

abbrev pub invariant-loop-variable : goal.invariant-loop-variable
invariant-loop-variable l =
    l.rows.items ++ variable_rows (variable_row (plain_change l.change)) (length l.truths - l.variable) l.variable []
    ≡ l.fn.rows.items ++ variable_rows (variable_row (plain_change l.change)) (length l.truths) 0 []
