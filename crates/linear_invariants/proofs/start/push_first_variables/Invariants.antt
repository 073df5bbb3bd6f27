use Rattle.std.proofs.Common.{◌≡◌, ◌-◌, ◌+◌, ◌++◌, []}
use Rattle.equation_laws.specs.Rows.{variable_rows, first_variable_row}
use Rattle.linear_invariants.proofs.start.push_first_variables.Given as goal

abbrev pub invariant-loop-variable : goal.invariant-loop-variable
invariant-loop-variable l =
    l.rows.items ++ variable_rows (first_variable_row (l.variables + l.locations + 1) l.forms) (l.variables - l.variable) l.variable []
    ≡ l.fn.rows.items ++ variable_rows (first_variable_row (l.variables + l.locations + 1) l.forms) l.variables 0 []
