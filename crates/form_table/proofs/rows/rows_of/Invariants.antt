use Rattle.std.proofs.Common.{◌≡◌, ◌++◌, drop}
use Rattle.farkas_check.specs.Problem.{rows_of}
use Rattle.form_table.specs.Table.{listed}
use Rattle.form_table.specs.Nodes.{formulas_in}
use Rattle.form_table.proofs.rows.rows_of.Given as goal

abbrev pub invariant-loop-part : goal.invariant-loop-part
invariant-loop-part l = l.out.items ++ rows_of (listed (formulas_in l.store) (drop l.part-index l.parts)) ≡ rows_of (listed (formulas_in l.store) l.parts)
