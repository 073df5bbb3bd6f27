use Rattle.std.proofs.Common.{◌≡◌, ◌++◌, map, drop}
use Rattle.farkas_leaf.specs.Lent.{lent_line}
use Rattle.farkas_check.specs.Problem.{lines_of}
use Rattle.form_table.specs.Table.{listed}
use Rattle.form_table.specs.Nodes.{formulas_in}
use Rattle.form_table.proofs.conjuncts.lines_of.Given as goal

abbrev pub invariant-loop-part : goal.invariant-loop-part
invariant-loop-part l = map lent_line l.out.items ++ lines_of (listed (formulas_in l.store) (drop l.part-index l.parts)) ≡ lines_of (listed (formulas_in l.store) l.parts)
