use Rattle.std.proofs.Common.{◌+◌, take, drop}
use Rattle.farkas_check.specs.Problem.{in_place}
use Rattle.form_table.specs.Table.{Extends, listed}
use Rattle.form_table.specs.Nodes.{formulas_in}
use Rattle.form_table.specs.Lists.{AreLists}
use Rattle.form_table.proofs.splitting.split_by.Given as goal

abbrev pub invariant-loop-part : goal.invariant-loop-part
invariant-loop-part l = record {
  extends : Extends (formulas_in l.fn.pool.store) (formulas_in l.pool.store);
  lists : AreLists (formulas_in l.pool.store) l.out.items (in_place (listed (formulas_in l.fn.pool.store) (take l.place l.parts)) (listed (formulas_in l.fn.pool.store) (take l.part-index l.disjuncts)) (listed (formulas_in l.fn.pool.store) (drop (l.place + 1) l.parts)));
}
