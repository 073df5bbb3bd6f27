use Rattle.std.proofs.Common.{◌≡◌, drop, map, true, false}
use Rattle.std.specs.Option.{option_map}
use Rattle.st_form.specs.Formula.{formulas}
use Rattle.st_form.specs.Shared.{case_of}
use Rattle.st_form.specs.Simple.{AreModest, gathered, simples, append, nothing}
use Rattle.form_table.specs.Table.{Extends, AreThere, listed}
use Rattle.form_table.specs.Nodes.{formulas_in}
use Rattle.form_table.specs.Memory.{AreRead}
use Rattle.form_table.proofs.beginnings.gathered_cases.Given as goal

abbrev pub invariant-loop-case : goal.invariant-loop-case
invariant-loop-case l = record {
  modest : AreModest (formulas (map case_of (drop l.case-index l.cases)));
  extends : Extends (formulas_in l.fn.pool.store) (formulas_in l.pool.store);
  read : AreRead (formulas_in l.pool.store) l.readings.entries.items;
  there : AreThere (formulas_in l.pool.store) l.out.items;
  same : option_map (append (listed (formulas_in l.pool.store) l.out.items)) (gathered true (simples nothing (formulas (map case_of (drop l.case-index l.cases))) false)) ≡ gathered true (simples nothing (formulas (map case_of l.cases)) false);
}
