use Rattle.std.proofs.Common.{◌≡◌, drop}
use Rattle.std.specs.Option.{option_map}
use Rattle.st_form.specs.Plain.{plain_list}
use Rattle.st_form.specs.Simple.{AreModest, gathered, simples, append, nothing}
use Rattle.form_table.specs.Table.{Extends, AreThere, listed}
use Rattle.form_table.specs.Nodes.{formulas_in}
use Rattle.form_table.proofs.simplification.+normal.Given as goal

abbrev pub invariant-normal_all-loop-f : goal.invariant-normal_all-loop-f
invariant-normal_all-loop-f l = record {
  modest : AreModest (plain_list (drop l.f-index l.fs));
  extends : Extends (formulas_in l.fn.pool.store) (formulas_in l.pool.store);
  there : AreThere (formulas_in l.pool.store) l.out.items;
  same : option_map (append (listed (formulas_in l.pool.store) l.out.items)) (gathered l.all (simples nothing (plain_list (drop l.f-index l.fs)) l.plus)) ≡ gathered l.all (simples nothing (plain_list l.fs) l.plus);
}
