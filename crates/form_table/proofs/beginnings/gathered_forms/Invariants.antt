use Rattle.std.proofs.Common.{◌≡◌, drop}
use Rattle.std.specs.Option.{option_map}
use Rattle.st_form.specs.Plain.{plain_list}
use Rattle.st_form.specs.Simple.{AreModest, gathered, simples, append, nothing}
use Rattle.form_table.specs.Table.{Extends, AreThere, listed}
use Rattle.form_table.specs.Nodes.{formulas_in}
use Rattle.form_table.specs.Memory.{AreRead}
use Rattle.form_table.proofs.beginnings.gathered_forms.Given as goal

abbrev pub invariant-loop-form : goal.invariant-loop-form
invariant-loop-form l = record {
  modest : AreModest (plain_list (drop l.form-index l.forms));
  extends : Extends (formulas_in l.fn.pool.store) (formulas_in l.pool.store);
  read : AreRead (formulas_in l.pool.store) l.readings.entries.items;
  there : AreThere (formulas_in l.pool.store) l.out.items;
  same : option_map (append (listed (formulas_in l.pool.store) l.out.items)) (gathered l.all (simples nothing (plain_list (drop l.form-index l.forms)) l.plus)) ≡ gathered l.all (simples nothing (plain_list l.forms) l.plus);
}
