use Rattle.std.proofs.Common.{◌≡◌, drop}
use Rattle.std.specs.Option.{option_map}
use Rattle.st_form.specs.Simple.{gathered, append}
use Rattle.form_table.specs.Table.{AreThere, listed}
use Rattle.form_table.specs.Nodes.{formulas_in}
use Rattle.form_table.proofs.parts.gather.Given as goal

abbrev pub invariant-loop-part : goal.invariant-loop-part
invariant-loop-part l = record {
  there : AreThere (formulas_in l.store) l.out.items;
  same : option_map (append (listed (formulas_in l.store) l.out.items)) (gathered l.all (listed (formulas_in l.store) (drop l.part-index l.parts))) ≡ gathered l.all (listed (formulas_in l.store) l.parts);
}
