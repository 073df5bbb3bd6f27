use Rattle.std.proofs.Common.{◌≡◌, ◌+◌, ◌*◌, drop, true}
use Rattle.std.specs.Option.{option_map}
use Rattle.st_form.specs.Simple.{gathered, simples, append}
use Rattle.form_table.specs.Table.{Extends, AreThere, listed}
use Rattle.form_table.specs.Nodes.{formulas_in}
use Rattle.form_table.specs.Contents.{decision_at}
use Rattle.form_table.specs.Memory.{choices, Remembers}
use Rattle.form_table.proofs.restriction.+under.Given as goal

abbrev pub decreases-under_part : goal.decreases-under_part
decreases-under_part l = 5 * l.number + 2

abbrev pub decreases-under_joined : goal.decreases-under_joined
decreases-under_joined l = 5 * l.number + 1

abbrev pub decreases-under_parts : goal.decreases-under_parts
decreases-under_parts l = 5 * l.number

abbrev pub decreases-take_changed : goal.decreases-take_changed
decreases-take_changed l = 5 * l.part + 3

abbrev pub decreases-take_under : goal.decreases-take_under
decreases-take_under l = 5 * l.part + 4

abbrev pub invariant-under_parts-loop-part : goal.invariant-under_parts-loop-part
invariant-under_parts-loop-part l = record {
  extends : Extends (formulas_in l.fn.pool.store) (formulas_in l.pool.store);
  remembers : Remembers (formulas_in l.pool.store) (choices l.decisions) l.memo;
  there : AreThere (formulas_in l.pool.store) l.out.items;
  same : option_map (append (listed (formulas_in l.pool.store) l.out.items)) (gathered l.all (simples (decision_at (choices l.decisions) l.decision) (listed (formulas_in l.fn.pool.store) (drop l.part-index l.parts)) true)) ≡ gathered l.all (simples (decision_at (choices l.decisions) l.decision) (listed (formulas_in l.fn.pool.store) l.parts) true);
}
