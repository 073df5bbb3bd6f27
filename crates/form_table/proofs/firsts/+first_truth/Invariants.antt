use Rattle.std.proofs.Common.{◌≡◌, ◌+◌, ◌*◌, drop}
use Rattle.search_laws.specs.Moves.{first_truth_of}
use Rattle.form_table.specs.Table.{listed}
use Rattle.form_table.specs.Nodes.{formulas_in}
use Rattle.form_table.proofs.firsts.+first_truth.Given as goal

abbrev pub decreases-first_truth : goal.decreases-first_truth
decreases-first_truth l = 2 * l.number + 1

abbrev pub decreases-first_truth_of : goal.decreases-first_truth_of
decreases-first_truth_of l = 2 * l.number

abbrev pub invariant-first_truth_of-loop-part : goal.invariant-first_truth_of-loop-part
invariant-first_truth_of-loop-part l = first_truth_of (listed (formulas_in l.store) (drop l.part-index l.parts)) ≡ first_truth_of (listed (formulas_in l.store) l.parts)
