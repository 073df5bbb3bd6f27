use Rattle.std.proofs.Common.{◌≡◌, ◌+◌, ◌*◌, drop}
use Rattle.search_laws.specs.Moves.{first_place_of}
use Rattle.form_table.specs.Table.{listed}
use Rattle.form_table.specs.Nodes.{formulas_in}
use Rattle.form_table.proofs.firsts.+first_place.Given as goal

abbrev pub decreases-first_place : goal.decreases-first_place
decreases-first_place l = 2 * l.number + 1

abbrev pub decreases-first_place_of : goal.decreases-first_place_of
decreases-first_place_of l = 2 * l.number

abbrev pub invariant-first_place_of-loop-part : goal.invariant-first_place_of-loop-part
invariant-first_place_of-loop-part l = first_place_of (listed (formulas_in l.store) (drop l.part-index l.parts)) ≡ first_place_of (listed (formulas_in l.store) l.parts)
