use Rattle.std.proofs.Common.{◌≡◌, false, arith}
use Rattle.std.specs.Prelude.{◌==◌}
use Rattle.std.proofs.lemmas.Bool.Decides.{nat_tests}
use Rattle.form_table.specs.Nodes.{formulas_in}
use Rattle.form_table.proofs.Dividing.{beyond, past}
use Rattle.form_table.proofs.disjunctions.find_disjunction.Goals as goal
use Rattle.form_table.proofs.disjunctions.find_disjunction.Goals.{in-Some+else-left-eq0, in_default}

pub loop-place-preserved : goal.loop-place-preserved
loop-place-preserved c = elim c.match-disjuncts.branch [
  | in-Some+else-left-eq0 w ↦
      let other : (c.loop-place.left == 0) ≡ false = grind (arith, nat_tests) in
      rw w.left-is (beyond (formulas_in c.args.store.now) c.args.parts.now c.loop-place.place c.loop-place.left _ _ (omega arith) w.in-Some.ensures.exact other c.loop-place.invariant)
  | in_default w ↦
      rw w.left-is (past (formulas_in c.args.store.now) c.args.parts.now c.loop-place.place c.loop-place.left _ (omega arith) w.in_default.ensures.exact c.loop-place.invariant)
]
