use Rattle.std.proofs.Common.{◌∷◌, [], arith}
use Rattle.std.proofs.lemmas.List.{length-append}
use Rattle.farkas_check.specs.PlainProblem.{setting}
use Rattle.shared_search.specs.Books.{truth_decisions}
use Rattle.shared_search.proofs.Deciding.{kept-push, longer-trans}
use Rattle.shared_search.proofs.decisions.all_truths.Goals as goal

pub loop-var-preserved : goal.loop-var-preserved
loop-var-preserved c = record {
  longer = longer-trans _ _ _ c.loop-var.invariant.longer c.in_ok-numbers.ensures.longer;
  size = rw c.in_ok-push.ensures.items (omega (arith, c.loop-var.invariant.size, length-append c.loop-var.out.items (c.in_ok-numbers.numbers ∷ [])));
  kept =
      rw c.in_ok-push.ensures.items (kept-push c.loop-var.table.decisions c.add_truths.new.table.decisions (truth_decisions (setting c.args.components.now c.args.variables.now)) c.loop-var.out.items c.in_ok-numbers.numbers c.loop-var.var
      c.loop-var.invariant.size c.in_ok-numbers.ensures.longer c.loop-var.invariant.kept c.in_ok-numbers.ensures.made);
}
