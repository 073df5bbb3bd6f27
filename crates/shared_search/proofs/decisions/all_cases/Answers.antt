use Rattle.std.proofs.Common.{◌∷◌, [], arith}
use Rattle.std.proofs.lemmas.List.{length-append}
use Rattle.farkas_check.specs.PlainProblem.{setting}
use Rattle.shared_search.specs.Books.{case_decisions}
use Rattle.shared_search.proofs.Deciding.{kept-push, longer-trans}
use Rattle.shared_search.proofs.decisions.all_cases.Goals as goal

pub loop-component-preserved : goal.loop-component-preserved
loop-component-preserved c = record {
  longer = longer-trans _ _ _ c.loop-component.invariant.longer c.in_ok-numbers.ensures.longer;
  size = rw c.in_ok-push.ensures.items (omega (arith, c.loop-component.invariant.size, length-append c.loop-component.out.items (c.in_ok-numbers.numbers ∷ [])));
  kept = λ vs.
      rw c.in_ok-push.ensures.items (kept-push c.loop-component.table.decisions c.add_cases.new.table.decisions (case_decisions (setting c.args.components.now vs)) c.loop-component.out.items c.in_ok-numbers.numbers c.loop-component.component
      c.loop-component.invariant.size c.in_ok-numbers.ensures.longer (c.loop-component.invariant.kept vs) (c.in_ok-numbers.ensures.made vs));
}
