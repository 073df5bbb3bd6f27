use Rattle.farkas_check.specs.PlainProblem.{setting}
use Rattle.shared_search.specs.Books.{case_decisions}
use Rattle.shared_search.proofs.Deciding.{kept-later}
use Rattle.shared_search.proofs.decisions.all_decisions.Goals as goal

pub returns : goal.returns
returns c = record {
  cases =
      kept-later c.all_cases.new.table.decisions c.all_truths.new.table.decisions (case_decisions (setting c.args.components.now c.args.variables.now)) c.in_ok-cases.cases.items c.in_ok-truths.ensures.longer (c.in_ok-cases.ensures.made c.args.variables.now);
  truths = c.in_ok-truths.ensures.made;
  insides = c.in_ok-insides.ensures;
}
