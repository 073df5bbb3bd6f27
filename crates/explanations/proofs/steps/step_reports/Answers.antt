use Rattle.std.proofs.Common.{arith, ◌≡◌, ◌∙◌, ap, ◌+◌, suc}
use Rattle.std.proofs.lemmas.Grind.{common_steps}
use Rattle.explanations.proofs.Outlines.{take-whole, told-more}
use Rattle.explanations.proofs.steps.step_reports.Goals as goal

pub loop-number-init : goal.loop-number-init
loop-number-init c = record {
  names = grind (arith, common_steps);
  counts = λ same. grind (arith, common_steps);
}

pub loop-number-preserved : goal.loop-number-preserved
loop-number-preserved c =
    let all = c.args.all.now in
    let number = c.loop-number.number in
    record {
      names = grind (arith, common_steps);
      counts = λ same. told-more c.push.new.self.items c.loop-number.out.items c.in_ok-step_report.field-0 all number c.at-conditions.result c.in_ok-push.ensures.items (c.loop-number.invariant.counts same) c.in_ok-step_report.ensures.count (omega (arith, same, c.loop-number-test.true)) c.at-conditions.ensures;
    }

pub returns-clause-names : goal.returns-clause-names
returns-clause-names c = grind (arith, common_steps, c.loop-number.invariant.names)

pub returns-clause-counts : goal.returns-clause-counts
returns-clause-counts c same = c.loop-number.invariant.counts same ∙ take-whole c.args.all.now c.loop-number.number (omega (arith, same, c.loop-number-test.false))
