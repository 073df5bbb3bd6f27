use Rattle.std.proofs.Common.{map, sym, subst}
use Rattle.transition_system.specs.Plain.{plain_system}
use Rattle.vc_generator.specs.Plain.{plain_list}
use Rattle.vc_generator.specs.Refusing.{Begins}
use Rattle.vc_generator.proofs.Growing.{conditions}
use Rattle.rule_fits.specs.Obeying.{RuleFits}
use Rattle.script_laws.specs.Written.{StepWritten}
use Rattle.obligations.proofs.Walking.{begin, begins-alone, begins-more, each-at, onward, own, refused, whole}
use Rattle.obligations.proofs.scripts.append_steps.Goals as goal

pub loop-index-init : goal.loop-index-init
loop-index-init c = record {
  behind = begin (plain_system c.args.fts.now) c.args.steps.now c.args.first (plain_list c.args.list.now) c.requires.known c.requires.before;
  begins = begins-alone (plain_list c.args.list.now);
}

pub append_step-requires-clause-fits : goal.append_step-requires-clause-fits
append_step-requires-clause-fits c =
    each-at (λ s. RuleFits (plain_system c.args.fts.now) s.goal s.rule) c.args.steps.now c.loop-index.index c.index-steps-index.result c.loop-index-test.true c.index-steps-index.is c.requires.fits

pub append_step-requires-clause-written : goal.append_step-requires-clause-written
append_step-requires-clause-written c =
    each-at (StepWritten (plain_system c.args.fts.now)) c.args.steps.now c.loop-index.index c.index-steps-index.result c.loop-index-test.true c.index-steps-index.is c.requires.written

pub returns-in-Err-clause-refused : goal.returns-in-Err-clause-refused
returns-in-Err-clause-refused c =
    rw (c.fault_at.ensures)
    (refused (plain_system c.args.fts.now) c.args.steps.now c.loop-index.index c.index-steps-index.result (plain_list c.loop-index.list) c.in-Err.fault c.loop-index-test.true c.index-steps-index.is c.in-Err.ensures.0
    c.loop-index.invariant.behind)

pub returns-in-Err-clause-begins : goal.returns-in-Err-clause-begins
returns-in-Err-clause-begins c = subst (Begins (plain_list c.args.list.now)) (sym c.in-Err.ensures.1) c.loop-index.invariant.begins

pub loop-index-preserved : goal.loop-index-preserved
loop-index-preserved c =
    let system = plain_system c.args.fts.now in
    let old = plain_list c.loop-index.list in
    let new = plain_list c.append_step.new.out in
    record {
      behind = onward system c.args.steps.now c.loop-index.index c.index-steps-index.result old new c.loop-index-test.true c.index-steps-index.is c.in-Ok.ensures.0 c.in-Ok.ensures.1 c.loop-index.invariant.behind;
      begins = subst (Begins (plain_list c.args.list.now)) (sym c.in-Ok.ensures.1)
          (begins-more (plain_list c.args.list.now) old (conditions (own system c.args.steps.now c.loop-index.index c.index-steps-index.result)) c.loop-index.invariant.begins);
    }

pub returns-clause-made : goal.returns-clause-made
returns-clause-made c = whole (plain_system c.args.fts.now) c.args.steps.now c.loop-index.index (plain_list c.loop-index.list) c.loop-index-test.false c.loop-index.invariant.behind
