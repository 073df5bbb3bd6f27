use Rattle.std.proofs.Common.{length, refl, arith}
use Rattle.std.proofs.lemmas.Option.{slice_get_read}
use Rattle.farkas_check.specs.PlainProblem.{setting}
use Rattle.discharge.proofs.Marking.{searchable_at}
use Rattle.step_run.proofs.Accepting.{on-valid, on-open, on-end}
use Rattle.step_run.proofs.acceptance.are_all_valid.Goals as goal

pub unless_valid-requires : goal.unless_valid-requires
unless_valid-requires c =
    let cs = c.args.conditions.now in
    let i = c.loop-condition.condition-index in
    let at = slice_get_read cs (length cs) i c.condition-item.result refl (omega arith) c.condition-item.is in
    let it = searchable_at (length c.args.variables.now) cs i c.condition-item.result c.requires.searchable at in
    record { few = c.requires.few; given = it.given; shown = it.shown; given_below = it.given_below; shown_below = it.shown_below; knows = c.loop-condition.invariant.knows }

pub returns-in-Some-clause-exact : goal.returns-in-Some-clause-exact
returns-in-Some-clause-exact c =
    let told = rw c.in-Some.is at c.in_ok-unless_valid.ensures.exact in
    on-open (setting c.args.components.now c.args.variables.now) c.args.conditions.now c.loop-condition.condition-index c.condition-item.result c.in-Some.field-0 (omega arith) c.condition-item.is told
    c.loop-condition.invariant.so_far

pub loop-condition-preserved : goal.loop-condition-preserved
loop-condition-preserved c =
    let told = rw c.in_default.is at c.in_ok-unless_valid.ensures.exact in
    record {
      knows = c.in_ok-unless_valid.ensures.knows;
      so_far = on-valid (setting c.args.components.now c.args.variables.now) c.args.conditions.now c.loop-condition.condition-index c.condition-item.result (omega arith) c.condition-item.is told
          c.loop-condition.invariant.so_far;
    }

pub returns-clause-exact : goal.returns-clause-exact
returns-clause-exact c =
    on-end (setting c.args.components.now c.args.variables.now) c.args.conditions.now c.loop-condition.condition-index (omega (arith, c.loop-condition-test.false)) c.loop-condition.invariant.so_far
