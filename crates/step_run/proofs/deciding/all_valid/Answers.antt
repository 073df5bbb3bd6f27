use Rattle.std.proofs.Common.{refl, arith}
use Rattle.step_run.specs.Views.{posed_view}
use Rattle.step_run.proofs.Slices.{one_looked, looked_ends}
use Rattle.step_run.proofs.deciding.all_valid.Goals as goal

pub returns-in-Over : goal.returns-in-Over
returns-in-Over c =
    let a = c.args in
    let l = c.loop-verdict in
    looked_ends (posed_view a.posed.now) a.posed.now.conditions.items a.verdicts.now a.from l.verdict-index c.verdict-item.result refl c.requires.within c.requires.answers (omega arith) c.verdict-item.is l.invariant.looked l.place
    c.in_ok-at_verdict.field-0 c.in-Over.ended l.invariant.place c.in-Over.is c.in_ok-at_verdict.ensures

pub loop-verdict-preserved : goal.loop-verdict-preserved
loop-verdict-preserved c =
    let a = c.args in
    let l = c.loop-verdict in
    record {
      place = (let at = l.invariant.place in omega (arith, at));
      looked = one_looked (posed_view a.posed.now) a.posed.now.conditions.items a.verdicts.now a.from l.verdict-index c.verdict-item.result refl c.requires.within c.requires.answers (omega arith) c.verdict-item.is l.invariant.looked l.place
          c.in_ok-at_verdict.field-0 c.in-On.field-0 l.invariant.place c.in-On.is c.in_ok-at_verdict.ensures;
    }
