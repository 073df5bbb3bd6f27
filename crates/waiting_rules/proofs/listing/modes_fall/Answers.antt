use Rattle.std.proofs.Common.{arith, ◌≡◌, subst, ap, ◌-◌, ◌+◌, ◌<◌, length, map, drop}
use Rattle.std.proofs.lemmas.Result.{err_from_is_err_and}
use Rattle.st_form.specs.Plain.{plain}
use Rattle.vc_generator.proofs.Growing.{Left, left-on, left-refused, left-none}
use Rattle.rule_laws.specs.WaitingFor.{move_list}
use Rattle.vc_generator.specs.Asked.{system_of, lemmas_of}
use Rattle.waiting_rules.proofs.Nexts.{fall-next, none-fall, to-the-end}
use Rattle.waiting_rules.proofs.listing.modes_fall.Goals as goal

pub returns-in_err-level_falls : goal.returns-in_err-level_falls
returns-in_err-level_falls c =
    let p = err_from_is_err_and c.from_residual-in_err-level_falls.result c.from_residual-in_err-level_falls.ensures.1 in
    let i = c.loop-index.index - 1 in
    let past = c.loop-index.invariant.past in
    let more : i + 1 < length c.args.levels.now = omega (arith, c.loop-index-test.true) in
    let next = fall-next c.args.asking.now.step (system_of c.args.asking.now) (lemmas_of c.args.asking.now) c.args.levels.now i (length c.args.levels.now - c.loop-index.index) c.index-levels-index.result c.in_ok-below.below more (omega arith) c.index-levels-index.is (to-the-end c.args.levels.now i c.in_ok-below.below c.in_ok-below.ensures) in
    rw (p.1, p.2) (left-refused _ _ _ _ _ _ c.in_err-level_falls.field-0.0 (subst (Left _ _ _) next c.loop-index.invariant.left) c.in_err-level_falls.ensures.0 c.in_err-level_falls.ensures.1)

pub loop-index-preserved : goal.loop-index-preserved
loop-index-preserved c =
    let i = c.loop-index.index - 1 in
    let past = c.loop-index.invariant.past in
    let more : i + 1 < length c.args.levels.now = omega (arith, c.loop-index-test.true) in
    let next = fall-next c.args.asking.now.step (system_of c.args.asking.now) (lemmas_of c.args.asking.now) c.args.levels.now i (length c.args.levels.now - c.loop-index.index) c.index-levels-index.result c.in_ok-below.below more (omega arith) c.index-levels-index.is (to-the-end c.args.levels.now i c.in_ok-below.below c.in_ok-below.ensures) in
    let left = left-on _ _ _ _ _ _ (subst (Left _ _ _) next c.loop-index.invariant.left) c.in_ok-level_falls.ensures.0 c.in_ok-level_falls.ensures.1 in
    let on : i + 1 ≡ c.loop-index.index + 1 - 1 = omega (arith, past) in
    record {
      past = omega (arith, past);
      left = subst (Left _ _ _) (ap (λ n. move_list c.args.asking.now.step (system_of c.args.asking.now) (lemmas_of c.args.asking.now) (map plain (drop n c.args.levels.now))) on) left;
    }

pub returns : goal.returns
returns c =
    let i = c.loop-index.index - 1 in
    let past = c.loop-index.invariant.past in
    let none = none-fall c.args.asking.now.step (system_of c.args.asking.now) (lemmas_of c.args.asking.now) c.args.levels.now i (omega (arith, c.loop-index-test.false)) in
    left-none _ _ _ tt (subst (Left _ _ _) none c.loop-index.invariant.left)
