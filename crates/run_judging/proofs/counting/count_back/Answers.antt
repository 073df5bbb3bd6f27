use Rattle.std.proofs.Common.{rules, ◌≡◌, ◌-◌, ◌<◌, ℕ, suc, true, length, arith, sym, ap, ◌∙◌}
use Rattle.std.specs.Prelude.{slice_get, replicate}
use Rattle.std.specs.declared.option.Option.TheVariants.{Some}
use Rattle.observations.specs.Observation.{Observation}
use Rattle.st_form.specs.Formula.{Situation}
use Rattle.run_judging.specs.Shown.{Shows}
use Rattle.run_judging.specs.Paying.{nothing}
use Rattle.run_judging.proofs.Looking.{AreAhead, on-true, on-false, nothing-ahead, back-from}
use Rattle.run_judging.proofs.Backwards.{end-here, end-behind, end-step, pass-step, count-step, small-step, none-greatest, set-long, zero-small}
use Rattle.std.proofs.lemmas.List.{length-replicate}
use Rattle.run_judging.proofs.counting.count_back.Goals as goal

pub loop-position-init : goal.loop-position-init
loop-position-init c =
    let is = c.positions-never.ensures in
    record {
      within = search rules;
      counts = ap length c.requires.counts ∙ length-replicate (length c.args.course.now.enabled.items) 0 ∙ sym is;
      aheads = ap length c.requires.aheads ∙ length-replicate (length c.args.course.now.fairness.items) (nothing (length c.args.course.now.enabled.items));
      small = zero-small c.args.counts.now (length c.args.course.now.enabled.items) c.positions-never.result c.requires.counts is;
      end = end-behind c.args.barred.now c.positions-never.result;
      ahead = λ o shows. nothing-ahead o (length c.args.course.now.fairness.items) c.positions-never.result c.args.aheads.now (c.requires.aheads ∙ ap (λ n. replicate (length c.args.course.now.fairness.items) (nothing n)) (sym is)) (is ∙ shows.long);
      greatest = λ o shows. none-greatest o c.args.course.now c.args.barred.now c.positions-never.result c.args.counts.now is shows;
    }

pub loop-position-preserved-then-is_on : goal.loop-position-preserved-then-is_on
loop-position-preserved-then-is_on c =
    let k : ℕ = c.loop-position.position - 1 in
    let some : c.loop-position.position ≡ suc k = omega arith in
    let inside : k < length c.args.course.now.enabled.items = omega arith in
    let here : slice_get c.args.barred.now k ≡ Some true = on-true (slice_get c.args.barred.now k) (sym c.is_on.ensures ∙ c.if-is_on.true) in
    record {
      within = omega arith;
      counts = c.loop-position.invariant.counts;
      aheads = c.look_back.auto.aheads ∙ c.loop-position.invariant.aheads;
      small = c.loop-position.invariant.small;
      end = end-here c.args.barred.now c.positions-never.result k (omega arith) here;
      ahead = λ o shows. back-from o c.args.course.now c.loop-position.position k c.enabled_at.result.now c.taken_at.result c.loop-position.aheads c.look_back.new.aheads some inside c.enabled_at.ensures c.taken_at.ensures c.look_back.ensures shows (c.loop-position.invariant.ahead o shows);
      greatest = λ o shows. pass-step o c.args.barred.now c.loop-position.position k c.loop-position.counts some here (c.loop-position.invariant.greatest o shows);
    }

pub loop-position-preserved : goal.loop-position-preserved
loop-position-preserved c =
    let k : ℕ = c.loop-position.position - 1 in
    let some : c.loop-position.position ≡ suc k = omega arith in
    let inside : k < length c.args.course.now.enabled.items = omega arith in
    let is = c.positions-never.ensures in
    let free = on-false (slice_get c.args.barred.now k) (sym c.is_on.ensures ∙ c.if-is_on.false) in
    let stop = end-step c.args.barred.now c.positions-never.result c.loop-position.position k c.loop-position.end some free c.loop-position.invariant.end in
    let ahead : (o : Observation Situation) → Shows c.args.course.now o → AreAhead o k c.look_back.new.aheads = λ o shows. back-from o c.args.course.now c.loop-position.position k c.enabled_at.result.now c.taken_at.result c.loop-position.aheads c.look_back.new.aheads some inside c.enabled_at.ensures c.taken_at.ensures c.look_back.ensures shows (c.loop-position.invariant.ahead o shows) in
    let names : length c.look_back.new.aheads ≡ length c.args.course.now.fairness.items = c.look_back.auto.aheads ∙ c.loop-position.invariant.aheads in
    record {
      within = omega arith;
      counts = set-long c.loop-position.counts k c.most_from.result c.positions-never.result c.loop-position.invariant.counts;
      aheads = names;
      small = small-step c.in_ok-demands.demands.items c.deref-else-is_on.result.now c.loop-position.counts c.positions-never.result k c.loop-position.end c.most_from.result c.deref.result.now c.look_back.new.aheads (omega arith) (let w = stop.within in omega arith) c.loop-position.invariant.counts c.deref-else-is_on.ensures.value c.in_ok-demands.ensures.meets c.most_from.ensures c.loop-position.invariant.small;
      end = stop;
      ahead = ahead;
      greatest = λ o shows. count-step o c.args.course.now c.args.barred.now c.positions-never.result c.loop-position.position k c.loop-position.end c.most_from.result c.in_ok-demands.demands.items c.deref-else-is_on.result.now c.loop-position.counts c.deref.result.now c.look_back.new.aheads is some (omega arith) c.loop-position.invariant.counts names stop free c.deref.ensures.value c.deref-else-is_on.ensures.value c.in_ok-demands.ensures.meets c.most_from.ensures shows (ahead o shows) (c.loop-position.invariant.greatest o shows);
    }
