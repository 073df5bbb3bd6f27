use Rattle.std.proofs.Common.{rules, ◌≡◌, ◌-◌, ◌<◌, ℕ, suc, length, arith, sym, subst, false, true, ◌∙◌}
use Rattle.run_judging.specs.Judging.{Responds}
use Rattle.run_judging.proofs.Sentences.{IsFirstFailureFrom, IsMostAhead, failure-none, failure-fails, failure-passes, failure-all, ahead-none, ahead-step, missed, met}
use Rattle.run_judging.proofs.judging.failure_in_numbers.Goals as goal

pub loop-position-init : goal.loop-position-init
loop-position-init c = record {
  within = search rules;
  most = ahead-none c.args.target.now c.args.counts.now;
  failure = failure-none (length c.args.counts.now) (Responds c.args.premise.now c.args.target.now c.args.bounds.now c.args.counts.now);
}

pub loop-position-preserved-then-is_missed : goal.loop-position-preserved-then-is_missed
loop-position-preserved-then-is_missed c =
    let k : ℕ = c.loop-position.position - 1 in
    let some : c.loop-position.position ≡ suc k = omega arith in
    let below : k < length c.args.counts.now = omega arith in
    let most : IsMostAhead c.args.target.now c.args.counts.now k c.most_ahead-most.result = ahead-step c.args.target.now c.args.counts.now k c.loop-position.position c.loop-position.most c.most_ahead-most.result _ some below c.requires.target c.most_ahead-most.ensures c.loop-position.invariant.most in
    record {
      within = omega arith;
      most = most;
      failure = failure-fails (length c.args.counts.now) (Responds c.args.premise.now c.args.target.now c.args.bounds.now c.args.counts.now) k below
          (missed c.args.premise.now c.args.target.now c.args.bounds.now c.args.counts.now k c.most_ahead-most.result _ _ _ below c.requires.premise c.requires.target c.requires.bounds most (c.is_missed.ensures.0 c.if-is_missed.true));
    }

pub loop-position-preserved : goal.loop-position-preserved
loop-position-preserved c =
    let k : ℕ = c.loop-position.position - 1 in
    let some : c.loop-position.position ≡ suc k = omega arith in
    let below : k < length c.args.counts.now = omega arith in
    let From : ℕ → Type 0 = Responds c.args.premise.now c.args.target.now c.args.bounds.now c.args.counts.now in
    let most : IsMostAhead c.args.target.now c.args.counts.now k c.most_ahead-most.result = ahead-step c.args.target.now c.args.counts.now k c.loop-position.position c.loop-position.most c.most_ahead-most.result _ some below c.requires.target c.most_ahead-most.ensures c.loop-position.invariant.most in
    record {
      within = omega arith;
      most = most;
      failure = failure-passes (length c.args.counts.now) From k
          (met c.args.premise.now c.args.target.now c.args.bounds.now c.args.counts.now k c.most_ahead-most.result _ _ _ below c.requires.premise c.requires.target c.requires.bounds most (λ is. (let clash : false ≡ true = sym c.if-is_missed.false ∙ c.is_missed.ensures.1 is in cc)))
          c.loop-position.failure (subst (λ i. IsFirstFailureFrom i (length c.args.counts.now) From c.loop-position.failure) some c.loop-position.invariant.failure);
    }

pub returns : goal.returns
returns c =
    let none : c.loop-position.position ≡ 0 = omega arith in
    failure-all (length c.args.counts.now) (Responds c.args.premise.now c.args.target.now c.args.bounds.now c.args.counts.now) c.loop-position.failure
    (subst (λ i. IsFirstFailureFrom i (length c.args.counts.now) (Responds c.args.premise.now c.args.target.now c.args.bounds.now c.args.counts.now) c.loop-position.failure) none c.loop-position.invariant.failure)
