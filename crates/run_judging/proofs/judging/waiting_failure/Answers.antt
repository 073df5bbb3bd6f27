use Rattle.std.proofs.Common.{rules, ◌≡◌, ◌-◌, ◌<◌, ◌≤◌, ℕ, suc, List, Bool, length, arith, sym, subst, false, true, ◌∙◌}
use Rattle.observations.specs.Observation.{Observation, last}
use Rattle.observations.specs.Goals.{WaitsFrom}
use Rattle.st_form.specs.Formula.{Situation}
use Rattle.run_judging.specs.Shown.{AreRows}
use Rattle.run_judging.proofs.Sentences.{IsFirstFailureFrom, failure-none, failure-fails, failure-passes, failure-all, failure-as}
use Rattle.run_judging.proofs.Levels.{LowestFrom, lowest-none, lowest-step, stuck, free}
use Rattle.run_judging.proofs.judging.waiting_failure.Goals as goal

pub loop-position-init : goal.loop-position-init
loop-position-init c = record {
  within = search rules;
  lowest = λ o forms shown. lowest-none o forms (length c.args.rows.now) (let size = shown.long in omega arith);
  failure = λ o p forms ps shown. failure-none (length c.args.rows.now) (WaitsFrom p forms o);
}

pub loop-position-preserved-then-is_stuck : goal.loop-position-preserved-then-is_stuck
loop-position-preserved-then-is_stuck c =
    let k : ℕ = c.loop-position.position - 1 in
    let some : c.loop-position.position ≡ suc k = omega arith in
    let below : k < length c.args.rows.now = omega arith in
    let lowest : (o : Observation Situation) (forms : List (Situation → Bool)) → AreRows forms o c.args.rows.now → LowestFrom o forms k c.lowest_level-lowest.result = λ o forms shown.
    let size = shown.long in
    let inside : k ≤ last o = omega arith in
    lowest-step o forms k c.lowest_level-lowest.result c.loop-position.lowest c.row_at-row.result.now inside (c.row_at-row.ensures ∙ shown.each k inside) c.lowest_level-lowest.ensures
    (subst (λ i. LowestFrom o forms i c.loop-position.lowest) some (c.loop-position.invariant.lowest o forms shown)) in
    record {
      within = omega arith;
      lowest = lowest;
      failure = λ o p forms ps shown. failure-fails (length c.args.rows.now) (WaitsFrom p forms o) k below
          (stuck o p forms c.args.premise.now c.args.rows.now k c.lowest_level-lowest.result c.row_at-row.result.now _ below c.requires.premise c.row_at-row.ensures ps shown (lowest o forms shown) (c.is_stuck.ensures.0 c.if-is_stuck.true));
    }

pub loop-position-preserved : goal.loop-position-preserved
loop-position-preserved c =
    let k : ℕ = c.loop-position.position - 1 in
    let some : c.loop-position.position ≡ suc k = omega arith in
    let below : k < length c.args.rows.now = omega arith in
    let lowest : (o : Observation Situation) (forms : List (Situation → Bool)) → AreRows forms o c.args.rows.now → LowestFrom o forms k c.lowest_level-lowest.result = λ o forms shown.
    let size = shown.long in
    let inside : k ≤ last o = omega arith in
    lowest-step o forms k c.lowest_level-lowest.result c.loop-position.lowest c.row_at-row.result.now inside (c.row_at-row.ensures ∙ shown.each k inside) c.lowest_level-lowest.ensures
    (subst (λ i. LowestFrom o forms i c.loop-position.lowest) some (c.loop-position.invariant.lowest o forms shown)) in
    record {
      within = omega arith;
      lowest = lowest;
      failure = λ o p forms ps shown. failure-passes (length c.args.rows.now) (WaitsFrom p forms o) k
          (free o p forms c.args.premise.now c.args.rows.now k c.lowest_level-lowest.result c.row_at-row.result.now _ below c.requires.premise c.row_at-row.ensures ps shown (lowest o forms shown) (λ is. (let clash : false ≡ true = sym c.if-is_stuck.false ∙ c.is_stuck.ensures.1 is in cc)))
          c.loop-position.failure (subst (λ i. IsFirstFailureFrom i (length c.args.rows.now) (WaitsFrom p forms o) c.loop-position.failure) some (c.loop-position.invariant.failure o p forms ps shown));
    }

pub returns : goal.returns
returns c = λ o p forms ps shown.
    let none : c.loop-position.position ≡ 0 = omega arith in
    let all = failure-all (length c.args.rows.now) (WaitsFrom p forms o) c.loop-position.failure
    (subst (λ i. IsFirstFailureFrom i (length c.args.rows.now) (WaitsFrom p forms o) c.loop-position.failure) none (c.loop-position.invariant.failure o p forms ps shown)) in
    failure-as (length c.args.rows.now) (suc (last o)) (WaitsFrom p forms o) (WaitsFrom p forms o) shown.long (λ i below w. w) (λ i below w. w) c.loop-position.failure all
