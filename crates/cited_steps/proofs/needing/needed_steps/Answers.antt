use Rattle.std.proofs.Common.{◌≡◌, ℕ, suc, ◌+◌, ◌-◌, ◌≤◌, map, length, sym, subst, arith}
use Rattle.std.proofs.lemmas.List.{length-map}
use Rattle.temporal_goals.specs.Plain.{plain_step}
use Rattle.cited_steps.specs.Looking.{AreGathered}
use Rattle.cited_steps.proofs.Gathering.{begun, ended}
use Rattle.cited_steps.proofs.needing.needed_steps.Goals as goal

pub loop-behind-init : goal.loop-behind-init
loop-behind-init c =
    let steps = map plain_step c.args.steps.now in
    let long : length steps ≤ length c.args.steps.now - 0 = omega (arith, length-map c.args.steps.now plain_step) in
    subst (AreGathered steps c.args.goals.now (length c.args.steps.now - 0)) (sym c.in_ok-needed.ensures.items) (begun steps c.args.goals.now c.requires (length c.args.steps.now - 0) long)

pub loop-behind-preserved : goal.loop-behind-preserved
loop-behind-preserved c =
    let steps = map plain_step c.args.steps.now in
    let n = length c.args.steps.now in
    let k = c.loop-behind.behind in
    let one : n - k ≡ suc (n - 1 - k) = omega (arith, c.loop-behind-test.true) in
    let same : n - 1 - k ≡ n - (k + 1) = omega arith in
    subst (λ (x : ℕ). AreGathered steps c.args.goals.now x c.look_at.new.needed.items) same
    (c.in_ok-look_at.ensures c.args.goals.now (subst (λ (x : ℕ). AreGathered steps c.args.goals.now x c.loop-behind.needed.items) one c.loop-behind.invariant))

pub returns : goal.returns
returns c =
    let steps = map plain_step c.args.steps.now in
    let none : length c.args.steps.now - c.loop-behind.behind ≡ 0 = omega (arith, c.loop-behind-test.false) in
    ended steps c.args.goals.now c.requires c.loop-behind.needed.items (subst (λ (x : ℕ). AreGathered steps c.args.goals.now x c.loop-behind.needed.items) none c.loop-behind.invariant)
