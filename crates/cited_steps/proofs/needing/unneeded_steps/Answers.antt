use Rattle.std.proofs.Common.{◌≡◌, ℕ, suc, ◌+◌, List, map, length, sym, subst, arith}
use Rattle.std.proofs.lemmas.List.{length-map}
use Rattle.temporal_goals.specs.Plain.{plain_step}
use Rattle.cited_steps.specs.Looking.{AreLeft}
use Rattle.cited_steps.proofs.Gathering.{unneeded}
use Rattle.cited_steps.proofs.needing.unneeded_steps.Goals as goal

pub loop-number-preserved : goal.loop-number-preserved
loop-number-preserved c =
    let n = c.loop-number.number in
    let one : suc n ≡ n + 1 = omega arith in
    let same : c.deref.result.now ≡ c.in_ok-needed.needed.items = c.deref.ensures.value in
    subst (λ (k : ℕ). AreLeft c.in_ok-needed.needed.items k c.keep_unneeded.new.left.items) one
    (subst (λ (ns : List ℕ). AreLeft ns (suc n) c.keep_unneeded.new.left.items) same
    (c.in_ok-keep_unneeded.ensures (subst (λ (ns : List ℕ). AreLeft ns n c.loop-number.left.items) (sym same) c.loop-number.invariant)))

pub returns : goal.returns
returns c =
    let steps = map plain_step c.args.steps.now in
    let all : c.loop-number.number ≡ length steps = omega (arith, c.loop-number-test.false, c.loop-number.auto.number-end, length-map c.args.steps.now plain_step) in
    unneeded steps c.args.goals.now c.in_ok-needed.needed.items c.loop-number.left.items c.loop-number.number all c.in_ok-needed.ensures c.loop-number.invariant
