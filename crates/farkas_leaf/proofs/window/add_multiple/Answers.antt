use Rattle.std.proofs.Common.{◌∙◌, sym, ap, arith, ℕ, ◌+◌, ◌-◌, ◌*ℤ◌}
use Rattle.std.proofs.lemmas.Int.{ints}
use Rattle.std.proofs.Math.ListN.{drop_of_length-le}
use Rattle.std.proofs.lemmas.List.{length-set}
use Rattle.std.proofs.Math.IntN.{zero-*ℤ}
use Rattle.farkas_leaf.proofs.Products.{to_z-below}
use Rattle.farkas_leaf.proofs.Coefficients.{left-kept, left-other, left-before}
use Rattle.farkas_leaf.proofs.WindowSums.{due-before, due-within, due-bounded}
use Rattle.farkas_leaf.proofs.window.add_multiple.Goals as goal

pub sum_with-requires-clause-sum_bound : goal.sum_with-requires-clause-sum_bound
sum_with-requires-clause-sum_bound c =
    let place : ℕ = c.from-variable.result - c.args.base in
    due-bounded c.args.base place c.args.by.now c.args.entries.now c.loop-e.e-index c.loop-e.sums c.args.sums.now c.requires.kept c.loop-e.invariant.kept c.requires.slim c.requires.by_small (omega arith) (c.requires.bounded place (omega arith)) c.loop-e.invariant.same

pub returns-then-base-variable-clause-added : goal.returns-then-base-variable-clause-added
returns-then-base-variable-clause-added c j h =
    let none_left = left-before (c.args.base + j) c.args.entries.now c.loop-e.e-index (omega arith) c.loop-e.invariant.kept (omega arith) in
    let due = c.loop-e.invariant.same j h in
    omega (arith, ints, due, ap (λ x. x *ℤ c.args.by.now) none_left ∙ zero-*ℤ c.args.by.now)

pub returns-then-base-variable-clause-behind : goal.returns-then-base-variable-clause-behind
returns-then-base-variable-clause-behind c =
    (omega arith, λ v h k. sym (c.loop-e.invariant.behind v h) ∙ left-before v c.args.entries.now c.loop-e.e-index (omega arith) c.loop-e.invariant.kept (omega arith))

pub loop-e-preserved-then-variable-base : goal.loop-e-preserved-then-variable-base
loop-e-preserved-then-variable-base c = record {
  long = c.loop-e.invariant.long;
  kept = left-kept c.args.entries.now c.loop-e.e-index (omega arith) c.loop-e.invariant.kept;
  same = due-before c.args.base c.args.by.now c.args.entries.now c.loop-e.e-index c.loop-e.sums c.args.sums.now (omega arith) (omega arith) c.loop-e.invariant.same;
  behind = λ v h. sym (left-other v c.args.entries.now c.loop-e.e-index (omega arith) (λ e. omega (arith, e))) ∙ c.loop-e.invariant.behind v h;
}

pub loop-e-preserved : goal.loop-e-preserved
loop-e-preserved c =
    let place : ℕ = c.from-variable.result - c.args.base in
    rw (to_z-below c.sum_with.result (omega (arith, c.sum_with.ensures.size)))
    (record {
      long = omega (arith, c.loop-e.invariant.long, length-set c.loop-e.sums place c.sum_with.result);
      kept = left-kept c.args.entries.now c.loop-e.e-index (omega arith) c.loop-e.invariant.kept;
      same = due-within c.args.base place c.args.by.now c.sum_with.result c.args.entries.now c.loop-e.e-index c.loop-e.sums c.args.sums.now (omega arith) c.loop-e.invariant.kept (omega arith) (omega arith) c.sum_with.ensures.value c.loop-e.invariant.same;
      behind = λ v h. sym (left-other v c.args.entries.now c.loop-e.e-index (omega arith) (λ e. omega (arith, e))) ∙ c.loop-e.invariant.behind v h;
    })

pub returns-clause-added : goal.returns-clause-added
returns-clause-added c j h =
    let due = rw (drop_of_length-le c.args.entries.now c.loop-e-test.false) at (c.loop-e.invariant.same j h) in
    omega (arith, ints, due, zero-*ℤ c.args.by.now)
