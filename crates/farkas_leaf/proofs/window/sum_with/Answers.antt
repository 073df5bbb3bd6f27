use Rattle.std.proofs.Common.{arith, ◌+◌, ◌^◌, ◌*ℤ◌}
use Rattle.farkas_leaf.proofs.Products.{product-size, sum_with-same}
use Rattle.basic_laws.proofs.Integers.{sum-size}
use Rattle.farkas_leaf.proofs.window.sum_with.Goals as goal

pub returns-clause-value : goal.returns-clause-value
returns-clause-value c = sum_with-same c.args.sum.now c.args.coefficient.now c.args.by.now c.requires.sum_bound c.requires.slim c.requires.by_small

pub returns-clause-size : goal.returns-clause-size
returns-clause-size c =
    let product = product-size c.args.coefficient.now c.args.by.now c.requires.slim c.requires.by_small in
    let sum = sum-size c.args.sum.now (c.args.coefficient.now *ℤ c.args.by.now) (2 ^ 122 + 2 ^ 111) (2 ^ 110) c.requires.sum_bound product in
    rw (returns-clause-value c) (omega (arith, sum))
