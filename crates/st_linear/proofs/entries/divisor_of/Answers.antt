use Rattle.std.proofs.Common.{sym, arith, rules, get_or}
use mir.Syntax.{w128}
use mir.Val.{SFits}
use Rattle.std.proofs.lemmas.Int.{to_z-of_z}
use Rattle.std.proofs.lemmas.Nat.Gcd.{dvd-zero}
use Rattle.std.proofs.Math.ListN.{drop_of_length-le}
use Rattle.st_linear.proofs.Joins.{none}
use Rattle.st_linear.proofs.Dividing.{gcd_up, gcd_down, common_divisor-is, common_divisor-none, common_divisor-one}
use Rattle.st_linear.proofs.entries.divisor_of.Goals as goal

pub loop-e-preserved : goal.loop-e-preserved
loop-e-preserved c =
    let f : SFits w128 (get_or c.args.entries.now c.loop-e.e-index none).1 = search rules in
    let k = rw (c.unsigned_abs.ensures.value, to_z-of_z w128 _ f) at c.gcd-divisor.ensures in
    record {
      up = gcd_up c.args.entries.now c.loop-e.e-index _ _ (omega arith) k c.loop-e.invariant.up;
      down = gcd_down c.args.entries.now c.loop-e.e-index _ _ (omega arith) k c.loop-e.invariant.down;
    }

pub returns-then-divisor-eq0 : goal.returns-then-divisor-eq0
returns-then-divisor-eq0 c =
    let up = rw (c.if-divisor-eq0.true, drop_of_length-le c.args.entries.now c.loop-e-test.false) at c.loop-e.invariant.up in
    sym (common_divisor-none c.args.entries.now c.requires (λ d. up d (dvd-zero d) tt))

pub returns-else-divisor-eq0 : goal.returns-else-divisor-eq0
returns-else-divisor-eq0 c =
    let up = rw (drop_of_length-le c.args.entries.now c.loop-e-test.false) at c.loop-e.invariant.up in
    sym (common_divisor-is c.args.entries.now c.loop-e.divisor c.requires c.if-divisor-eq0.false (λ d h. up d h tt) c.loop-e.invariant.down)

-- where a common divisor can only be 1, it is 1
pub returns-then-divisor-eq1 : goal.returns-then-divisor-eq1
returns-then-divisor-eq1 c =
    let f : SFits w128 (get_or c.args.entries.now c.loop-e.e-index none).1 = search rules in
    let k = rw (c.unsigned_abs.ensures.value, to_z-of_z w128 _ f) at c.gcd-divisor.ensures in
    let one = rw c.if-divisor-eq1.true at (gcd_down c.args.entries.now c.loop-e.e-index _ _ (omega arith) k c.loop-e.invariant.down) in
    sym (common_divisor-one c.args.entries.now c.requires one)
