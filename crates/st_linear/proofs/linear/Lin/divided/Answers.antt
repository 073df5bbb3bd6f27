use Rattle.std.proofs.Common.{rules}
use Rattle.st_linear.proofs.Joins.{to_z-small}
use Rattle.st_linear.proofs.Dividing.{divided-one, CommonTo-from_test, AreEntries-divided, are_small-divided, is_small-quotient}
use Rattle.st_linear.proofs.linear.Lin.divided.Goals as goal

pub invariant_of-result : goal.invariant_of-result
invariant_of-result c =
    let constant = to_z-small c.self.inside.constant c.self.invariant.constant_small in
    let q = rw constant at c.floor_quotient.ensures in
    let small = is_small-quotient c.self.inside.constant c.args.by c.self.invariant.constant_small in
    let divides = rw (← c.self.view_is) at c.requires.divides in
    let quotient_small = rw (← q) at small in
    rw (to_z-small c.floor_quotient.result quotient_small, q, c.in_ok-divide_entries.ensures, c.as_slice.ensures)
    (record {
      constant_small = small;
      entries_small = are_small-divided c.args.by _ c.self.invariant.entries_small;
      entries = AreEntries-divided c.args.by _ c.requires.positive (CommonTo-from_test _ _ divides) c.self.invariant.entries;
    })

pub returns-then-by-eq1 : goal.returns-then-by-eq1
returns-then-by-eq1 c =
    let h = divided-one c.args.self.now in
    let e = c.if-by-eq1.true in
    let k = c.copy.ensures in
    grind (rules)
