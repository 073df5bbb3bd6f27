use Rattle.std.proofs.Common.{◌≤◌, length, arith}
use Rattle.std.proofs.lemmas.Bool.Decides.{nat_tests}
use Rattle.shared_search.proofs.Listing.{moved-end}
use Rattle.shared_search.proofs.lists.moved.Goals as goal

pub returns-in-None : goal.returns-in-None
returns-in-None c =
    let lookup = c.in-None.ensures.lookup in
    let over : length c.args.children.now ≤ c.loop-place.place = grind (arith, nat_tests) in
    moved-end c.loop-place.out.items c.args.contexts.now c.args.children.now c.loop-place.place over c.loop-place.invariant
