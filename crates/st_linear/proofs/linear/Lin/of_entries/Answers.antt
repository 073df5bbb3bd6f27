use Rattle.std.proofs.Common.{rules, ◌≡◌, true}
use Rattle.std.proofs.lemmas.Int.{to_z-of_z}
use mir.Syntax.{w128}
use Rattle.st_linear.proofs.Rising.{entries_rise}
use Rattle.st_linear.specs.Linear.{rise_from}
use Rattle.st_linear.proofs.linear.Lin.of_entries.Goals as goal

pub invariant_of-result : goal.invariant_of-result
invariant_of-result c =
    let e : rise_from 0 c.args.entries.now ≡ true = search rules in
    let f = entries_rise 0 c.args.entries.now e in
    rw (to_z-of_z w128 c.args.constant c.ranges.constant, c.in_ok-from_slice.ensures.ok) (record { constant_small = search rules; entries_small = f.1; entries = f.0 })
