use Rattle.std.proofs.Common.{◌≡◌, drop}
use Rattle.trace_player.specs.Playing.{is_among}
use Rattle.trace_player.proofs.naming.is_among.Given as goal

abbrev pub invariant-loop-other : goal.invariant-loop-other
invariant-loop-other l = is_among l.name (drop l.other-index l.row) ≡ is_among l.name l.row
