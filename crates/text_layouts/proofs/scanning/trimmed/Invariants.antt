use Rattle.std.specs.Prelude.{◌≤◌, drop, length}
use Rattle.text_layouts.specs.Written.{AreBlank}
use Rattle.text_layouts.proofs.scanning.trimmed.Given as goal

abbrev pub invariant-loop-kept : goal.invariant-loop-kept
invariant-loop-kept l = (l.kept ≤ length l.bytes) × AreBlank (drop l.kept l.bytes)

abbrev pub decreases-loop-kept : goal.decreases-loop-kept
decreases-loop-kept l = l.kept
