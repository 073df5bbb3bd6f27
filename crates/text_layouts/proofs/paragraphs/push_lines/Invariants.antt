use Rattle.std.specs.Prelude.{◌≤◌, ◌-◌, None, length, take}
use Rattle.text_layouts.specs.Written.{Writes}
use Rattle.text_layouts.proofs.paragraphs.push_lines.Given as goal

abbrev pub invariant-loop-passed : goal.invariant-loop-passed
invariant-loop-passed l = (l.passed ≤ length l.pieces) × Writes l.fn.out.items l.out.items (take l.passed l.pieces) None

abbrev pub decreases-loop-passed : goal.decreases-loop-passed
decreases-loop-passed l = length l.pieces - l.passed
