use Rattle.std.specs.Prelude.{take}
use Rattle.text_layouts.specs.Written.{Writes}
use Rattle.text_layouts.proofs.writing.push_line.Given as goal

abbrev pub invariant-loop-piece : goal.invariant-loop-piece
invariant-loop-piece l = Writes l.fn.out.items l.out.items (take l.piece-index l.pieces) l.last
