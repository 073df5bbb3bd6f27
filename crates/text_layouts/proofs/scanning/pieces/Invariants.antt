use Rattle.std.specs.Prelude.{◌≡◌, length}
use Rattle.st_tokens.specs.Stream.{lex, stream, end_of}
use Rattle.text_layouts.specs.Pieces.{AreBefore}
use Rattle.text_layouts.proofs.scanning.pieces.Given as goal

abbrev pub invariant-loop-rest : goal.invariant-loop-rest
invariant-loop-rest l = AreBefore l.text l.rest l.out.items × (stream l.tokens ≡ lex (length l.text) 0 l.rest) × (end_of l.tokens ≡ length l.text)

abbrev pub decreases-loop-rest : goal.decreases-loop-rest
decreases-loop-rest l = length l.rest
