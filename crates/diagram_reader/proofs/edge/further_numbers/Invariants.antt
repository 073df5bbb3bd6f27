use Rattle.st_tokens.specs.Stream.{stream}
use Rattle.st_reading.specs.declared.mark.Mark.TheVariants as marks
use Rattle.st_reading.specs.Reading.{size, gives, only, listing, further}
use Rattle.st_reading.proofs.Chains.{Running}
use Rattle.diagram_reader.specs.Drawn.{setting_view}
use Rattle.diagram_reader.specs.Drawing.{transition_number_of}
use Rattle.diagram_reader.proofs.edge.further_numbers.Given as goal

abbrev pub invariant-chain : goal.invariant-chain
invariant-chain l =
    Running (only marks.Comma) (listing (transition_number_of (setting_view l.setting))) gives l.numbers.items (stream l.tokens) (stream l.fn.tokens) (further marks.Comma (transition_number_of (setting_view l.setting)) l.fn.numbers.items (stream l.fn.tokens))

abbrev pub decreases-chain : goal.decreases-chain
decreases-chain l = size (stream l.tokens)
