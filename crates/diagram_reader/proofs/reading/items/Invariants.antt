use Rattle.st_tokens.specs.Stream.{stream}
use Rattle.st_reading.specs.Reading.{size, gives}
use Rattle.st_reading.proofs.Chains.{Running}
use Rattle.diagram_reader.specs.Drawn.{setting_view, drawing_view}
use Rattle.diagram_reader.specs.Drawing.{item_in, turn_of, items_of}
use Rattle.diagram_reader.proofs.reading.items.Given as goal

abbrev pub invariant-chain : goal.invariant-chain
invariant-chain l = Running item_in (turn_of (setting_view l.setting)) gives (drawing_view l.drawing) (stream l.tokens) (stream l.fn.tokens) (items_of (setting_view l.setting) (drawing_view l.fn.drawing) (stream l.fn.tokens))

abbrev pub decreases-chain : goal.decreases-chain
decreases-chain l = size (stream l.tokens)
