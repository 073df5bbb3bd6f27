use Rattle.std.proofs.Common.{map}
use Rattle.st_tokens.specs.Stream.{stream}
use Rattle.st_reading.specs.declared.mark.Mark.TheVariants as marks
use Rattle.st_reading.specs.Reading.{size, named, gives, only, listing, further}
use Rattle.st_reading.specs.Faults.{Passed, name_view}
use Rattle.st_reading.proofs.Chains.{Running}
use Rattle.spl_parser.proofs.lists.further_names.Given as goal

abbrev pub invariant-chain : goal.invariant-chain
invariant-chain l = Running {X = Passed} (only marks.Comma) (listing named) gives (map name_view l.names.items) (stream l.tokens) (stream l.fn.tokens) (further marks.Comma named (map name_view l.fn.names.items) (stream l.fn.tokens))

abbrev pub decreases-chain : goal.decreases-chain
decreases-chain l = size (stream l.tokens)
