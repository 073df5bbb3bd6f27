use Rattle.st_tokens.specs.Stream.{stream}
use Rattle.st_reading.specs.declared.mark.Mark.TheVariants as marks
use Rattle.st_reading.specs.Reading.{size, gives, only, listing, further}
use Rattle.expression_parser.specs.ExpressionTree.{views}
use Rattle.spl_parser.specs.Programs.{value_of, usual}
use Rattle.st_reading.proofs.Chains.{Running}
use Rattle.spl_parser.proofs.lists.further_values.Given as goal

abbrev pub invariant-chain : goal.invariant-chain
invariant-chain l = Running (only marks.Comma) (listing (value_of usual)) gives (views l.values.items) (stream l.tokens) (stream l.fn.tokens) (further marks.Comma (value_of usual) (views l.fn.values.items) (stream l.fn.tokens))

abbrev pub decreases-chain : goal.decreases-chain
decreases-chain l = size (stream l.tokens)
