use Rattle.std.proofs.Common.{map}
use Rattle.st_tokens.specs.Stream.{stream}
use Rattle.st_reading.specs.declared.mark.Mark.TheVariants as marks
use Rattle.st_reading.specs.Reading.{size, gives, only, counting, linked}
use Rattle.st_reading.specs.Faults.{name_view}
use Rattle.st_reading.proofs.Chains.{Running}
use Rattle.spl_parser.specs.Programs.{variable_of, usual}
use Rattle.spl_parser.proofs.declaration.further_variables.Given as goal

abbrev pub invariant-chain : goal.invariant-chain
invariant-chain l = Running (only marks.Comma) (counting (λ o. variable_of usual)) gives (map name_view l.names.items, l.variables) (stream l.tokens) (stream l.fn.tokens) (linked marks.Comma (variable_of usual) (map name_view l.fn.names.items, l.fn.variables) (stream l.fn.tokens))

abbrev pub decreases-chain : goal.decreases-chain
decreases-chain l = size (stream l.tokens)
