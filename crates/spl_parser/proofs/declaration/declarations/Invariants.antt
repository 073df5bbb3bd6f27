use Rattle.st_tokens.specs.Stream.{stream}
use Rattle.st_reading.specs.Reading.{size, gives, counting}
use Rattle.st_reading.proofs.Chains.{Running}
use Rattle.spl_parser.specs.Signs.{mode}
use Rattle.spl_parser.specs.ProgramTree.{declaration_views}
use Rattle.spl_parser.specs.Programs.{declaration_of, declarations_of, usual}
use Rattle.spl_parser.proofs.declaration.declarations.Given as goal

abbrev pub invariant-chain : goal.invariant-chain
invariant-chain l = Running mode (counting (declaration_of usual)) gives (declaration_views l.declarations.items, l.variables) (stream l.tokens) (stream l.fn.tokens) (declarations_of usual l.fn.variables (stream l.fn.tokens))

abbrev pub decreases-chain : goal.decreases-chain
decreases-chain l = size (stream l.tokens)
