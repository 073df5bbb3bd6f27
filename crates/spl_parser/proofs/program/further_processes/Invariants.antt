use Rattle.std.proofs.Common.{length}
use Rattle.st_tokens.specs.Stream.{stream}
use Rattle.st_reading.specs.declared.mark.Mark.TheVariants as marks
use Rattle.st_reading.specs.Reading.{size, gives, only, counting, linked}
use Rattle.st_reading.proofs.Chains.{Running}
use Rattle.spl_parser.specs.ProgramTree.{process_views}
use Rattle.spl_parser.specs.Programs.{totals, process_of, usual}
use Rattle.spl_parser.proofs.program.further_processes.Given as goal

abbrev pub invariant-chain : goal.invariant-chain
invariant-chain l = Running (only marks.Bars) (counting (λ o. process_of usual)) gives (process_views l.processes.items, totals (length l.processes.items) l.variables l.statements) (stream l.tokens) (stream l.fn.tokens) (linked marks.Bars (process_of usual) (process_views l.fn.processes.items, totals (length l.fn.processes.items) l.fn.variables l.fn.statements) (stream l.fn.tokens))

abbrev pub decreases-chain : goal.decreases-chain
decreases-chain l = size (stream l.tokens)
