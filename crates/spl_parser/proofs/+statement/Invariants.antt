use Rattle.std.proofs.Common.{◌+◌, ◌*◌}
use Rattle.st_tokens.specs.Stream.{stream}
use Rattle.st_reading.specs.declared.mark.Mark.TheVariants as marks
use Rattle.st_reading.specs.Reading.{size, gives, only, counting, linked}
use Rattle.st_reading.proofs.Chains.{Running}
use Rattle.spl_parser.specs.Begun.{fresh}
use Rattle.spl_parser.specs.ProgramTree.{statement_views, body_views}
use Rattle.spl_parser.specs.Statements.{continuing, closed_body, rest_of_body, child_of}
use Rattle.spl_parser.specs.Programs.{value_of, lower_of, usual}
use Rattle.spl_parser.proofs.+statement.Given as goal

abbrev pub decreases-statement::inside : goal.decreases-statement::inside
decreases-statement::inside l = 16 * l.room + 0

abbrev pub decreases-statement::further : goal.decreases-statement::further
decreases-statement::further l = 16 * l.room + 2

abbrev pub decreases-statement::branch : goal.decreases-statement::branch
decreases-statement::branch l = 16 * l.room + 3

abbrev pub decreases-statement::item : goal.decreases-statement::item
decreases-statement::item l = 16 * l.room + 2

abbrev pub decreases-statement::sequence : goal.decreases-statement::sequence
decreases-statement::sequence l = 16 * l.room + 3

abbrev pub decreases-statement::selection : goal.decreases-statement::selection
decreases-statement::selection l = 16 * l.room + 3

abbrev pub decreases-statement::conditional : goal.decreases-statement::conditional
decreases-statement::conditional l = 16 * l.room + 4

abbrev pub decreases-bodies::rest_of_body : goal.decreases-bodies::rest_of_body
decreases-bodies::rest_of_body l = 16 * l.room + 3

abbrev pub decreases-bodies::body : goal.decreases-bodies::body
decreases-bodies::body l = 16 * l.room + 4

abbrev pub decreases-bodies::child : goal.decreases-bodies::child
decreases-bodies::child l = 16 * l.room + 5

abbrev pub decreases-bodies::further_children : goal.decreases-bodies::further_children
decreases-bodies::further_children l = 16 * l.room + 6

abbrev pub decreases-bodies::children : goal.decreases-bodies::children
decreases-bodies::children l = 16 * l.room + 7

abbrev pub decreases-statement::anew : goal.decreases-statement::anew
decreases-statement::anew l = 16 * l.room + 1

abbrev pub decreases-statement::boxed : goal.decreases-statement::boxed
decreases-statement::boxed l = 16 * l.room + 2

abbrev pub decreases-statement::while_loop : goal.decreases-statement::while_loop
decreases-statement::while_loop l = 16 * l.room + 3

abbrev pub decreases-statement::endless_loop : goal.decreases-statement::endless_loop
decreases-statement::endless_loop l = 16 * l.room + 3

abbrev pub decreases-statement::block : goal.decreases-statement::block
decreases-statement::block l = 16 * l.room + 4

abbrev pub decreases-statement::group : goal.decreases-statement::group
decreases-statement::group l = 16 * l.room + 4

abbrev pub decreases-statement::select : goal.decreases-statement::select
decreases-statement::select l = 16 * l.room + 4

abbrev pub decreases-statement::cooperation : goal.decreases-statement::cooperation
decreases-statement::cooperation l = 16 * l.room + 8

abbrev pub decreases-statement::action : goal.decreases-statement::action
decreases-statement::action l = 16 * l.room + 9

abbrev pub decreases-statement::bare : goal.decreases-statement::bare
decreases-statement::bare l = 16 * l.room + 10

abbrev pub decreases-statement::named : goal.decreases-statement::named
decreases-statement::named l = 16 * l.room + 11

abbrev pub decreases-statement::statement : goal.decreases-statement::statement
decreases-statement::statement l = 16 * l.room + 12

abbrev pub invariant-statement::further-chain : goal.invariant-statement::further-chain
invariant-statement::further-chain l = Running (only l.mark) (counting (λ o. lower_of usual l.room (fresh l.grouped))) gives (statement_views l.statements.items, l.count) (stream l.tokens) (stream l.fn.tokens) (linked l.mark (lower_of usual l.room (fresh l.grouped)) (statement_views l.fn.statements.items, l.fn.count) (stream l.fn.tokens))

abbrev pub decreases-statement::further-chain : goal.decreases-statement::further-chain
decreases-statement::further-chain l = size (stream l.tokens)

abbrev pub invariant-bodies::rest_of_body-chain : goal.invariant-bodies::rest_of_body-chain
invariant-bodies::rest_of_body-chain l = Running (only marks.Semicolon) (continuing (value_of usual) (lower_of usual l.room)) closed_body (statement_views l.statements.items, l.count) (stream l.tokens) (stream l.fn.tokens) (rest_of_body (value_of usual) (lower_of usual l.room) (statement_views l.fn.statements.items, l.fn.count) (stream l.fn.tokens))

abbrev pub decreases-bodies::rest_of_body-chain : goal.decreases-bodies::rest_of_body-chain
decreases-bodies::rest_of_body-chain l = size (stream l.tokens)

abbrev pub invariant-bodies::further_children-chain : goal.invariant-bodies::further_children-chain
invariant-bodies::further_children-chain l = Running (only marks.Bars) (counting (λ o. child_of (value_of usual) (lower_of usual l.room))) gives (body_views l.bodies.items, l.count) (stream l.tokens) (stream l.fn.tokens) (linked marks.Bars (child_of (value_of usual) (lower_of usual l.room)) (body_views l.fn.bodies.items, l.fn.count) (stream l.fn.tokens))

abbrev pub decreases-bodies::further_children-chain : goal.decreases-bodies::further_children-chain
decreases-bodies::further_children-chain l = size (stream l.tokens)
