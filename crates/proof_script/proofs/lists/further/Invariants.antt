use Rattle.std.proofs.Common.{map}
use Rattle.st_tokens.specs.Stream.{stream}
use Rattle.st_reading.specs.Reading.{size}
use Rattle.proof_script.specs.Listing.{setting_view, further_counted}
use Rattle.proof_script.proofs.Counting.{Listing_on}
use Rattle.proof_script.proofs.lists.further.Given as goal

abbrev pub invariant-chain : goal.invariant-chain
invariant-chain g l =
    Listing_on l.mark (g.T.Item.spelled (setting_view l.setting)) (stream l.fn.tokens) (further_counted l.mark (g.T.Item.spelled (setting_view l.setting)) (map g.T.Item.plainly l.fn.items.items) (stream l.fn.tokens))
    (map g.T.Item.plainly l.items.items) (stream l.tokens)

abbrev pub decreases-chain : goal.decreases-chain
decreases-chain g l = size (stream l.tokens)
