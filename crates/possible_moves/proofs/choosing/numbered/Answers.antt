use Rattle.possible_moves.proofs.Listed.{offered_at}
use Rattle.possible_moves.proofs.choosing.numbered.Goals as goal

pub returns : goal.returns
returns c =
    offered_at c.args.moves.now c.in_ok-place.place c.in_ok-get.field-0.now c.as_str.result.now c.as_str.ensures.value c.in_ok-get.ensures.lookup.1 c.in_ok-get.ensures.lookup.0
