use Rattle.std.proofs.Common.{ap, sym, ◌∙◌}
use Rattle.cert_text.specs.Answer.{answer_view}
use Rattle.certificate_batches.proofs.Taking.{block_taken, lacks_end, lacks_malformed, lacks_limit}
use Rattle.certificate_batches.proofs.turns.next_turn.Goals as goal

pub returns-in-Block : goal.returns-in-Block
returns-in-Block c =
    block_taken c.answers_stay.ensures c.blocks_are_limited.ensures c.read_is_spelled.ensures c.args.reader.now c.next_block.new.self c.in-Block.block c.requires.number
    (sym c.in_ok-block.ensures.answer ∙ ap answer_view c.in-Block.is) c.in_ok-block.ensures.taken

pub returns-in-End : goal.returns-in-End
returns-in-End c =
    lacks_end c.answers_stay.ensures c.args.reader.now c.next_block.new.self c.in_ok-block.ensures.taken (sym c.in_ok-block.ensures.answer ∙ ap answer_view c.in-End.is)

pub returns-in-Malformed : goal.returns-in-Malformed
returns-in-Malformed c =
    lacks_malformed c.answers_stay.ensures c.args.reader.now c.next_block.new.self c.in_ok-block.ensures.taken c.in-Malformed.field-0 (sym c.in_ok-block.ensures.answer ∙ ap answer_view c.in-Malformed.is)

pub returns-in-CertLimit : goal.returns-in-CertLimit
returns-in-CertLimit c =
    lacks_limit c.answers_stay.ensures c.args.reader.now c.next_block.new.self c.in_ok-block.ensures.taken c.in-CertLimit.field-0 (sym c.in_ok-block.ensures.answer ∙ ap answer_view c.in-CertLimit.is)
