use Rattle.std.proofs.Common.{◌∙◌, sym, subst}
use Rattle.cert_text.specs.Answer.{answer_view}
use Rattle.certificate_batches.specs.Turns.{AreDropped}
use Rattle.certificate_batches.proofs.Fronts.{front_dropped}
use Rattle.certificate_batches.proofs.Settling.{need_is, no_need_is, front_needs, front_told}
use Rattle.certificate_batches.proofs.turns.drop_front.Goals as goal

pub returns-in_default : goal.returns-in_default
returns-in_default c = subst (AreDropped c.args.reader.now) (sym c.trailing.ensures.taken) (front_dropped c.args.reader.now)

pub returns-then-is_need : goal.returns-then-is_need
returns-then-is_need c =
    front_needs c.args.reader.now c.trailing.new.self c.next_block.new.self c.trailing.ensures.taken
    (sym c.in_ok-answer.ensures.answer ∙ need_is (answer_view c.in_ok-answer.answer) (sym c.is_need.ensures ∙ c.if-is_need.true)) c.in_ok-answer.ensures.taken

pub returns : goal.returns
returns c =
    front_told c.answers_stay.ensures c.trailing_is_blank.ensures c.args.reader.now c.trailing.new.self c.trailing.result c.in-Some.place (answer_view c.in_ok-answer.answer) c.requires.unfinished
    c.trailing.ensures.taken c.trailing.ensures.place c.in-Some.is (sym c.in_ok-answer.ensures.answer) (no_need_is (answer_view c.in_ok-answer.answer) (sym c.is_need.ensures ∙ c.if-is_need.false))
