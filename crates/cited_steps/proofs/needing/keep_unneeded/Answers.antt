use Rattle.std.proofs.Common.{suc, sym, subst}
use Rattle.std.proofs.lemmas.Bool.Decides.{not_from_Decides}
use Rattle.cited_steps.specs.Looking.{AreLeft}
use Rattle.cited_steps.proofs.Gathering.{one_left, none_more}
use Rattle.cited_steps.proofs.needing.keep_unneeded.Goals as goal

pub returns-in_ok-push : goal.returns-in_ok-push
returns-in_ok-push c = λ so_far.
    subst (AreLeft c.args.needed.now (suc c.args.number)) (sym c.in_ok-push.ensures.items)
    (one_left c.args.needed.now c.args.number c.args.left.now.items (not_from_Decides c.is_among.result c.is_among.ensures c.if-not-is_among.true) so_far)

pub returns-else-not-is_among : goal.returns-else-not-is_among
returns-else-not-is_among c = λ so_far. none_more c.args.needed.now c.args.number c.args.left.now.items (c.is_among.ensures.0 c.if-not-is_among.false) so_far
