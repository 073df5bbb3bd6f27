use Rattle.std.proofs.Common.{length, refl, arith}
use Rattle.std.proofs.lemmas.Option.{slice_get_read}
use Rattle.explanations.proofs.explaining.failures.Goals as goal

pub failure-requires : goal.failure-requires
failure-requires c =
    let us = c.args.left.now in
    let i = c.loop-undecided.undecided-index in
    c.requires i c.undecided-item.result (slice_get_read us (length us) i c.undecided-item.result refl (omega (arith, c.loop-undecided-test.true)) c.undecided-item.is)
