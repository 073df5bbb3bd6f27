use Rattle.std.proofs.Common.{arith}
use Rattle.st_form.specs.Plain.{plain}
use Rattle.st_form.specs.Simple.{opened}
use Rattle.linear_prover.proofs.Lending.{placed}
use Rattle.linear_prover.proofs.divisions.in_place.Goals as goal

pub returns : goal.returns
returns c =
    placed c.in_ok-whole.whole.items c.in_ok-middle.middle.items c.in_ok-before.before.items c.in_ok-empty.empty.items c.args.fs.now (opened (plain c.args.f.now)) c.args.place _ _ (omega arith) (omega arith) c.in_ok-empty.ensures.items
    c.in_ok-before.ensures c.in_ok-middle.ensures c.in_ok-whole.ensures
