use Rattle.std.proofs.Common.{arith}
use Rattle.st_form.proofs.Simples.{in_place-is}
use Rattle.st_form.proofs.conjuncts.in_place.Goals as goal

pub returns : goal.returns
returns c =
    rw (c.in_ok-append-2.ensures.items, c.in_ok-append.ensures.items)
    (in_place-is _ _ _ c.args.fs.now _ c.args.place _ _ (omega arith) (omega arith) c.in_ok-out.ensures c.in_ok-middle.ensures c.in_ok-behind.ensures)
