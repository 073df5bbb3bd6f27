use Rattle.std.proofs.Common.{arith}
use Rattle.std.proofs.lemmas.List.{length-map}
use Rattle.row_elimination.specs.Places.{use_plain}
use Rattle.row_elimination.specs.Runs.{uses_plain}
use Rattle.elimination_laws.proofs.Refuting.{no_refutation}
use Rattle.row_elimination.proofs.Sound.{uses-length, point-holds, stop-sound}
use Rattle.row_elimination.proofs.top.eliminate.Goals as goal

pub point-requires : goal.point-requires
point-requires c =
    let e = uses-length c.args.lines.now c.args.variables (uses_plain c.in-Ok.uses.items) c.in-Ok.ensures in
    rw c.deref.ensures.value (omega (arith, e, length-map c.in-Ok.uses.items use_plain))

pub returns-in_ok-point-in-Ok-clause-sound : goal.returns-in_ok-point-in-Ok-clause-sound
returns-in_ok-point-in-Ok-clause-sound c = (
  no_refutation c.args.lines.now c.args.variables (uses_plain c.in-Ok.uses.items) c.look_at.ensures c.in-Ok.ensures,
  point-holds c.args.lines.now c.args.variables (uses_plain c.in-Ok.uses.items) c.in_ok-point-in-Ok.field-0 (rw c.deref.ensures.value at c.in_ok-point-in-Ok.ensures),
)

pub returns-in-Err-clause-sound : goal.returns-in-Err-clause-sound
returns-in-Err-clause-sound c = stop-sound _ c.stopped.result c.args.lines.now c.args.variables c.look_at.ensures c.in-Err.ensures c.stopped.ensures
