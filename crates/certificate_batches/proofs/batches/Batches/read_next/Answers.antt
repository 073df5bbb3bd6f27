use Rattle.std.proofs.Common.{subst}
use Rattle.certificate_batches.specs.Claims.{setting_of}
use Rattle.certificate_batches.specs.Turns.{IsTurn, IsTaken}
use Rattle.certificate_batches.proofs.Steps.{keeps_then, taken_keeps}
use Rattle.certificate_batches.proofs.batches.Batches.read_next.Goals as goal

pub returns-clause-keeps : goal.returns-clause-keeps
returns-clause-keeps g c =
    let old = c.args.self.now in
    let claims = c.args.claims.now in
    let k = setting_of claims in
    let cs = claims.conditions.now in
    let reader = c.next_turn.new.reader in
    let blocks = c.push.new.self in
    let taken : IsTaken old.reader reader c.in-Taken.block = subst (IsTurn old.reader reader) c.in-Taken.is c.in_ok-block.ensures in
    keeps_then k cs old (record old { reader = reader; blocks = blocks }) c.discharge_full.new.self taken.finished
    (taken_keeps k cs old reader blocks c.in-Taken.block c.requires.unsettled c.requires.order c.requires.left taken c.in_ok-push-in-Taken.ensures.items)
    c.in_ok-discharge_full.ensures.keeps
