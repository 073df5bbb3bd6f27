use Rattle.std.proofs.Common.{◌≡◌, length, ap, subst, refl, arith}
use Rattle.cert_text.specs.Held.{Held}
use Rattle.certificate_batches.specs.Claims.{setting_of}
use Rattle.certificate_batches.specs.Turns.{IsFronted}
use Rattle.certificate_batches.proofs.Steps.{keeps_dropped, keeps_settled}
use Rattle.certificate_batches.proofs.batches.Batches.skip_front.Goals as goal

pub returns-in-None-clause-keeps : goal.returns-in-None-clause-keeps
returns-in-None-clause-keeps c =
    let claims = c.args.claims.now in
    let all = c.requires.all in
    keeps_dropped (setting_of claims) claims.conditions.now c.args.self.now _ all (record { unsettled = all.unsettled; none_waits = all.none_waits; all = all.all })
    (subst (IsFronted c.args.self.now.reader c.drop_front.new.reader) c.in-None.is c.in_ok-drop_front.ensures)

pub returns-in-Some-clause-keeps : goal.returns-in-Some-clause-keeps
returns-in-Some-clause-keeps c =
    let claims = c.args.claims.now in
    keeps_settled (setting_of claims) claims.conditions.now c.args.self.now _ c.in-Some.place c.requires.all refl
    (subst (IsFronted c.args.self.now.reader c.drop_front.new.reader) c.in-Some.is c.in_ok-drop_front.ensures)

pub returns-in-Some-clause-order : goal.returns-in-Some-clause-order
returns-in-Some-clause-order c =
    let all = c.requires.all in
    let number : c.new.result.number ≡ 1 = ap (λ (h : Held). h.number) c.new.ensures in
    record {
      within = c.requires.order.within;
      number = omega (arith, number, all.all, c.requires.none, ap length all.none_waits);
      limited = c.requires.order.limited;
      among = tt;
    }
