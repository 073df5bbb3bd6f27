use Rattle.std.proofs.Common.{◌∙◌, ◌+◌, sym, ap, refl, ℕ, List, drop, arith}
use Rattle.cert_text.specs.declared.reader.Block.{Block}
use Rattle.cert_laws.specs.Laws.{closed}
use Rattle.block_laws.specs.Checked.{pending_from}
use Rattle.block_laws.specs.Plain.{trees, plains}
use Rattle.certificate_batches.specs.declared.finding.Finding.TheVariants.{Refused}
use Rattle.step_report.specs.declared.conditions.Reason.TheVariants.{NotValid}
use Rattle.certificate_batches.specs.Finding.{finding_of}
use Rattle.certificate_batches.specs.Claims.{setting_of}
use Rattle.certificate_batches.proofs.Pending.{failing_within, all_of_batch, one_of_batch, checkable, unsettled_is, settled_is}
use Rattle.certificate_batches.proofs.batches.Batches.discharge.Goals as goal

pub check_all-requires-clause-checkable : goal.check_all-requires-clause-checkable
check_all-requires-clause-checkable g c = λ κs lives.
    (let old = c.args.self.now in
    let claims = c.args.claims.now in
    checkable (setting_of claims) claims.conditions.now old.discharged c.len.result old.blocks.items c.deref.result.now (omega (arith, c.len.ensures, old.blocks.ok.0)) c.deref.ensures.value c.requires.order.within
    c.searchable_is_checkable.ensures _ c.requires.may.searchable c.requires.order.limited)

pub number_behind-number-requires : goal.number_behind-number-requires
number_behind-number-requires g c =
    let old = c.args.self.now in
    let claims = c.args.claims.now in
    let below = failing_within (setting_of claims) claims.conditions.now old.discharged c.len.result old.blocks.items c.deref.result.now (omega (arith, c.len.ensures, old.blocks.ok.0)) c.deref.ensures.value c.requires.order.within
    c.in_ok-check_all.field-0 c.in-Some.i c.in-Some.is c.in_ok-check_all.ensures.first_failing in
    omega (arith, below, c.requires.order.within, c.requires.may.few)

pub returns-in-None-clause-keeps : goal.returns-in-None-clause-keeps
returns-in-None-clause-keeps g c = λ rest may.
    (let old = c.args.self.now in
    let claims = c.args.claims.now in
    let k = setting_of claims in
    let cs = claims.conditions.now in
    let h = closed old.reader rest in
    let end = old.discharged + c.len.result in
    unsettled_is k cs _ rest c.requires.unsettled ∙ ap (λ (x : List Block). finding_of (pending_from k (end + 1) (plains (drop end cs)) (trees x) h)) c.clear.ensures.items
    ∙ ap finding_of (all_of_batch k cs old.discharged c.len.result old.blocks.items c.deref.result.now (omega (arith, c.len.ensures, old.blocks.ok.0)) c.deref.ensures.value c.requires.order.within
    h c.in_ok-check_all.field-0 c.in-None.is c.in_ok-check_all.ensures.first_failing)
    ∙ sym (unsettled_is k cs old rest c.requires.unsettled))

pub returns-in-Some-clause-keeps : goal.returns-in-Some-clause-keeps
returns-in-Some-clause-keeps g c = λ rest may.
    (let old = c.args.self.now in
    let claims = c.args.claims.now in
    let k = setting_of claims in
    let cs = claims.conditions.now in
    let h = closed old.reader rest in
    settled_is k cs _ rest _ refl ∙ ap (λ (m : ℕ). Refused m NotValid) c.number_behind-number.ensures
    ∙ one_of_batch k cs old.discharged c.len.result old.blocks.items c.deref.result.now (omega (arith, c.len.ensures, old.blocks.ok.0)) c.deref.ensures.value c.requires.order.within
    h c.in_ok-check_all.field-0 c.in-Some.i c.in-Some.is c.in_ok-check_all.ensures.first_failing
    ∙ sym (unsettled_is k cs old rest c.requires.unsettled))

pub returns-in-Some-clause-order : goal.returns-in-Some-clause-order
returns-in-Some-clause-order g c =
    let old = c.args.self.now in
    let claims = c.args.claims.now in
    let below = failing_within (setting_of claims) claims.conditions.now old.discharged c.len.result old.blocks.items c.deref.result.now (omega (arith, c.len.ensures, old.blocks.ok.0)) c.deref.ensures.value c.requires.order.within
    c.in_ok-check_all.field-0 c.in-Some.i c.in-Some.is c.in_ok-check_all.ensures.first_failing in
    let number = c.number_behind-number.ensures in
    record {
      within = c.requires.order.within;
      number = c.requires.order.number;
      limited = c.requires.order.limited;
      among = (omega (arith, number), omega (arith, number, below, c.requires.order.within));
    }
