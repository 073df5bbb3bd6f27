use Rattle.std.proofs.Common.{◌≡◌, ◌∙◌, ◌+◌, ◌<◌, sym, ap, refl, List, drop, arith, subst, rules, length}
use Rattle.std.specs.Prelude.{None, Some}
use Rattle.st_form.specs.Condition.{Implication}
use Rattle.cert_text.specs.declared.reader.Block.{Block}
use Rattle.cert_text.specs.Held.{Held}
use Rattle.cert_laws.specs.Laws.{closed}
use Rattle.block_laws.specs.Checked.{block_tested, pending_from}
use Rattle.block_laws.specs.Plain.{trees, plains}
use Rattle.certificate_batches.specs.Finding.{finding_of}
use Rattle.certificate_batches.specs.Claims.{setting_of}
use Rattle.certificate_batches.proofs.Pending.{none_further, unsettled_is, settled_is}
use Rattle.certificate_batches.proofs.batches.Batches.refuse.Goals as goal

pub returns-then-is_none-clause-keeps : goal.returns-then-is_none-clause-keeps
returns-then-is_none-clause-keeps g c = λ rest may.
    (let now = c.discharge.new.self in
    let claims = c.args.claims.now in
    let k = setting_of claims in
    let cs = claims.conditions.now in
    let h = closed now.reader rest in
    let none : now.settled ≡ None = search rules in
    let done = c.in_ok-discharge.ensures.done none in
    let lacks : (a : Implication) → block_tested k a h ≡ Some c.args.reason =
    subst (λ (r : Held). (a : Implication) → block_tested k a (closed r rest) ≡ Some c.args.reason) (sym c.in_ok-discharge.ensures.reader) (λ a. c.requires.lacks k a rest may) in
    let left : now.discharged < length cs = omega (arith, done.1, c.requires.left) in
    settled_is k cs _ rest _ refl ∙ none_further k cs now.discharged h c.args.reason left lacks
    ∙ sym (unsettled_is k cs now rest none ∙ ap (λ (x : List Block). finding_of (pending_from k (now.discharged + 1) (plains (drop now.discharged cs)) (trees x) h)) done.0)
    ∙ c.in_ok-discharge.ensures.keeps rest may)
