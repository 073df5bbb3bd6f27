use Rattle.std.proofs.Common.{◌≡◌, ◌∙◌, sym, ap, refl, []}
use Rattle.std.specs.Prelude.{true}
use Rattle.cert_text.specs.Held.{Held}
use Rattle.certificate_batches.specs.Claims.{setting_of}
use Rattle.certificate_batches.proofs.Pending.{settled_is}
use Rattle.certificate_batches.proofs.Steps.{all_is, trailing_at_end, finish_same}
use Rattle.certificate_batches.proofs.batches.Batches.finish.Goals as goal

pub returns-in-Some-clause-finding : goal.returns-in-Some-clause-finding
returns-in-Some-clause-finding g c =
    let claims = c.args.claims.now in
    sym (settled_is (setting_of claims) claims.conditions.now c.args.self.now [] c.in-Some.finding c.in-Some.is)

pub returns-then-branch-clause-finding : goal.returns-then-branch-clause-finding
returns-then-branch-clause-finding g c =
    let old = c.args.self.now in
    let claims = c.args.claims.now in
    let k = setting_of claims in
    let cs = claims.conditions.now in
    let now = c.take_blocks.new.self in
    let done : now.reader.finished ≡ true = c.in_ok-take_blocks.ensures.finished ∙ ap (λ (h : Held). h.finished) c.finish.ensures in
    let all = c.in_ok-take_blocks.ensures.all c.if-branch.true in
    trailing_at_end now.reader c.trailing.new.self c.trailing.result done c.trailing.ensures.taken c.trailing.ensures.place
    ∙ sym (all_is k cs now all []) ∙ c.in_ok-take_blocks.ensures.keeps [] (λ e. refl) ∙ finish_same k cs old c.finish.new.self c.finish.ensures

pub returns-clause-finding : goal.returns-clause-finding
returns-clause-finding g c =
    let old = c.args.self.now in
    let claims = c.args.claims.now in
    let k = setting_of claims in
    let cs = claims.conditions.now in
    sym (settled_is k cs c.take_blocks.new.self [] c.in-Some-settled.finding c.in-Some-settled.is) ∙ c.in_ok-take_blocks.ensures.keeps [] (λ e. refl)
    ∙ finish_same k cs old c.finish.new.self c.finish.ensures
