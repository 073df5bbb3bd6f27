use Rattle.std.proofs.Common.{◌≡◌, ◌∙◌, ◌++◌, ap, rules}
use Rattle.std.specs.Prelude.{false, IsSome}
use Rattle.cert_text.specs.Held.{Held}
use Rattle.certificate_batches.specs.Claims.{setting_of}
use Rattle.certificate_batches.proofs.Steps.{push_same, settled_same, anything}
use Rattle.certificate_batches.proofs.batches.Batches.push.Goals as goal

pub returns-then-is_some-clause-same : goal.returns-then-is_some-clause-same
returns-then-is_some-clause-same g c = λ rest.
    (let old = c.args.self.now in
    let claims = c.args.claims.now in
    let some : IsSome old.settled = search rules in
    settled_same (setting_of claims) claims.conditions.now old some rest (c.args.piece.now ++ rest))

pub returns-then-not-branch-clause-same : goal.returns-then-not-branch-clause-same
returns-then-not-branch-clause-same g c = λ rest.
    (let old = c.args.self.now in
    let claims = c.args.claims.now in
    let reader = c.push.new.self in
    let pushed : reader.finished ≡ false = ap (λ (h : Held). h.finished) c.in_ok-push.ensures.ok ∙ c.requires.unfinished in
    c.in_ok-take_blocks.ensures.keeps rest (anything reader rest pushed)
    ∙ push_same (setting_of claims) claims.conditions.now old reader c.args.piece.now c.in_ok-push.ensures.ok rest)

pub returns-then-is_empty-clause-same : goal.returns-then-is_empty-clause-same
returns-then-is_empty-clause-same g c = λ rest.
    (let old = c.args.self.now in
    let claims = c.args.claims.now in
    let reader = c.push.new.self in
    let pushed : reader.finished ≡ false = ap (λ (h : Held). h.finished) c.in_ok-push.ensures.ok ∙ c.requires.unfinished in
    let taken : c.take_blocks.new.self.reader.finished ≡ false = c.in_ok-take_blocks.ensures.finished ∙ pushed in
    c.in_ok-skip_front.ensures.keeps rest (anything c.take_blocks.new.self.reader rest taken) ∙ c.in_ok-take_blocks.ensures.keeps rest (anything reader rest pushed)
    ∙ push_same (setting_of claims) claims.conditions.now old reader c.args.piece.now c.in_ok-push.ensures.ok rest)

pub returns-clause-same : goal.returns-clause-same
returns-clause-same g c = λ rest.
    (let old = c.args.self.now in
    let claims = c.args.claims.now in
    let reader = c.push.new.self in
    let pushed : reader.finished ≡ false = ap (λ (h : Held). h.finished) c.in_ok-push.ensures.ok ∙ c.requires.unfinished in
    let taken : c.take_blocks.new.self.reader.finished ≡ false = c.in_ok-take_blocks.ensures.finished ∙ pushed in
    c.skip_blanks.ensures.keeps rest (anything c.take_blocks.new.self.reader rest taken) ∙ c.in_ok-take_blocks.ensures.keeps rest (anything reader rest pushed)
    ∙ push_same (setting_of claims) claims.conditions.now old reader c.args.piece.now c.in_ok-push.ensures.ok rest)
