use Rattle.std.proofs.Common.{◌∙◌, sym, ap, refl}
use Rattle.certificate_batches.specs.declared.finding.Finding.TheVariants.{Discharged}
use Rattle.certificate_batches.specs.Claims.{setting_of}
use Rattle.certificate_batches.proofs.Pending.{settled_is}
use Rattle.certificate_batches.proofs.Steps.{all_is, all_with}
use Rattle.certificate_batches.proofs.batches.Batches.skip_blanks.Goals as goal

pub returns-in-Some-clause-keeps : goal.returns-in-Some-clause-keeps
returns-in-Some-clause-keeps c = λ rest may.
    (let claims = c.args.claims.now in
    settled_is (setting_of claims) claims.conditions.now _ rest _ refl ∙ ap Discharged (sym (c.in-Some.ensures.place rest))
    ∙ sym (all_is (setting_of claims) claims.conditions.now c.args.self.now c.requires.all rest))

pub returns-in_default-clause-keeps : goal.returns-in_default-clause-keeps
returns-in_default-clause-keeps c = λ rest may.
    (let old = c.args.self.now in
    let claims = c.args.claims.now in
    let reader = c.drop_blanks.new.reader in
    all_is (setting_of claims) claims.conditions.now (record old { reader = reader }) (all_with (setting_of claims) claims.conditions.now old c.requires.all reader) rest
    ∙ ap Discharged (c.drop_blanks.ensures.dropped.same rest) ∙ sym (all_is (setting_of claims) claims.conditions.now old c.requires.all rest))
