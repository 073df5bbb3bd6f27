use Rattle.std.proofs.Common.{◌∙◌, ap, refl}
use Rattle.std.proofs.lemmas.Result.{err_from_is_err_and}
use Rattle.st_reading.specs.Reading.{is_name}
use Rattle.schedule_reader.specs.Settings.{setting_of}
use Rattle.schedule_reader.specs.Schedules.{only_name}
use Rattle.schedule_reader.proofs.Going.{goes_on, ends_so, fails_so}
use Rattle.schedule_reader.proofs.Openings.{name_begins, name_ends}
use Rattle.schedule_reader.proofs.reading.settings.Goals as goal

pub returns-in_err-setting-clause-reads : goal.returns-in_err-setting-clause-reads
returns-in_err-setting-clause-reads c =
    let p = err_from_is_err_and c.from_residual.result c.from_residual.ensures.1 in
    rw (p.1, p.2) (fails_so only_name (λ o. setting_of c.args.names.now) refl _ _ _ _ c.items.invariant _ _ _ _ (name_begins _ (c.items-test.ensures ∙ ap is_name c.ahead.ensures)) c.name_ahead-name.ensures c.advance.ensures c.in_err-setting.ensures.reads)

pub items-preserved : goal.items-preserved
items-preserved c =
    goes_on only_name (λ o. setting_of c.args.names.now) refl _ _ _ _ c.items.invariant _ _ _ _ _ (name_begins _ (c.items-test.ensures ∙ ap is_name c.ahead.ensures)) c.name_ahead-name.ensures c.advance.ensures c.in_ok-setting.ensures.reads c.in_ok-setting.ensures.shrinks

pub returns-clause-reads : goal.returns-clause-reads
returns-clause-reads c = ends_so only_name (λ o. setting_of c.args.names.now) refl _ _ _ _ c.items.invariant (name_ends _ (c.items-test.ensures ∙ ap is_name c.ahead.ensures))
