use Rattle.std.proofs.lemmas.Result.{err_from_is_err_and}
use Rattle.diagram_reader.proofs.Stopping.{refused_stop}
use Rattle.proof_script.specs.Listing.{setting_view}
use Rattle.proof_script.proofs.Responding.{response_stops, rule_stops}
use Rattle.proof_script.proofs.claims.response.Goals as goal

pub returns-in_err-expect-3-clause-reads : goal.returns-in_err-expect-3-clause-reads
returns-in_err-expect-3-clause-reads c =
    let p = err_from_is_err_and c.from_residual-in_err-expect-3.result c.from_residual-in_err-expect-3.ensures.1 in
    rw p.1 (response_stops (setting_view c.args.setting.now) _ _ _ _ _ _ _ _ _ _ _ _ c.in_ok-start.ensures.reads c.in_ok-expect.ensures.refuses c.in_ok-end.ensures.reads c.in_ok-expect-2.ensures.refuses c.in_ok-bound.ensures.reads
    (refused_stop _ _ _ p.2 c.in_err-expect-3.ensures.refuses))

pub returns-in_err-rule-clause-reads : goal.returns-in_err-rule-clause-reads
returns-in_err-rule-clause-reads c =
    let p = err_from_is_err_and c.from_residual-in_err-rule.result c.from_residual-in_err-rule.ensures.1 in
    rw (p.1, p.2) (rule_stops (setting_view c.args.setting.now) _ _ _ _ _ _ _ _ _ _ _ _ c.in_ok-start.ensures.reads c.in_ok-expect.ensures.refuses c.in_ok-end.ensures.reads c.in_ok-expect-2.ensures.refuses c.in_ok-bound.ensures.reads
    _ _ c.in_ok-expect-3.ensures.refuses c.in_err-rule.ensures.reads)
