use Rattle.std.proofs.Common.{◌∙◌, ◌∷◌, [], suc, ap, map}
use Rattle.std.proofs.lemmas.List.{map-append}
use Rattle.std.proofs.lemmas.Result.{err_from_is_err_and}
use Rattle.st_tokens.specs.Stream.{stream}
use Rattle.st_reading.specs.Reading.{at_end, size}
use Rattle.st_reading.proofs.Loops.{mapped, map_fails}
use Rattle.st_program.specs.Names.{as_bytes}
use Rattle.temporal_goals.specs.Plain.{plain_step}
use Rattle.diagram_reader.proofs.Stopping.{refused_stop}
use Rattle.proof_script.specs.Listing.{setting_view}
use Rattle.proof_script.specs.Steps.{claim_in}
use Rattle.proof_script.proofs.Stepping.{claim_passed, known_next, fewer_left, step_new, step_next, steps_end, step_fails}
use Rattle.proof_script.proofs.reading.steps.Goals as goal

pub returns-in_err-next : goal.returns-in_err-next
returns-in_err-next c =
    let p = err_from_is_err_and c.from_residual.result c.from_residual.ensures.1 in
    rw (p.1, p.2) (step_fails (setting_view c.args.setting.now) _ (stream c.chain.tokens) _ _ c.in-Some.claim (as_bytes c.chain.earlier.entries) _ (stream c.advance.new.tokens) c.chain.invariant.0 (c.in-Some.ensures ∙ ap claim_in c.ahead.ensures)
    c.advance.ensures c.chain.invariant.1 c.in_err-next.ensures.reads)

pub note-requires : goal.note-requires
note-requires c = step_new (setting_view c.args.setting.now) c.in-Some.claim (as_bytes c.chain.earlier.entries) (plain_step c.in_ok-next.next) (stream c.advance.new.tokens) (stream c.step.new.tokens) c.in_ok-next.ensures.reads

pub chain-preserved : goal.chain-preserved
chain-preserved c =
    let xs = map plain_step c.chain.steps.items in
    let x = plain_step c.in_ok-next.next in
    let begins = c.in-Some.ensures ∙ ap claim_in c.ahead.ensures in
    let made = ap (map plain_step) c.in_ok-push.ensures.items ∙ map-append plain_step c.chain.steps.items (c.in_ok-next.next ∷ []) in
    let passed = ap (λ n. suc (size n)) c.advance.ensures ∙ claim_passed (stream c.chain.tokens) c.in-Some.claim begins in (
      step_next (setting_view c.args.setting.now) xs (stream c.chain.tokens) (stream c.args.tokens.now) _ c.in-Some.claim (as_bytes c.chain.earlier.entries) x (stream c.advance.new.tokens) (stream c.step.new.tokens) _ c.chain.invariant.0 begins c.advance.ensures c.chain.invariant.1
          c.in_ok-next.ensures.reads c.in_ok-next.ensures.shrinks made,
      known_next c.chain.earlier.entries c.note.new.earlier.entries x c.in_ok-note.ensures xs _ c.chain.invariant.1 made,
      fewer_left c.chain.earlier.entries c.note.new.earlier.entries x c.in_ok-note.ensures (stream c.chain.tokens) (stream c.advance.new.tokens) (stream c.step.new.tokens) _ c.chain.invariant.2 passed c.in_ok-next.ensures.shrinks,
    )

pub returns-in_err-at_end : goal.returns-in_err-at_end
returns-in_err-at_end c =
    let p = err_from_is_err_and c.from_residual-in_err-at_end.result c.from_residual-in_err-at_end.ensures.1 in
    rw (p.1, steps_end (setting_view c.args.setting.now) _ (stream c.chain.tokens) _ _ c.chain.invariant.0 (c.in_default.ensures ∙ ap claim_in c.ahead.ensures))
    (map_fails (λ e. map plain_step c.chain.steps.items) at_end (stream c.chain.tokens) _ (refused_stop _ _ _ p.2 c.in_err-at_end.ensures.refuses))

pub returns : goal.returns
returns c =
    steps_end (setting_view c.args.setting.now) _ (stream c.chain.tokens) _ _ c.chain.invariant.0 (c.in_default.ensures ∙ ap claim_in c.ahead.ensures)
    ∙ mapped (λ e. map plain_step c.chain.steps.items) at_end (stream c.chain.tokens) _ _ c.in_ok-at_end.ensures.refuses
