use Rattle.std.proofs.Common.{◌≡◌, refl, arith, length}
use Rattle.st_program.specs.Plain.{plain_children}
use Rattle.trace_player.proofs.Outcomes.{starts, stops, breaks, goes, ends, found-some, found-none, found-fits}
use Rattle.trace_player.proofs.playing.play_from.Goals as goal

pub loop-position-init : goal.loop-position-init
loop-position-init c = record {
  fits = c.requires.store;
  playing = rw (c.new-states.ensures.items, c.new-enabled.ensures.items) (starts (plain_children c.args.program.now.processes) c.args.state c.args.names.now);
}

pub returns-in_err-steps : goal.returns-in_err-steps
returns-in_err-steps c = stops _ _ _ _ _ _ _ c.loop-position.invariant.playing _ refl c.from_residual.result c.in_err-steps.field-0.0 c.from_residual.ensures.1 c.in_err-steps.ensures.steps

pub returns-in_default : goal.returns-in_default
returns-in_default c =
    let steps = c.in_ok-steps.ensures.steps in
    breaks _ _ _ _ _ _ _ c.loop-position.invariant.playing steps.0 _ (omega arith)
    (found-none (plain_children c.args.program.now.processes) c.loop-position.current c.in_ok-steps.steps.items c.deref.result.now steps.1 c.deref.ensures.value c.in_ok-next.field-0 _ c.in_ok-next.ensures.state c.in_default.not-Some)

pub loop-position-preserved : goal.loop-position-preserved
loop-position-preserved c =
    let steps = c.in_ok-steps.ensures.steps in
    record {
      fits = found-fits c.args.program.now.variables _ _ _ _ c.deref.ensures.value c.in-Some.is c.in_ok-steps.ensures.fits (c.in_ok-next.ensures.fits c.args.program.now.variables c.loop-position.invariant.fits);
      playing =
          goes _ _ _ _ _ _ _ c.loop-position.invariant.playing steps.0 _ (omega arith) c.in-Some.next c.in_ok-steps.steps.items _ _ _
          (found-some (plain_children c.args.program.now.processes) c.loop-position.current c.in_ok-steps.steps.items c.deref.result.now steps.1 c.deref.ensures.value c.in_ok-next.field-0 _ c.in-Some.next c.in_ok-next.ensures.state c.in-Some.is) steps.1 c.deref-in-loop-position.ensures.value c.in_ok-note.ensures;
    }

pub returns-in_err-steps-2 : goal.returns-in_err-steps-2
returns-in_err-steps-2 c =
    let over : length c.args.names.now ≡ c.loop-position.position = omega arith in
    stops _ _ _ _ _ _ _ c.loop-position.invariant.playing _ over c.from_residual-in_err-steps-2.result c.in_err-steps-2.field-0.0 c.from_residual-in_err-steps-2.ensures.1 c.in_err-steps-2.ensures.steps

pub returns : goal.returns
returns c =
    let steps = c.in_ok-steps-2.ensures.steps in
    ends _ _ _ _ _ _ _ c.loop-position.invariant.playing steps.0 _ _ _ _ _ (omega arith) steps.1 c.deref-2.ensures.value c.in_ok-note-2.ensures refl c.in_ok-from_slice.ensures.items refl
