use Rattle.std.proofs.Common.{◌≡◌, ◌++◌, OnOk, ap, sym, ◌∙◌, subst, arith}
use Rattle.st_program.specs.Plain.{plain_children}
use Rattle.st_program.specs.Residuals.{plain_residual, plain_residuals}
use Rattle.st_program.proofs.ResidualRows.{residual-Inside}
use Rattle.spl_semantics.specs.Control.{front, fronts}
use Rattle.trace_player.proofs.Controls.{fronts-next}
use Rattle.trace_player.proofs.fronts.+fronts.Goals as goal

pub push_front-returns-in-Inside : goal.push_front-returns-in-Inside
push_front-returns-in-Inside t c =
    let p = plain_children c.args.program.now.processes in
    let is = ap plain_residual c.in-Inside.is ∙ residual-Inside c.in-Inside.coop c.in-Inside.children in
    let inner = ap (λ l. fronts (plain_residuals l) p (plain_children c.children_at.result.now)) c.deref-in-Inside.ensures.value ∙ ap (fronts (plain_residuals c.in-Inside.children.items) p) c.children_at.ensures in
    subst (λ l. OnOk c.push_fronts.result (c.push_fronts.new.locations.items ≡ c.args.locations.now.items ++ l)) (inner ∙ sym (ap (λ r. front r p c.args.end) is)) c.push_fronts.ensures

pub push_fronts-loop-place-preserved : goal.push_fronts-loop-place-preserved
push_fronts-loop-place-preserved t c =
    fronts-next (plain_children c.args.program.now.processes) c.args.residuals.now c.args.children.now c.loop-place.place c.index-residuals-place.result (omega (arith, c.loop-place-test.true)) c.index-residuals-place.is
    c.loop-place.locations.items c.push_front.new.locations.items _ c.end_at.result c.end_at.ensures c.in_ok-push_front.ensures c.loop-place.invariant
