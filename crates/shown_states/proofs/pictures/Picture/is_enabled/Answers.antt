use Rattle.std.proofs.Common.{sym, ap, ◌∙◌, arith, get_or}
use Rattle.shown_states.proofs.Enabled.{starts, goes_told, passes_by, grows_wide, wide_told, none_told}
use Rattle.shown_states.proofs.Storing.{fails_wide}
use Rattle.shown_states.proofs.pictures.Picture.is_enabled.Goals as goal
use Rattle.shown_states.proofs.pictures.Picture.is_enabled.Goals.{in-Ok-false, in-Err-ValueLimit}

pub loop-mode-init : goal.loop-mode-init
loop-mode-init c = starts c.args.self.now c.args.transition.now.modes.items

pub returns-in-Ok-true : goal.returns-in-Ok-true
returns-in-Ok-true c = goes_told c.args.self.now c.args.transition.now.modes.items c.loop-mode.mode-index c.mode-item.result (omega arith) (c.mode-item.is ∙ ap (λ ms. get_or ms c.loop-mode.mode-index c.mode-item.result) c.deref-mode-items.ensures.value) c.in-Ok-true.ensures.0 (sym c.in-Ok-true.ensures.1 ∙ c.in-Ok-true.field-0-test)

pub loop-mode-preserved : goal.loop-mode-preserved
loop-mode-preserved c =
    elim c.match-can_go.branch [
      | in-Ok-false w ↦ passes_by c.args.self.now c.args.transition.now.modes.items c.loop-mode.mode-index c.mode-item.result (omega arith) (c.mode-item.is ∙ ap (λ ms. get_or ms c.loop-mode.mode-index c.mode-item.result) c.deref-mode-items.ensures.value) c.loop-mode.wide _ w.in-Ok-false.ensures.0 (sym w.in-Ok-false.ensures.1 ∙ w.in-Ok-false.field-0-test) w.wide-is c.loop-mode.invariant
      | in-Err-ValueLimit w ↦ grows_wide c.args.self.now c.args.transition.now.modes.items c.loop-mode.mode-index c.mode-item.result (omega arith) (c.mode-item.is ∙ ap (λ ms. get_or ms c.loop-mode.mode-index c.mode-item.result) c.deref-mode-items.ensures.value) c.loop-mode.wide _ (fails_wide w.in-Err-ValueLimit.field-0 _ w.in-Err-ValueLimit.ensures w.in-Err-ValueLimit.field-0-is) w.wide-is c.loop-mode.invariant
    ]

pub returns-then-wide : goal.returns-then-wide
returns-then-wide c = wide_told c.args.self.now c.args.transition.now.modes.items c.loop-mode.mode-index c.loop-mode.wide (omega arith) c.if-wide.true c.loop-mode.invariant

pub returns : goal.returns
returns c = none_told c.args.self.now c.args.transition.now.modes.items c.loop-mode.mode-index c.loop-mode.wide (omega arith) c.if-wide.false c.loop-mode.invariant
