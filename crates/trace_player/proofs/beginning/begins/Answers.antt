use Rattle.std.proofs.Common.{◌≡◌, true, false, sym, ◌∙◌}
use Rattle.st_form.specs.Plain.{plain}
use Rattle.spl_semantics.specs.Data.{store_of}
use Rattle.spl_semantics.specs.Limits.{wide_formula}
use Rattle.trace_player.proofs.Narrow.{narrow-formula, small-numbers}
use Rattle.trace_player.proofs.beginning.begins.Goals as goal

pub unreachable-requires : goal.unreachable-requires
unreachable-requires c =
    let store = store_of c.args.store.now in
    let narrow = narrow-formula c.program.inside.variables.items c.program.invariant.few_variables store (small-numbers c.args.store.now c.requires) (plain c.program.inside.initial) c.program.invariant.start in
    let wide : wide_formula (plain c.program.inside.initial) store ≡ true = rw c.in-Err-ValueLimit.field-0-is at c.in-Err-ValueLimit.ensures in
    let clash : true ≡ false = sym wide ∙ narrow in cc
