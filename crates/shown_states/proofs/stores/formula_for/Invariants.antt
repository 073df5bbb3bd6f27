use Rattle.std.proofs.Common.{◌≡◌, map, drop}
use Rattle.st_form.specs.Plain.{plain}
use Rattle.shown_states.specs.Behind.{formula_for}
use Rattle.shown_states.proofs.stores.formula_for.Given as goal

abbrev pub invariant-loop-entry : goal.invariant-loop-entry
invariant-loop-entry l = formula_for l.variable (map (λ p. (p.0, plain p.1)) (drop l.entry-index l.truths)) ≡ formula_for l.variable (map (λ p. (p.0, plain p.1)) l.truths)
