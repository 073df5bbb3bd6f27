use Rattle.std.proofs.Common.{◌≡◌, drop, map}
use Rattle.st_form.specs.Exchange.{truth_for}
use Rattle.st_form.specs.Plain.{plain}
use Rattle.constant_facts.specs.Rules.{formula_is}
use Rattle.constant_facts.proofs.knowing.truth_is.Given as goal

abbrev pub invariant-loop-pair : goal.invariant-loop-pair
invariant-loop-pair l =
    formula_is l.known (truth_for l.variable (map (λ p. (p.0, plain p.1)) (drop l.pair-index l.truths))) l.truth
    ≡ formula_is l.known (truth_for l.variable (map (λ p. (p.0, plain p.1)) l.truths)) l.truth
