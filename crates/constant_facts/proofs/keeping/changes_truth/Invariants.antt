use Rattle.std.proofs.Common.{◌≡◌, drop, map}
use Rattle.st_form.specs.Plain.{plain}
use Rattle.constant_facts.specs.Rules.{is_put}
use Rattle.constant_facts.proofs.keeping.changes_truth.Given as goal

abbrev pub invariant-loop-pair : goal.invariant-loop-pair
invariant-loop-pair l =
    is_put l.variable (map (λ p. (p.0, plain p.1)) (drop l.pair-index l.truths))
    ≡ is_put l.variable (map (λ p. (p.0, plain p.1)) l.truths)
