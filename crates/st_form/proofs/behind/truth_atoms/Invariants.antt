use Rattle.std.proofs.Common.{◌≡◌, map, drop}
use Rattle.st_form.specs.Plain.{plain}
use Rattle.st_form.specs.Exchange.{truth_for}
use Rattle.st_form.proofs.behind.truth_atoms.Given as goal

abbrev pub invariant-loop-pair : goal.invariant-loop-pair
invariant-loop-pair l = truth_for l.var (map (λ p. (p.0, plain p.1)) (drop l.pair-index l.truths)) ≡ truth_for l.var (map (λ p. (p.0, plain p.1)) l.truths)
