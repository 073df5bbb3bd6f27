use Rattle.std.proofs.Common.{◌≡◌, ℕ, map, take}
use Rattle.st_form.specs.Formula.{Formula}
use Rattle.st_form.specs.Plain.{plain}
use Rattle.vc_generator.proofs.changes.copy_truths.Given as goal

abbrev pub invariant-loop-pair : goal.invariant-loop-pair
invariant-loop-pair l = map {B = ℕ × Formula} (λ p. (p.0, plain p.1)) l.out.items ≡ map {B = ℕ × Formula} (λ p. (p.0, plain p.1)) (take l.pair-index l.truths)
