use Rattle.std.proofs.Common.{◌≡◌, ℕ, length, map, take}
use Rattle.st_form.specs.Formula.{Formula}
use Rattle.st_form.specs.Plain.{plain}
use Rattle.vc_generator.proofs.sameness.are_same_truths.Given as goal

abbrev pub invariant-loop-place : goal.invariant-loop-place
invariant-loop-place l = record {
  lengths : length l.xs ≡ length l.ys;
  same : map {B = ℕ × Formula} (λ p. (p.0, plain p.1)) (take l.place l.xs) ≡ map {B = ℕ × Formula} (λ p. (p.0, plain p.1)) (take l.place l.ys);
}
