use Rattle.std.proofs.Common.{◌≡◌, drop}
use Rattle.st_form.specs.Plain.{plain_list}
use Rattle.st_form.specs.Simple.{tabled}
use Rattle.linear_prover.specs.Touches.{touches_any}
use Rattle.linear_prover.proofs.touching.+touches.Given as goal

abbrev pub invariant-touches_any-loop-f : goal.invariant-touches_any-loop-f
invariant-touches_any-loop-f l = touches_any (tabled l.truths l.places) (plain_list (drop l.f-index l.fs)) ≡ touches_any (tabled l.truths l.places) (plain_list l.fs)
