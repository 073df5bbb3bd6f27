use Rattle.std.proofs.Common.{◌↔◌, ◌<◌, ℕ, length}
use Rattle.run_judging.specs.Paying.{Meets}
use Rattle.run_judging.proofs.Demanding.{PaysBelow}
use Rattle.run_judging.proofs.demands.owe_all.Given as goal

abbrev pub invariant-loop-name : goal.invariant-loop-name
invariant-loop-name l = (e : ℕ) → e < length l.fn.demands → (Meets l.demands e) ↔ (Meets l.fn.demands e × PaysBelow l.fairness l.aheads l.name e)
