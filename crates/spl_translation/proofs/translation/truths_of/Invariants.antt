use Rattle.std.proofs.Common.{◌≡◌, map, take}
use Rattle.spl_translation.proofs.translation.truths_of.Given as goal

abbrev pub invariant-loop-variable : goal.invariant-loop-variable
invariant-loop-variable l = l.out.items ≡ map (λ x. x.truth) (take l.variable-index l.variables)
