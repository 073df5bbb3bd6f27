use Rattle.std.proofs.Common.{◌≡◌, ◌++◌, ◌∷◌, map, drop}
use Rattle.st_form.specs.declared.conditions.TransName.TheVariants.{Idle}
use Rattle.trace_player.proofs.enabling.names_of.Given as goal

abbrev pub invariant-loop-step : goal.invariant-loop-step
invariant-loop-step l = l.names.items ++ map (λ m. m.name) (drop l.step-index l.steps) ≡ Idle ∷ map (λ m. m.name) l.steps
