use Rattle.std.proofs.Common.{◌≢◌, All, take}
use Rattle.transition_system.proofs.transitions.find_among.Given as goal

abbrev pub invariant-loop-place : goal.invariant-loop-place
invariant-loop-place l = All (λ t. t.name ≢ l.name) (take l.place l.transitions)
