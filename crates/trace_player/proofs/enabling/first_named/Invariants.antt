use Rattle.std.proofs.Common.{◌≡◌, drop}
use Rattle.spl_semantics.specs.Plain.{plain_moves}
use Rattle.trace_player.specs.Playing.{step_named}
use Rattle.trace_player.proofs.enabling.first_named.Given as goal

abbrev pub invariant-loop-step : goal.invariant-loop-step
invariant-loop-step l = step_named (plain_moves (drop l.step-index l.steps)) l.name ≡ step_named (plain_moves l.steps) l.name
