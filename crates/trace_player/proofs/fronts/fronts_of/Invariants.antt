use Rattle.std.proofs.Common.{◌≡◌, ◌++◌, map, drop}
use Rattle.st_program.specs.Plain.{plain_children}
use Rattle.spl_semantics.specs.Plain.{plain_state}
use Rattle.spl_semantics.specs.Runs.{control}
use Rattle.trace_player.proofs.fronts.fronts_of.Given as goal

abbrev pub invariant-loop-state : goal.invariant-loop-state
invariant-loop-state l =
    map (λ f. f.items) l.fronts.items ++ map (λ s. control (plain_children l.program.processes) (plain_state s)) (drop l.state-index l.states)
    ≡ map (λ s. control (plain_children l.program.processes) (plain_state s)) l.states
