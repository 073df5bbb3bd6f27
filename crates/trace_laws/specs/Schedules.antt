-- The run that a schedule's moves make.
use Rattle.std.specs.Prelude.{◌≡◌, false, List, map}
use Rattle.st_form.specs.declared.conditions.TransName.{TransName}
use Rattle.st_program.specs.Member.{Member}
use Rattle.st_program.specs.Tree.{Processes}
use Rattle.spl_semantics.specs.Limits.{wide_rests}
use Rattle.spl_semantics.specs.Runs.{State, Follows}
use Rattle.trace_player.specs.Playing.{states_of}

-- nothing is too large in the state
abbrev pub IsNarrow : Processes → State → Type 0
IsNarrow p s = wide_rests s.left p s.store ≡ false

-- a run from the state by steps with these names, in whose states nothing is too large
pub record IsRunOfNames (p : Processes) (s : State) (names : List TransName) (later : List (TransName × State)) : Type 0 where
  pub follow : Follows p s later
  pub named : map (λ step. step.0) later ≡ names
  pub narrow : (t : State) → Member t (states_of s later) → IsNarrow p t
