-- What goals see of a run that was played.
use Rattle.std.specs.Prelude.{◌≡◌, ◌<◌, ◌^◌, List, map, length}
use Rattle.st_form.specs.declared.conditions.TransName.{TransName}
use Rattle.st_program.specs.Tree.{Processes}
use Rattle.spl_semantics.specs.Plain.{plain_state}
use Rattle.spl_semantics.specs.Runs.{State, control}
use Rattle.spl_semantics.specs.Observed.{observed}
use Rattle.run_judging.specs.Shown.{Shows}
use Rattle.trace_player.specs.declared.runs.Played.{Played}
use Rattle.trace_player.specs.declared.watching.Watched.{Watched}
use Rattle.trace_player.specs.Playing.{IsPlayed}

-- each state has a list of locations and a row of flags, and there are fewer than 2^32
pub record IsWhole (played : Played) (w : Watched) : Type 0 where
  pub few : length w.course.enabled.items < 2 ^ 32
  pub course : length played.states.items ≡ length w.course.enabled.items
  pub fronts : length w.fronts.items ≡ length played.states.items

-- the locations are those where control is in each state, and the course shows the run that was played
pub record IsWatched (p : Processes) (played : Played) (w : Watched) : Type 0 where
  pub fronts : map (λ f. f.items) w.fronts.items ≡ map (λ s. control p (plain_state s)) played.states.items
  pub course : (s : State) (later : List (TransName × State)) → IsPlayed p s later played → Shows w.course (observed p s later)
