-- The last of the states that were played is the one behind the run's last move.
use Rattle.std.proofs.Common.{◌≡◌, List, [], ◌∷◌, ◌++◌, map, Option, Some, None, IfSome, refl, ap, ◌∙◌, sym}
use Rattle.st_form.specs.Formula.{Formula}
use Rattle.st_form.specs.declared.conditions.TransName.{TransName}
use Rattle.st_program.specs.declared.residuals.State as GState
use Rattle.st_program.specs.Tree.{Processes}
use Rattle.spl_semantics.specs.Plain.{plain_state}
use Rattle.spl_semantics.specs.Runs.{State, start}
use Rattle.spl_semantics.specs.Stores.{Store}
use Rattle.trace_player.specs.Playing.{states_of}
use Rattle.trace_player.specs.declared.runs.Played.{Played}
use Rattle.possible_moves.specs.declared.reaching.Reached.{Reached}
use Rattle.possible_moves.specs.Moves.{last_of, IsAt, IsReachedBy, IsRunOf}

abbrev last_in : State → List State → State
last_in s [] = s
last_in s (t ∷ ts) = last_in t ts

last_played : (s : State) (xs : List GState.State) (x : GState.State) → last_in s (map plain_state (xs ++ x ∷ [])) ≡ plain_state x
last_played s [] x = refl
last_played s (y ∷ xs) x = last_played (plain_state y) xs x

last_made : (s : State) (later : List (TransName × State)) → last_in s (map (λ step. step.1) later) ≡ last_of s later
last_made s [] = refl
last_made s (step ∷ later) = last_made step.1 later

pub last_is : (s : State) (later : List (TransName × State)) (xs : List GState.State) (x : GState.State)
    → map plain_state (xs ++ x ∷ []) ≡ states_of s later → plain_state x ≡ last_of s later
last_is s later xs x e = sym (last_played s xs x) ∙ ap (last_in s) e ∙ last_made s later

module _ (p : Processes) (initial : Formula) (store : Store) (names : List TransName) (played : Played) (run : IsRunOf p initial store names played) where
  -- what is at the last state that was played is reached
  pub reached : (xs : List GState.State) (x : GState.State) → played.states.items ≡ xs ++ x ∷ [] → (o : Option Reached) → IfSome o (IsAt p x)
      → IfSome o (IsReachedBy p initial store names)
  reached xs x e None h = tt
  reached xs x e (Some r) h = record {
    begins = run.begins;
    later = run.later;
    plays = run.plays;
    state = ap plain_state h.state ∙ last_is (start p store) run.later xs x (ap (map plain_state) (sym e) ∙ run.states);
    moves = h.moves;
  }
