-- That a response is met: where it is owed on a run, the program can go on so that its target comes.
--
-- A response within rounds would say nothing of a program on whose runs rounds didn't come. Here they do, as a program can
-- always go on so that fairness is paid (this is called feasible by Apt, Francez and Katz, *Appraising fairness in languages
-- for distributed programming*, 1988).
use Rattle.std.specs.Prelude.{ℕ, ◌≤◌, List, ◌++◌, Bool, ⊤}
use Rattle.st_form.specs.Formula.{Formula, Situation}
use Rattle.st_form.specs.declared.conditions.TransName.{TransName}
use Rattle.observations.specs.Observation.{Observation, last}
use Rattle.observations.specs.Goals.{HoldsAt, HoldsBetween}
use Rattle.st_program.specs.Tree.{Processes}
use Rattle.spl_semantics.specs.Runs.{State, IsFirst, Follows, IsSeenOf}
use Rattle.temporal_goals.specs.Texts.{PlainGoal, invariant, waiting, response}
use Rattle.temporal_goals.specs.Meaning.{test_of}

-- the run from s goes on, and q holds at position i of the longer run or behind it
pub record ComesTo (p : Processes) (s : State) (later : List (TransName × State)) (q : Situation → Bool) (i : ℕ) : Type 0 where
  pub more : List (TransName × State)
  pub follow : Follows p s (later ++ more)
  pub seen : Observation Situation
  pub seen_of : IsSeenOf p s (later ++ more) seen
  pub comes : HoldsBetween q seen i (last seen)

-- each run on which f holds at some position can go on so that g holds there or behind it
abbrev pub CanCome : Processes → Formula → (Situation → Bool) → (Situation → Bool) → Type 0
CanCome p initial f g =
    (s : State) (later : List (TransName × State)) (o : Observation Situation) → IsFirst p initial s → Follows p s later
    → IsSeenOf p s later o → (i : ℕ) → i ≤ last o → HoldsAt f o i → ComesTo p s later g i

-- a response is met; of the other goals nothing is asked, as they promise that nothing comes
abbrev pub IsMet : Processes → Formula → PlainGoal → Type 0
IsMet p initial (invariant f) = ⊤
IsMet p initial (waiting f forms) = ⊤
IsMet p initial (response f g bound) = CanCome p initial (test_of f) (test_of g)
