-- The states of what is seen of a run are images of reached states, which meet the control facts.
use Rattle.std.proofs.Common.{◌≡◌, sym, subst, ℕ, zero, suc, ◌≤◌, List, [], ◌∷◌}
use Rattle.st_form.specs.Formula.{Formula, Situation}
use Rattle.st_form.specs.declared.conditions.TransName.{TransName}
use Rattle.observations.specs.Observation.{Moment, Observation, moment_after, state_at, last}
use Rattle.st_program.specs.Tree.{Processes}
use Rattle.control_facts.specs.Alternatives.{control_of}
use Rattle.spl_semantics.specs.Runs.{State, Follows, Reached, IsSeen, AreSeen, IsRunOf, image}
use Rattle.spl_semantics.specs.Runs.Reached.{first, next}
use Rattle.spl_semantics.specs.Facts.{MeetsControl}
use Rattle.transition_system.specs.Systems.{System}
use Rattle.transition_system.specs.Meaning.{IsRun}
use Rattle.vc_generator.specs.Building.{Draft}
use Rattle.vc_generator.specs.Validity.{AllHoldIn, AllTrueIn}
use Rattle.obligation_laws.specs.Obligations.{AreValid, AreInvariant, ValidIsEnough}

module _ (p : Processes) (initial : Formula) where
  -- the state that is seen at a position is the image of a reached one
  pub record IsReachedImage (s : Situation) : Type 0 where
    pub state : State
    pub reached : Reached p initial state
    pub is : s ≡ image p state

  seen-at : (s : State) (m : Moment Situation) (later : List (TransName × State)) (steps : List (ℕ × Moment Situation)) (k : ℕ) → Reached p initial s → Follows p s later
      → IsSeen p s m → AreSeen p later steps → IsReachedImage (moment_after m steps k).state
  seen-at s m [] [] k reached follows is are = record { state = s; reached = reached; is = is.state_is }
  seen-at s m [] (x ∷ steps) k reached follows is are = absurd are
  seen-at s m (step ∷ later) [] k reached follows is are = absurd are
  seen-at s m (step ∷ later) (x ∷ steps) zero reached follows is are = record { state = s; reached = reached; is = is.state_is }
  seen-at s m (step ∷ later) (x ∷ steps) (suc k) reached follows is are = seen-at step.1 x.1 later steps k (next step.0 reached follows.0) follows.1 are.1 are.2

  pub state-seen : (o : Observation Situation) (k : ℕ) → IsRunOf p initial o → IsReachedImage (state_at o k)
  state-seen o k run = seen-at run.state o.first run.later o.later k (first run.first) run.follow run.seen.first_seen run.seen.steps_seen

  valid-hold : (ds : List Draft) (s : State) → AreValid (control_of p) ds → MeetsControl p s → AllHoldIn ds (image p s)
  valid-hold [] s valid meets = tt
  valid-hold (d ∷ ds) s valid meets = (λ given. valid.0 meets.0 (image p s) meets.1 given, valid-hold ds s valid.1 meets)

  lemmas-true : (fs : List Formula) → AreInvariant p initial fs → (o : Observation Situation) → IsRunOf p initial o → (k : ℕ) → k ≤ last o → AllTrueIn fs (state_at o k)
  lemmas-true [] all o run k h = tt
  lemmas-true (f ∷ fs) all o run k h = (all.0 o run k h, lemmas-true fs all.1 o run k h)

  pub enough : (system : System) → ((s : State) → Reached p initial s → MeetsControl p s) → ((o : Observation Situation) → IsRunOf p initial o → IsRun system o) → ValidIsEnough p initial system
  enough system meets runs lemmas conditions goal proves cited valid o run =
      proves o (runs o run) (lemmas-true lemmas cited o run)
      (λ k h. (let s = state-seen o k run in subst (AllHoldIn conditions) (sym s.is) (valid-hold conditions s.state valid (meets s.state s.reached))))
