-- Where conditions hold: in a state, and in each state of what is seen of a run.
use Rattle.std.specs.Prelude.{ℕ, ◌≤◌, List, [], ◌∷◌, IsTrue, ⊤}
use Rattle.st_form.specs.Formula.{Formula, Situation, truth}
use Rattle.vc_generator.specs.Building.{Draft}
use Rattle.observations.specs.Observation.{Observation, state_at, last}

abbrev pub HoldsIn : Draft → Situation → Type 0
HoldsIn c s = IsTrue (truth s c.condition.given) → IsTrue (truth s c.condition.shown)

abbrev pub AllHoldIn : List Draft → Situation → Type 0
AllHoldIn [] s = ⊤
AllHoldIn (c ∷ cs) s = HoldsIn c s × AllHoldIn cs s

abbrev pub AllTrueIn : List Formula → Situation → Type 0
AllTrueIn [] s = ⊤
AllTrueIn (f ∷ fs) s = IsTrue (truth s f) × AllTrueIn fs s

-- each condition holds in each state
abbrev pub HoldThroughout : List Draft → Observation Situation → Type 0
HoldThroughout cs o = (k : ℕ) → k ≤ last o → AllHoldIn cs (state_at o k)

-- each formula holds in each state
abbrev pub TrueThroughout : List Formula → Observation Situation → Type 0
TrueThroughout fs o = (k : ℕ) → k ≤ last o → AllTrueIn fs (state_at o k)
