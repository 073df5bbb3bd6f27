-- What holds along a run: one state formula where another one does, and one bound that is at most another.
use Rattle.std.specs.Prelude.{List, [], ◌∷◌, Bool, ℤ, ◌≤ℤ◌, ⊤}
use Rattle.observations.specs.Observation.{Observation, state_at}
use Rattle.observations.specs.Goals.{HoldsAt, Throughout}

-- where p holds along the run, q does
abbrev pub Implies : {S : Type 0} → (S → Bool) → (S → Bool) → Observation S → Type 0
Implies p q o = Throughout o (λ i. HoldsAt p o i → HoldsAt q o i)

-- the lists are equally long, and each formula of the first implies the one at its place in the second
abbrev pub EachImplies : {S : Type 0} → List (S → Bool) → List (S → Bool) → Observation S → Type 0
EachImplies [] [] o = ⊤
EachImplies [] (g ∷ gs) o = ⊥
EachImplies (f ∷ fs) [] o = ⊥
EachImplies (f ∷ fs) (g ∷ gs) o = Implies f g o × EachImplies fs gs o

-- where p holds along the run, d is at most e
abbrev pub AtMost : {S : Type 0} → (S → Bool) → (S → ℤ) → (S → ℤ) → Observation S → Type 0
AtMost p d e o = Throughout o (λ i. HoldsAt p o i → d (state_at o i) ≤ℤ e (state_at o i))
