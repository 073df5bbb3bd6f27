-- What is seen of each state in turn, and values in these states up to the first one that is too large.
use Rattle.std.specs.Prelude.{ℕ, Bool, List, [], ◌∷◌, if◌then◌else◌, map}
use Rattle.std.specs.List.{list_any}
use Rattle.std.specs.declared.vec.Vec.{Vec}
use Rattle.std.specs.declared.alloc.Global.{Global}
use Rattle.st_form.specs.Formula.{Formula, Situation}
use Rattle.observations.specs.Observation.{Observation}
use Rattle.st_program.specs.declared.residuals.State as GState
use Rattle.spl_semantics.specs.Stores.{Store}
use Rattle.spl_semantics.specs.Data.{store_of, seen_at}
use Rattle.spl_semantics.specs.Limits.{wide_formula}
use Rattle.temporal_goals.specs.Meaning.{test_of}
use Rattle.trace_player.specs.Judgements.{store_in}

-- the states of an observation
abbrev pub states_in : {S : Type 0} → Observation S → List S
states_in o = o.first.state ∷ map (λ step. step.1.state) o.later

-- each store, with control at the locations beside it
abbrev pub sights : List GState.State → List (Vec ℕ Global) → List Situation
sights [] fronts = []
sights (s ∷ ss) [] = []
sights (s ∷ ss) (f ∷ fs) = seen_at s.store.items f.items ∷ sights ss fs

abbrev pub stores : List GState.State → List Store
stores ss = map (λ s. store_of s.store.items) ss

-- the values in the first of these, up to the first one in which a value is too large
abbrev pub column : {A B : Type 0} → (A → Bool) → (A → B) → List A → List B
column wide value [] = []
column wide value (x ∷ xs) = if wide x then [] else value x ∷ column wide value xs

abbrev pub is_wide_formula : Formula → Situation → Bool
is_wide_formula f x = wide_formula f (store_in x)

abbrev pub some_wide : List Formula → Situation → Bool
some_wide fs x = list_any (λ f. wide_formula f (store_in x)) fs

abbrev pub row_of : List Formula → Situation → List Bool
row_of fs x = map (λ f. test_of f x) fs
