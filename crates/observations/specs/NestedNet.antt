-- Nets whose nodes stand in groups, one inside the other: compassion within compassion.
--
-- Each level of a node is a compassionate name with a base and a top of its own, the outermost first. It generalizes
-- the rule of compassion for response (Manna and Pnueli, *Temporal Verification of Reactive Systems: Progress*,
-- chapter 3), whose premises of the inner levels are proved there by the same rule again.
use Rattle.std.specs.Prelude.{◌≡◌, ◌≢◌, ℕ, suc, ◌≤◌, ◌⊎◌, List, [], ◌∷◌, slice_get, Bool, true, IsTrue, ℤ, pos, ◌+ℤ◌, ◌≤ℤ◌, ⊤}
use Rattle.std.specs.declared.option.Option.{Option}
use Rattle.std.specs.declared.option.Option.TheVariants.{Some}
use Rattle.observations.specs.Observation.{Observation, moment_at, state_at, last, IsTaken, IsJust, IsCompassionate}
use Rattle.observations.specs.Goals.{HoldsAt}
use Rattle.observations.specs.RankedNet.{IsAmong, IfName}

-- a group with its base and its top
pub record Level (S : Type 0) : Type 0 where
  pub group : ℕ
  pub base : S → ℤ
  pub top : S → ℤ

-- the levels from the outermost group on
pub record NestedNode (S : Type 0) : Type 0 where
  pub form : S → Bool
  pub levels : List (Level S)
  pub delay : S → ℤ
  pub helper : Option ℕ

-- the top of the outermost level; without levels the delay
abbrev pub upper : {S : Type 0} → List (Level S) → (S → ℤ) → S → ℤ
upper [] delay s = delay s
upper (l ∷ ls) delay s = l.top s

-- the base of the outermost level; without levels the delay
abbrev pub lower : {S : Type 0} → List (Level S) → (S → ℤ) → S → ℤ
lower [] delay s = delay s
lower (l ∷ ls) delay s = l.base s

-- each base and the delay are at least 0, and a base with what stands below it fits under its top
abbrev pub AreRanked : {S : Type 0} → List (Level S) → (S → ℤ) → S → Type 0
AreRanked [] delay s = pos 0 ≤ℤ delay s
AreRanked (l ∷ ls) delay s = (pos 0 ≤ℤ l.base s) × ((l.base s +ℤ upper ls delay s) ≤ℤ l.top s) × AreRanked ls delay s

-- the group of some level is enabled
abbrev pub SomeEnabled : {S : Type 0} → List (Level S) → List Bool → Type 0
SomeEnabled [] enabled = ⊥
SomeEnabled (l ∷ ls) enabled = (slice_get enabled l.group ≡ Some true) ⊎ SomeEnabled ls enabled

-- how a step of the name may lead from levels and delay to others: it falls here, is free here where the group is
-- enabled, or goes on under the outermost level, which both have and which it keeps
pub data Leads {S : Type 0} (enabled : List Bool) (name : ℕ) (s t : S) : List (Level S) → (S → ℤ) → List (Level S) → (S → ℤ) → Type 0 where
  Falls : {ls ms : List (Level S)} {d e : S → ℤ} → (upper ms e t +ℤ pos 1) ≤ℤ lower ls d s → Leads enabled name s t ls d ms e
  Free : {l m : Level S} {ls ms : List (Level S)} {d e : S → ℤ} → m.group ≡ l.group → l.group ≢ name → slice_get enabled l.group ≡ Some true → m.base t ≤ℤ l.base s → m.top t ≤ℤ l.top s → Leads enabled name s t (l ∷ ls) d (m ∷ ms) e
  Under : {l m : Level S} {ls ms : List (Level S)} {d e : S → ℤ} → m.group ≡ l.group → l.group ≢ name → m.base t ≤ℤ l.base s → m.top t ≤ℤ l.top s → Leads enabled name s t ls d ms e → Leads enabled name s t (l ∷ ls) d (m ∷ ms) e

-- nothing rises, and the name is none of the groups
abbrev pub Stays : {S : Type 0} → ℕ → S → S → List (Level S) → (S → ℤ) → Type 0
Stays name s t [] delay = delay t ≤ℤ delay s
Stays name s t (l ∷ ls) delay = (l.group ≢ name) × (l.base t ≤ℤ l.base s) × (l.top t ≤ℤ l.top s) × Stays name s t ls delay

-- the state is on the node
pub record IsOnNested {S : Type 0} (nodes : List (NestedNode S)) (s : S) (n : NestedNode S) : Type 0 where
  pub place : ℕ
  pub listed : slice_get nodes place ≡ Some n
  pub holds : IsTrue (n.form s)

-- the state is on a node whose upper number is below the bound
pub record StartsBelowNested {S : Type 0} (nodes : List (NestedNode S)) (s : S) (e : ℤ) : Type 0 where
  pub node : NestedNode S
  pub is_on : IsOnNested nodes s node
  pub below : (upper node.levels node.delay s +ℤ pos 1) ≤ℤ e

-- where a step of the name may lead from node n: to a node that its levels allow, or it stays and isn't the helper
pub data NestedMove {S : Type 0} (nodes : List (NestedNode S)) (enabled : List Bool) (name : ℕ) (n : NestedNode S) (s t : S) : Type 0 where
  To : (j : NestedNode S) → IsOnNested nodes t j → Leads enabled name s t n.levels n.delay j.levels j.delay → NestedMove nodes enabled name n s t
  Stay : IsOnNested nodes t n → n.helper ≢ Some name → Stays name s t n.levels n.delay → NestedMove nodes enabled name n s t

-- the group of each level has the property
abbrev pub AllGroups : {S : Type 0} → (ℕ → Type 0) → List (Level S) → Type 0
AllGroups P [] = ⊤
AllGroups P (l ∷ ls) = P l.group × AllGroups P ls

-- the conditions of a nested net for p leads to q within e hold on the observation
pub record NestedHolds {S : Type 0} (nodes : List (NestedNode S)) (p q : S → Bool) (e : S → ℤ) (o : Observation S) : Type 0 where
  pub cover : (k : ℕ) → k ≤ last o → HoldsAt p o k → HoldsAt q o k ⊎ StartsBelowNested nodes (state_at o k) (e (state_at o k))
  pub rank : (k : ℕ) → k ≤ last o → (n : NestedNode S) → IsOnNested nodes (state_at o k) n → AreRanked n.levels n.delay (state_at o k)
  pub help : (k : ℕ) → k ≤ last o → (n : NestedNode S) → IsOnNested nodes (state_at o k) n
      → IsAmong n.helper (moment_at o k).enabled ⊎ SomeEnabled n.levels (moment_at o k).enabled
  pub move : (k name : ℕ) → IsTaken o name k → (n : NestedNode S) → IsOnNested nodes (state_at o k) n
      → HoldsAt q o (suc k) ⊎ NestedMove nodes (moment_at o k).enabled name n (state_at o k) (state_at o (suc k))
  pub helpers : (i : ℕ) (n : NestedNode S) → slice_get nodes i ≡ Some n → IfName (IsJust o.fairness) n.helper
  pub groups : (i : ℕ) (n : NestedNode S) → slice_get nodes i ≡ Some n → AllGroups (IsCompassionate o.fairness) n.levels
