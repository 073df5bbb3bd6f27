-- Ranked nets: what the conditions of a net say of a state and of a step.
--
-- A net proves that q is reached from p within e rounds. Its nodes carry a base, a delay and a top, perhaps a group (a
-- compassionate name) and perhaps a helper (a just name). It generalizes the chain rule, the rule of well-founded
-- ranks and the rule of compassion for response (Manna and Pnueli, *Temporal Verification of Reactive Systems:
-- Progress*, chapters 1 to 3): the helper is the helpful transition of a justice rule, the group that of a compassion
-- rule. The bound on rounds is this project's own.
use Rattle.std.specs.Prelude.{◌≡◌, ◌≢◌, ℕ, suc, ◌≤◌, ◌⊎◌, List, slice_get, Bool, true, IsTrue, ℤ, pos, ◌+ℤ◌, ◌≤ℤ◌, ⊤}
use Rattle.std.specs.declared.option.Option.{Option}
use Rattle.std.specs.declared.option.Option.TheVariants.{Some, None}
use Rattle.observations.specs.Observation.{Observation, moment_at, state_at, last, IsTaken, IsJust, IsCompassionate}
use Rattle.observations.specs.Goals.{HoldsAt}

-- the assertion of a node and its numbers, in each state
pub record Node (S : Type 0) : Type 0 where
  pub form : S → Bool
  pub base : S → ℤ
  pub delay : S → ℤ
  pub top : S → ℤ
  pub group : Option ℕ
  pub helper : Option ℕ

abbrev pub IsListed : {S : Type 0} → List (Node S) → Node S → Type 0
IsListed nodes n = (i : ℕ) × (slice_get nodes i ≡ Some n)

-- the name is there and enabled; one that is absent never is
abbrev pub IsAmong : Option ℕ → List Bool → Type 0
IsAmong None enabled = ⊥
IsAmong (Some name) enabled = slice_get enabled name ≡ Some true

-- the name has the property, where there is one
abbrev pub IfName : (ℕ → Type 0) → Option ℕ → Type 0
IfName P None = ⊤
IfName P (Some name) = P name

-- the state is on the node
pub record IsOn {S : Type 0} (nodes : List (Node S)) (s : S) (n : Node S) : Type 0 where
  pub listed : IsListed nodes n
  pub holds : IsTrue (n.form s)

-- the state is on a node whose top is below the number
pub record StartsBelow {S : Type 0} (nodes : List (Node S)) (s : S) (e : ℤ) : Type 0 where
  pub node : Node S
  pub is_on : IsOn nodes s node
  pub below : (node.top s +ℤ pos 1) ≤ℤ e

-- on a node base and delay are at least 0, and fit together under the top
pub record IsRanked {S : Type 0} (n : Node S) (s : S) : Type 0 where
  pub base : pos 0 ≤ℤ n.base s
  pub delay : pos 0 ≤ℤ n.delay s
  pub top : (n.base s +ℤ n.delay s) ≤ℤ n.top s

-- the helper or the group is enabled
abbrev pub IsHelped : {S : Type 0} → Node S → List Bool → Type 0
IsHelped n enabled = IsAmong n.helper enabled ⊎ IsAmong n.group enabled

-- neither base nor top is raised
pub record Keeps {S : Type 0} (n j : Node S) (s t : S) : Type 0 where
  pub base : j.base t ≤ℤ n.base s
  pub top : j.top t ≤ℤ n.top s

-- where a step of the name may lead from node n: a drop to any node below the base, a free move within the group while
-- it is enabled, an inner drop of the delay within the group, or a stay that is no step of the helper
pub data Move {S : Type 0} (nodes : List (Node S)) (enabled : List Bool) (name : ℕ) (n : Node S) (s t : S) : Type 0 where
  Drop : (j : Node S) → IsOn nodes t j → (j.top t +ℤ pos 1) ≤ℤ n.base s → Move nodes enabled name n s t
  Free : (j : Node S) → IsOn nodes t j → j.group ≡ n.group → n.group ≢ Some name → IsAmong n.group enabled → Keeps n j s t → Move nodes enabled name n s t
  Inner : (j : Node S) → IsOn nodes t j → j.group ≡ n.group → n.group ≢ Some name → (j.delay t +ℤ pos 1) ≤ℤ n.delay s → Keeps n j s t → Move nodes enabled name n s t
  Stay : IsOn nodes t n → n.group ≢ Some name → n.helper ≢ Some name → n.delay t ≤ℤ n.delay s → Keeps n n s t → Move nodes enabled name n s t

-- the conditions of a net for p leads to q within e hold on the observation
pub record NetHolds {S : Type 0} (nodes : List (Node S)) (p q : S → Bool) (e : S → ℤ) (o : Observation S) : Type 0 where
  pub cover : (k : ℕ) → k ≤ last o → HoldsAt p o k → HoldsAt q o k ⊎ StartsBelow nodes (state_at o k) (e (state_at o k))
  pub rank : (k : ℕ) → k ≤ last o → (n : Node S) → IsOn nodes (state_at o k) n → IsRanked n (state_at o k)
  pub help : (k : ℕ) → k ≤ last o → (n : Node S) → IsOn nodes (state_at o k) n → IsHelped n (moment_at o k).enabled
  pub move : (k name : ℕ) → IsTaken o name k → (n : Node S) → IsOn nodes (state_at o k) n
      → HoldsAt q o (suc k) ⊎ Move nodes (moment_at o k).enabled name n (state_at o k) (state_at o (suc k))
  pub helpers : (n : Node S) → IsListed nodes n → IfName (IsJust o.fairness) n.helper
  pub groups : (n : Node S) → IsListed nodes n → IfName (IsCompassionate o.fairness) n.group
