-- Chain and rank diagrams: what their conditions say of a state and of a step.
--
-- They are the verification diagrams of Manna and Pnueli, *Temporal Verification Diagrams* (1994), with ranks that are
-- whole numbers: each step to another node lowers the rank, and each node has a helpful just transition.
use Rattle.std.specs.Prelude.{◌≡◌, ◌≢◌, ℕ, suc, ◌≤◌, ◌⊎◌, List, slice_get, Bool, true, IsTrue, ℤ, pos, ◌+ℤ◌, ◌≤ℤ◌}
use Rattle.std.specs.declared.option.Option.TheVariants.{Some}
use Rattle.observations.specs.Observation.{Observation, moment_at, state_at, last, IsTaken, IsJust}
use Rattle.observations.specs.Goals.{HoldsAt}

-- the assertion of a node, its rank in each state, and its helper
pub record DrawnNode (S : Type 0) : Type 0 where
  pub form : S → Bool
  pub rank : S → ℤ
  pub helper : ℕ

-- the state is on the node
pub record IsOnDrawn {S : Type 0} (nodes : List (DrawnNode S)) (s : S) (n : DrawnNode S) : Type 0 where
  pub place : ℕ
  pub listed : slice_get nodes place ≡ Some n
  pub holds : IsTrue (n.form s)

-- the state is on a node whose rank is below the number
pub record StartsBelowDrawn {S : Type 0} (nodes : List (DrawnNode S)) (s : S) (e : ℤ) : Type 0 where
  pub node : DrawnNode S
  pub is_on : IsOnDrawn nodes s node
  pub below : (node.rank s +ℤ pos 1) ≤ℤ e

-- a step of the name from a node stays where the name isn't the helper, ends, or comes to a node of a lower rank
pub data DrawnMove {S : Type 0} (nodes : List (DrawnNode S)) (terminal : S → Bool) (name : ℕ) (n : DrawnNode S) (s t : S) : Type 0 where
  Stays : IsOnDrawn nodes t n → n.helper ≢ name → n.rank t ≤ℤ n.rank s → DrawnMove nodes terminal name n s t
  Ends : IsTrue (terminal t) → DrawnMove nodes terminal name n s t
  Along : (j : DrawnNode S) → IsOnDrawn nodes t j → (j.rank t +ℤ pos 1) ≤ℤ n.rank s → DrawnMove nodes terminal name n s t

-- the conditions of a diagram for p leads to q within e hold on the observation
pub record DrawnHolds {S : Type 0} (nodes : List (DrawnNode S)) (terminal p q : S → Bool) (e : S → ℤ) (o : Observation S) : Type 0 where
  pub target : (k : ℕ) → k ≤ last o → HoldsAt terminal o k → HoldsAt q o k
  pub cover : (k : ℕ) → k ≤ last o → HoldsAt p o k → HoldsAt terminal o k ⊎ StartsBelowDrawn nodes (state_at o k) (e (state_at o k))
  pub rank : (k : ℕ) → k ≤ last o → (n : DrawnNode S) → IsOnDrawn nodes (state_at o k) n → pos 0 ≤ℤ n.rank (state_at o k)
  pub help : (k : ℕ) → k ≤ last o → (n : DrawnNode S) → IsOnDrawn nodes (state_at o k) n → slice_get (moment_at o k).enabled n.helper ≡ Some true
  pub move : (k name : ℕ) → IsTaken o name k → (n : DrawnNode S) → IsOnDrawn nodes (state_at o k) n
      → DrawnMove nodes terminal name n (state_at o k) (state_at o (suc k))
  pub helpers : (i : ℕ) (n : DrawnNode S) → slice_get nodes i ≡ Some n → IsJust o.fairness n.helper
