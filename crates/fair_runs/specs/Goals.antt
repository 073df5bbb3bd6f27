-- What goals say of an infinite sequence of states, in the books' sense.
use Rattle.std.specs.Prelude.{ℕ, map}
use Rattle.st_form.specs.Formula.{Situation}
use Rattle.temporal_goals.specs.Texts.{PlainGoal, invariant, waiting, response}
use Rattle.temporal_goals.specs.Meaning.{test_of}
use Rattle.fair_computations.specs.Goals.{InvarianceOf, WaitingOf, ResponseOf, EventuallyResponds}

-- the goal holds along the states; of a response's bound nothing is said
abbrev pub HoldsAlong : PlainGoal → (ℕ → Situation) → Type 0
HoldsAlong (invariant p) state = InvarianceOf (test_of p) state
HoldsAlong (waiting p forms) state = WaitingOf (test_of p) (map test_of forms) state
HoldsAlong (response p q bound) state = ResponseOf (test_of p) (test_of q) state

-- the same with "eventually"
abbrev pub HoldsEventually : PlainGoal → (ℕ → Situation) → Type 0
HoldsEventually (invariant p) state = InvarianceOf (test_of p) state
HoldsEventually (waiting p forms) state = WaitingOf (test_of p) (map test_of forms) state
HoldsEventually (response p q bound) state = EventuallyResponds (test_of p) (test_of q) state
