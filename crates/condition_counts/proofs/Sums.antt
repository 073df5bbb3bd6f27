-- The counts of a script's steps are the sums of their rules, and add up to the length of its list.
use Rattle.std.proofs.Common.{arith, ◌≡◌, refl, ap, ℕ, suc, ◌+◌, List, [], ◌∷◌, ◌++◌, length, map, length-append}
use Rattle.std.specs.List.{sum}
use Rattle.std.proofs.lemmas.Grind.{common_steps}
use Rattle.transition_system.specs.Systems.{System}
use Rattle.temporal_goals.specs.Texts.{PlainStep}
use Rattle.script_laws.specs.Script.{cited_of, step_list, steps_list, script_list}
use Rattle.condition_counts.specs.Counts.{counts_from, counts_of}
use Rattle.condition_counts.specs.Sums.{modes_among, step_sum}
use Rattle.condition_counts.proofs.Lengths.{step-length}

from : (system : System) (earlier : List PlainStep) (n : ℕ) (ss : List PlainStep) → map (step_sum (modes_among system.transitions)) ss ≡ counts_from system earlier n ss
from system earlier n [] = refl
from system earlier n (s ∷ ss) =
    let here = step-length n system (cited_of earlier s.cited) s.goal s.rule in
    rw here (ap (λ (l : List ℕ). step_sum (modes_among system.transitions) s ∷ l) (from system (earlier ++ s ∷ []) (n + 1) ss))

pub sums-are-counts : (system : System) (steps : List PlainStep) → map (step_sum (modes_among system.transitions)) steps ≡ counts_of system steps
sums-are-counts system steps = from system [] 0 steps

sum-more : (n : ℕ) (ns : List ℕ) → sum (n ∷ ns) ≡ n + sum ns
sum-more n ns = grind (arith, common_steps)

adding : (system : System) (earlier : List PlainStep) (n : ℕ) (ss : List PlainStep) → sum (counts_from system earlier n ss) ≡ length (steps_list system earlier n ss)
adding system earlier n [] = refl
adding system earlier n (s ∷ ss) =
    let own = step_list n system (cited_of earlier s.cited) s.goal s.rule in
    let behind = earlier ++ s ∷ [] in
    omega (
      arith,
      sum-more (length own) (counts_from system behind (n + 1) ss),
      length-append own (steps_list system behind (n + 1) ss),
      adding system behind (n + 1) ss,
    )

pub counts-add-up : (system : System) (steps : List PlainStep) → sum (counts_of system steps) ≡ length (script_list system steps)
counts-add-up system steps = adding system [] 0 steps

-- each step has a count
many : (system : System) (earlier : List PlainStep) (n : ℕ) (ss : List PlainStep) → length (counts_from system earlier n ss) ≡ length ss
many system earlier n [] = refl
many system earlier n (s ∷ ss) = ap suc (many system (earlier ++ s ∷ []) (n + 1) ss)

pub as-many : (system : System) (steps : List PlainStep) → length (counts_of system steps) ≡ length steps
as-many system steps = many system [] 0 steps
