-- What is judged of goals on a run, computed.
use Rattle.std.specs.Prelude.{ℕ, suc, Bool, not, List, map, Option, Some, None}
use Rattle.st_form.specs.Formula.{Situation}
use Rattle.observations.specs.Observation.{Observation, last}
use Rattle.temporal_goals.specs.Texts.{PlainGoal, invariant, waiting, response, PlainStep}
use Rattle.temporal_goals.specs.Meaning.{test_of, number_of}
use Rattle.run_judging.specs.declared.judged.Judged.{Judged}
use Rattle.run_judging.specs.declared.judged.Judged.TheVariants.{Holds, Fails, Unclear}
use Rattle.judging_laws.specs.Searching.{first_failure}
use Rattle.judging_laws.specs.Sentences.{holds_at, waits_from, responds_from}
use Rattle.trace_player.specs.Judgements.{wide_at}

-- the goal's sentence holds from the position
abbrev pub goal_from : PlainGoal → Observation Situation → ℕ → Bool
goal_from (invariant p) o = holds_at (test_of p) o
goal_from (waiting p forms) o = waits_from (test_of p) (map test_of forms) o
goal_from (response p q bound) o = responds_from (test_of p) (test_of q) (number_of bound) o

-- unclear at the first position that is too large; where there is none, as the sentence first fails
abbrev pub judged_at : Option ℕ → Option ℕ → Judged
judged_at (Some i) failure = Unclear i
judged_at None (Some i) = Fails i
judged_at None None = Holds

unfoldable pub judged_of : PlainGoal → Observation Situation → Judged
judged_of g o = judged_at (first_failure (suc (last o)) (λ i. not (wide_at g o i))) (first_failure (suc (last o)) (goal_from g o))

abbrev pub all_judged : Observation Situation → List PlainStep → List Judged
all_judged o steps = map (λ s. judged_of s.goal o) steps
