-- What is judged of a goal on a run is what the tests say.
use Rattle.std.proofs.Common.{◌≡◌, ℕ, suc, ◌≤◌, ◌<◌, Bool, true, false, List, [], ◌∷◌, ◌++◌, length, drop, drop-cons, get_or, append_assoc, map, arith, refl, sym, ap, ◌∙◌}
use Rattle.std.specs.Prelude.{◌↔◌, not, Option, Some, None}
use Rattle.std.specs.Bool.{Decides}
use Rattle.st_form.specs.Formula.{Situation}
use Rattle.observations.specs.Observation.{Observation, last}
use Rattle.temporal_goals.specs.Texts.{PlainGoal, invariant, waiting, response, PlainStep}
use Rattle.temporal_goals.specs.declared.scripts.Step.{Step}
use Rattle.temporal_goals.specs.Plain.{plain_step}
use Rattle.temporal_goals.specs.Meaning.{test_of, number_of, GoalHolds}
use Rattle.run_judging.specs.Judging.{IsFirstFailure}
use Rattle.run_judging.specs.declared.judged.Judged.{Judged}
use Rattle.run_judging.specs.declared.judged.Judged.TheVariants.{Holds, Fails, Unclear}
use Rattle.judging_laws.specs.Searching.{first_failure}
use Rattle.judging_laws.proofs.Searching.{first-failure}
use Rattle.judging_laws.proofs.Sentences.{holds-decides, waiting-decides, response-decides}
use Rattle.trace_player.specs.Judgements.{wide_at, GoalFrom, JudgedOn}
use Rattle.step_run.specs.Judged.{goal_from, judged_at, judged_of, all_judged}
use Rattle.step_run.specs.Headline.{AreJudged}

goal_decides : (g : PlainGoal) (o : Observation Situation) (i : ℕ) → i ≤ last o → Decides (goal_from g o i) (GoalFrom g o i)
goal_decides (invariant p) o i within = holds-decides (test_of p) o i
goal_decides (waiting p forms) o i within = waiting-decides (test_of p) (map test_of forms) o i within
goal_decides (response p q bound) o i within = response-decides (test_of p) (test_of q) (number_of bound) o i

from_each : (g : PlainGoal) (o : Observation Situation) → ((i : ℕ) → i ≤ last o → GoalFrom g o i) → GoalHolds g o
from_each (invariant p) o h = h
from_each (waiting p forms) o h = h
from_each (response p q bound) o h = h

from_all : (g : PlainGoal) (o : Observation Situation) → GoalHolds g o → (i : ℕ) → i ≤ last o → GoalFrom g o i
from_all (invariant p) o h = h
from_all (waiting p forms) o h = h
from_all (response p q bound) o h = h

not_decides : (b : Bool) → Decides (not b) (b ≡ false)
not_decides true = (λ e. cc, λ e. cc)
not_decides false = (λ _. refl, λ _. refl)

true_not : (b : Bool) → (b ≡ false → ⊥) → b ≡ true
true_not true h = refl
true_not false h = absurd (h refl)

module _ (g : PlainGoal) (o : Observation Situation) where
  abbrev first_wide : Option ℕ
  first_wide = first_failure (suc (last o)) (λ i. not (wide_at g o i))

  abbrev first_failing : Option ℕ
  first_failing = first_failure (suc (last o)) (goal_from g o)

  wide_first : (failure : Option ℕ) → IsFirstFailure (suc (last o)) (λ i. wide_at g o i ≡ false) failure ↔ (failure ≡ first_wide)
  wide_first failure = first-failure (suc (last o)) (λ i. not (wide_at g o i)) (λ i. wide_at g o i ≡ false) (λ i _. not_decides (wide_at g o i)) failure

  goal_first : (failure : Option ℕ) → IsFirstFailure (suc (last o)) (GoalFrom g o) failure ↔ (failure ≡ first_failing)
  goal_first failure = first-failure (suc (last o)) (goal_from g o) (GoalFrom g o) (λ i below. goal_decides g o i (omega arith)) failure

  judged_so : (wide failing : Option ℕ) → IsFirstFailure (suc (last o)) (λ i. wide_at g o i ≡ false) wide → IsFirstFailure (suc (last o)) (GoalFrom g o) failing → JudgedOn g o (judged_at wide failing)
  judged_so (Some i) failing w f = (let below = w.0 in omega arith, true_not (wide_at g o i) w.1, w.2)
  judged_so None (Some i) w f = (λ j within. w j (omega arith), (let below = f.0 in omega arith), f.1, f.2)
  judged_so None None w f = (λ j within. w j (omega arith), from_each g o (λ j within. f j (omega arith)))

  -- the judgement by tests is one in the words of goals
  pub judged_on : JudgedOn g o (judged_of g o)
  unfolding judged_of
  judged_on = judged_so first_wide first_failing ((wide_first first_wide).1 refl) ((goal_first first_failing).1 refl)

  -- and it is the only one
  by_firsts : (wide failing : Option ℕ) → IsFirstFailure (suc (last o)) (λ i. wide_at g o i ≡ false) wide → IsFirstFailure (suc (last o)) (GoalFrom g o) failing → judged_at wide failing ≡ judged_of g o
  unfolding judged_of
  by_firsts wide failing w f = ap (λ x. judged_at x failing) ((wide_first wide).0 w) ∙ ap (judged_at first_wide) ((goal_first failing).0 f)

  by_wide : (i : ℕ) → IsFirstFailure (suc (last o)) (λ j. wide_at g o j ≡ false) (Some i) → Unclear i ≡ judged_of g o
  unfolding judged_of
  by_wide i w = ap (λ x. judged_at x first_failing) ((wide_first (Some i)).0 w)

  false_not : (b : Bool) → b ≡ true → b ≡ false → ⊥
  false_not b t f = (let no : true ≡ false = sym t ∙ f in cc)

  pub judged_is : (j : Judged) → JudgedOn g o j → j ≡ judged_of g o
  judged_is Holds h = by_firsts None None (λ i below. h.0 i (omega arith)) (λ i below. from_all g o h.1 i (omega arith))
  judged_is (Fails i) h = let within = h.1 in by_firsts None (Some i) (λ j below. h.0 j (omega arith)) (omega arith, h.2, h.3)
  judged_is (Unclear i) h = let within = h.0 in by_wide i (omega arith, false_not (wide_at g o i) h.1, h.2)

pub are_judged : (o : Observation Situation) (steps : List PlainStep) → AreJudged o steps (all_judged o steps)
are_judged o [] = refl
are_judged o (s ∷ ss) = (judged_on s.goal o, are_judged o ss)

-- one more step, judged
pub judged_more : (o : Observation Situation) (done : List Judged) (j : Judged) (steps : List Step) (i next : ℕ) (step : Step) (whole : List Judged) → next ≡ suc i → i < length steps → step ≡ get_or steps i step → j ≡ judged_of (plain_step step).goal o
    → done ++ all_judged o (map plain_step (drop i steps)) ≡ whole → (done ++ j ∷ []) ++ all_judged o (map plain_step (drop next steps)) ≡ whole
judged_more o done j steps i next step whole one below is judged all =
    ap (λ n. (done ++ j ∷ []) ++ all_judged o (map plain_step (drop n steps))) one
    ∙ append_assoc done (j ∷ []) (all_judged o (map plain_step (drop (suc i) steps)))
    ∙ ap (λ x. done ++ x ∷ all_judged o (map plain_step (drop (suc i) steps))) judged
    ∙ ap (λ s. done ++ judged_of (plain_step s).goal o ∷ all_judged o (map plain_step (drop (suc i) steps))) is
    ∙ ap (λ l. done ++ all_judged o (map plain_step l)) (sym (drop-cons steps i step below))
    ∙ all
