-- A response is met: the run goes on to as many rounds as its bound allows, and by their end its target has come.
use Rattle.std.proofs.Common.{◌≡◌, ℕ, zero, suc, ◌≤◌, ◌++◌, length, IsTrue, arith, sym, subst}
use Rattle.st_form.specs.Formula.{Formula, Situation}
use Rattle.observations.specs.Observation.{Observation, state_at, last}
use Rattle.observations.specs.Rounds.{Rounds}
use Rattle.observations.specs.Goals.{HoldsAt, at_least_zero}
use Rattle.st_linear.specs.Linear.{Linear}
use Rattle.st_program.specs.Tree.{Processes}
use Rattle.st_program.specs.Programs.{WellFormed}
use Rattle.spl_semantics.proofs.RunsGoOn.{runs_go_on}
use Rattle.temporal_goals.specs.Texts.{PlainGoal, invariant, waiting, response}
use Rattle.temporal_goals.specs.Meaning.{test_of, number_of}
use Rattle.obligation_laws.specs.Obligations.{HoldsOnRuns}
use Rattle.fair_runs.specs.Meeting.{CanCome, IsMet}
use Rattle.fair_runs.proofs.Seen.{seen_length, same_state}

module _ (p : Processes) (initial : Formula) (well : WellFormed p) where
  pub can_come : (f g : Formula) (bound : Linear) → HoldsOnRuns p initial (response f g bound) → CanCome p initial (test_of f) (test_of g)
  can_come f g bound holds s later o is_first follows seen_of i within owed =
      let n : ℕ = at_least_zero (number_of bound (state_at o i)) in
      let on = runs_go_on p initial well s later n is_first follows in
      let long = seen_length p later o.later seen_of.steps_seen in
      let longer = seen_length p (later ++ on.more) on.seen.later on.seen_of.steps_seen in
      let same : state_at o i ≡ state_at on.seen i =
      same_state p s later on.more o.first on.seen.first o.later on.seen.later i seen_of.first_seen on.seen_of.first_seen seen_of.steps_seen on.seen_of.steps_seen (omega arith) in
      let there : HoldsAt (test_of f) on.seen i = subst (λ x. IsTrue (test_of f x)) same owed in
      let rounds : Rounds on.seen (at_least_zero (number_of bound (state_at on.seen i))) on.begin (last on.seen) =
      subst (λ x. Rounds on.seen (at_least_zero (number_of bound x)) on.begin (last on.seen)) same (subst (λ z. Rounds on.seen n on.begin z) (sym longer) on.rounds) in
      let behind = on.behind in
      let up = up_to on.seen n on.begin (length (later ++ on.more)) on.rounds in
      record {
        more = on.more;
        follow = on.follow;
        seen = on.seen;
        seen_of = on.seen_of;
        comes =
            holds on.seen (record { state = s; later = later ++ on.more; first = is_first; follow = on.follow; seen = on.seen_of })
            i (omega arith) there on.begin (last on.seen) (omega arith) (omega arith) rounds;
      }
    where
      up_to : (o : Observation Situation) (n k l : ℕ) → Rounds o n k l → k ≤ l
      up_to o zero k l same = omega (arith, same)
      up_to o (suc n) k l rounds = let ahead = rounds.1.ahead in let rest = up_to o n rounds.0 l rounds.2 in omega arith

  pub met : (goal : PlainGoal) → HoldsOnRuns p initial goal → IsMet p initial goal
  met (invariant f) holds = tt
  met (waiting f forms) holds = tt
  met (response f g bound) holds = can_come f g bound holds
