-- The beginnings of an infinite run of a program are runs of it, and what holds on all runs holds along it.
use Rattle.std.proofs.Common.{ℕ, zero, suc, map}
use Rattle.st_form.specs.Formula.{Formula, Situation}
use Rattle.st_form.specs.declared.conditions.TransName.{TransName}
use Rattle.st_program.specs.Tree.{Processes}
use Rattle.spl_semantics.specs.Runs.{State, Leads, Follows, AreSeen, IsRunOf}
use Rattle.temporal_goals.specs.Texts.{PlainGoal, invariant, waiting, response}
use Rattle.temporal_goals.specs.Meaning.{test_of, number_of, GoalHolds}
use Rattle.fair_computations.specs.Computations.{Computation, steps_from, beginning}
use Rattle.fair_computations.specs.Fair.{IsFair, IsFairClassically}
use Rattle.fair_computations.proofs.Fairly as Fairly
use Rattle.fair_computations.proofs.Levels as Levels
use Rattle.fair_runs.specs.Programs.{steps_along, IsComputationOf}
use Rattle.fair_runs.specs.Goals.{HoldsAlong, HoldsEventually}

run_follows : (p : Processes) (state : ℕ → State) (name : ℕ → TransName) → ((k : ℕ) → Leads p (state k) (name k) (state (suc k))) → (n k : ℕ) → Follows p (state k) (steps_along state name k n)
run_follows p state name leads zero k = tt
run_follows p state name leads (suc n) k = (leads k, run_follows p state name leads n (suc k))

module _ (p : Processes) (initial : Formula) (c : Computation Situation) (run : IsComputationOf p initial c) where
  run_seen : (n k : ℕ) → AreSeen p (steps_along run.state run.name k n) (steps_from c k n)
  run_seen zero k = tt
  run_seen (suc n) k = (run.name_is k, run.seen (suc k), run_seen n (suc k))

  pub beginnings : (n : ℕ) → IsRunOf p initial (beginning c n)
  beginnings n = record {
    state = run.state 0;
    later = steps_along run.state run.name 0 n;
    first = run.first;
    follow = run_follows p run.state run.name run.leads n 0;
    seen = record { fairness_is = run.fairness_is; first_seen = run.seen 0; steps_seen = run_seen n 0 };
  }

pub along : (goal : PlainGoal) (c : Computation Situation) → ((n : ℕ) → GoalHolds goal (beginning c n)) → IsFair c → HoldsAlong goal c.state
along (invariant p) c holds fair = Fairly.invariance c (test_of p) holds
along (waiting p forms) c holds fair = Levels.waiting (test_of p) (map test_of forms) c holds
along (response p q bound) c holds fair = Fairly.response c (test_of p) (test_of q) (number_of bound) holds fair

pub eventually : (goal : PlainGoal) (c : Computation Situation) → ((n : ℕ) → GoalHolds goal (beginning c n)) → IsFairClassically c → HoldsEventually goal c.state
eventually (invariant p) c holds fair = Fairly.invariance c (test_of p) holds
eventually (waiting p forms) c holds fair = Levels.waiting (test_of p) (map test_of forms) c holds
eventually (response p q bound) c holds fair = Fairly.eventually c (test_of p) (test_of q) (number_of bound) holds fair
