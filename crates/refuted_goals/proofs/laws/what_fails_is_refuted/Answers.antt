use Rattle.refuted_goals.proofs.laws.what_fails_is_refuted.Goals as goal

pub returns : goal.returns
returns c = λ program proof schedule r. record {
  typed = r.typed;
  is_program = r.is_program;
  steps = r.steps;
  is_proof = r.is_proof;
  goal = r.fails.fails.goal;
  is_last = r.fails.fails.is_last;
  refuted = λ holds. (
      let run = r.fails.run in
      c.proved_goals_never_fail.ensures.fails r.typed.processes r.typed.initial r.fails.fails.goal holds r.fails.seen
      (record { state = _; later = run.later; first = run.first; follow = run.run.follow; seen = run.seen })
      r.fails.fails.fails
      );
}
