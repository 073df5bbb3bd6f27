use Rattle.possible_moves.proofs.reaching.run.Goals as goal

pub returns-in-Ok : goal.returns-in-Ok
returns-in-Ok c =
    let answer = c.in-Ok.ensures.answers in
    record { begins = answer.0; later = answer.1.0; plays = answer.1.1; states = answer.1.2.states }
