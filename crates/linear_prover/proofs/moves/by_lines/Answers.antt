use Rattle.std.proofs.Common.{length}
use Rattle.linear_prover.specs.Plain.{plain_each}
use Rattle.linear_prover.proofs.Leaves.{lines-within, lines-below}
use Rattle.linear_prover.proofs.moves.by_lines.Goals as goal

pub by_elimination-requires-clause-within : goal.by_elimination-requires-clause-within
by_elimination-requires-clause-within c = rw (c.as_slice-in-None-2.ensures.value, c.in_ok-own-in-None.ensures, c.as_slice-in-None.ensures.value, c.in_ok-lines.ensures) (lines-within (plain_each c.args.fs.now) c.requires.ready.settled)

pub by_elimination-requires-clause-below : goal.by_elimination-requires-clause-below
by_elimination-requires-clause-below c = rw (c.as_slice-in-None-2.ensures.value, c.in_ok-own-in-None.ensures, c.as_slice-in-None.ensures.value, c.in_ok-lines.ensures) (lines-below (length c.args.variables.now) (plain_each c.args.fs.now) c.requires.ready)

pub returns-clause-applies : goal.returns-clause-applies
returns-clause-applies c = c.by_elimination.ensures.applies c.args.fs.now
