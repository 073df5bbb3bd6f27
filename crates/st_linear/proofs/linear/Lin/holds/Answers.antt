use Rattle.std.proofs.Common.{rules}
use Rattle.st_linear.proofs.Joins.{to_z-small}
use Rattle.st_linear.proofs.Replacing.{small-not_wide, sign-evaluated}
use Rattle.st_linear.proofs.linear.Lin.holds.Goals as goal

pub evaluate-requires-clause-narrow : goal.evaluate-requires-clause-narrow
evaluate-requires-clause-narrow c = rw (to_z-small c.self.inside.constant c.self.invariant.constant_small) (small-not_wide _ c.self.invariant.constant_small)

pub returns-clause-exact : goal.returns-clause-exact
returns-clause-exact c = search rules

pub returns-clause-value : goal.returns-clause-value
returns-clause-value c = rw (returns-clause-exact c) (sign-evaluated c.args.values.now c.args.self.now)
