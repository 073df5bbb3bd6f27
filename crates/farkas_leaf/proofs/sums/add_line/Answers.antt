use Rattle.std.proofs.Common.{rules}
use Rattle.farkas_leaf.proofs.Products.{product-size}
use Rattle.farkas_leaf.proofs.Coefficients.{coefficient-slim}
use Rattle.farkas_leaf.proofs.sums.add_line.Goals as goal

pub returns-clause-kept : goal.returns-clause-kept
returns-clause-kept g c = search rules

pub returns-clause-size : goal.returns-clause-size
returns-clause-size g c v = product-size _ (g.M.Multiplier.signed c.args.by) (coefficient-slim v (g.L.Constraint.line c.args.line.now).form.entries (returns-clause-kept g c) c.requires.slim.entries) c.requires.by_small
