use Rattle.std.proofs.Common.{◌∙◌}
use Rattle.st_program.proofs.Lookups.{apart-left, new-apart, new-keeps, new-labels}
use Rattle.st_program.proofs.names.NameTable.new.Goals as goal

pub filled-requires : goal.filled-requires
filled-requires c = apart-left _ _ c.requires.apart

pub filled-requires-2 : goal.filled-requires-2
filled-requires-2 c = new-apart _ c.args.labels.items _ c.in_ok-placed.ensures c.requires.apart

pub invariant_of-result : goal.invariant_of-result
invariant_of-result c = new-keeps _ _ c.args.labels.items _ _ c.in_ok-variables.ensures c.in_ok-labels.ensures c.in_ok-placed.ensures c.requires.apart c.requires.few

pub returns-clause-labels : goal.returns-clause-labels
returns-clause-labels c = new-labels c.args.labels.items _ (c.in_ok-labels.ensures ∙ c.in_ok-placed.ensures)
