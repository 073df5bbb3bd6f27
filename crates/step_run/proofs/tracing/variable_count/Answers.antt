use Rattle.std.proofs.Common.{arith}
use Rattle.step_run.specs.Views.{source_view}
use Rattle.step_run.proofs.Readied.{all_named}
use Rattle.step_run.proofs.tracing.variable_count.Goals as goal

pub returns : goal.returns
returns c = let named = all_named (source_view c.args.source.now) c.requires in first_of (omega (arith, named), cc named, grind (arith, named))
