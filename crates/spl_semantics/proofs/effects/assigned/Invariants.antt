use Rattle.std.proofs.Common.{drop}
use Rattle.st_program.specs.Plain.{plain_targets}
use Rattle.spl_semantics.specs.Data.{types, TargetsMeet}
use Rattle.spl_semantics.proofs.Assigning.{Assigns}
use Rattle.spl_semantics.proofs.effects.assigned.Given as goal

abbrev pub invariant-loop-target : goal.invariant-loop-target
invariant-loop-target l = TargetsMeet (types l.store) (plain_targets l.targets) → Assigns l.store l.after.items (plain_targets (drop l.target-index l.targets)) (plain_targets l.targets)
