use Rattle.std.proofs.Common.{◌≡◌, ◌-◌}
use Rattle.elimination_laws.specs.Stages.{stages}
use Rattle.row_elimination.specs.Plain.{rows}
use Rattle.row_elimination.specs.Runs.{with_uses, uses_plain}
use Rattle.row_elimination.proofs.top.all_stages.Given as goal

abbrev pub invariant-loop-v : goal.invariant-loop-v
invariant-loop-v l = with_uses (uses_plain l.uses.items) (stages (l.variables - l.v) l.v (rows l.current.items)) ≡ stages l.variables 0 (rows l.fn.lines.items)
