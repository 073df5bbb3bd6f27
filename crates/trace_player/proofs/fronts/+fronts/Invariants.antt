use Rattle.std.proofs.Common.{◌≡◌, ◌++◌}
use Rattle.st_program.specs.Plain.{plain_children}
use Rattle.st_program.specs.Residuals.{plain_residuals}
use Rattle.spl_semantics.specs.Control.{fronts}
use Rattle.trace_player.proofs.Controls.{fronts_from}
use Rattle.trace_player.proofs.fronts.+fronts.Given as goal

abbrev pub invariant-push_fronts-loop-place : goal.invariant-push_fronts-loop-place
invariant-push_fronts-loop-place l =
    l.locations.items ++ fronts_from (plain_children l.program.processes) l.residuals l.children l.place
    ≡ l.fn.locations.items ++ fronts (plain_residuals l.residuals) (plain_children l.program.processes) (plain_children l.children)
