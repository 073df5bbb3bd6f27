use Rattle.std.proofs.Common.{◌≡◌, drop}
use Rattle.spl_typer.specs.Walk.{is_declared, entries}
use Rattle.spl_typer.proofs.walk.is_declared.Given as goal

abbrev pub invariant-loop-entry : goal.invariant-loop-entry
invariant-loop-entry l = is_declared l.name (entries (drop l.entry-index l.names)) ≡ is_declared l.name (entries l.names)
