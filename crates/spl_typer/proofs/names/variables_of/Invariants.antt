use Rattle.std.proofs.Common.{◌≡◌, drop, map, []}
use Rattle.std.specs.String.{string_bytes}
use Rattle.spl_typer.specs.Walk.{entries}
use Rattle.spl_typer.specs.Programs.{variables_of}
use Rattle.spl_typer.proofs.names.variables_of.Given as goal

abbrev pub invariant-loop-entry : goal.invariant-loop-entry
invariant-loop-entry l =
    variables_of (map (λ x. (string_bytes x.0, x.1)) l.out.items) (entries (drop l.entry-index l.names)) ≡ variables_of [] (entries l.names)
