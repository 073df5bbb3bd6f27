use Rattle.std.proofs.Common.{◌≡◌, drop, map, []}
use Rattle.std.specs.String.{string_bytes}
use Rattle.spl_typer.specs.Walk.{entries}
use Rattle.spl_typer.specs.Programs.{labels_of}
use Rattle.spl_typer.proofs.names.labels_of.Given as goal

abbrev pub invariant-loop-entry : goal.invariant-loop-entry
invariant-loop-entry l =
    labels_of (map (λ x. (string_bytes x.0, (x.1, x.2))) l.out.items) (entries (drop l.entry-index l.names)) ≡ labels_of [] (entries l.names)
