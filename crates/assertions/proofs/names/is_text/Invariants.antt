use Rattle.std.proofs.Common.{◌≡◌, drop}
use Rattle.expression_typer.specs.Naming.{is_text}
use Rattle.assertions.proofs.names.is_text.Given as goal

abbrev pub invariant-loop-byte : goal.invariant-loop-byte
invariant-loop-byte l = is_text (drop l.byte-index l.name) ≡ is_text l.name
