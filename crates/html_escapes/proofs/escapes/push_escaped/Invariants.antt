use Rattle.std.proofs.Common.{◌≡◌, ◌++◌, drop}
use Rattle.html_escapes.specs.Escapes.{escaped}
use Rattle.html_escapes.proofs.escapes.push_escaped.Given as goal

abbrev pub invariant-loop-byte : goal.invariant-loop-byte
invariant-loop-byte l = l.out.items ++ escaped (drop l.byte-index l.text) ≡ l.initial.out.items ++ escaped l.text
