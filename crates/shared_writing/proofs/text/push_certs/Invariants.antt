use Rattle.std.proofs.Common.{◌≡◌, ◌++◌, drop}
use Rattle.shared_writing.specs.Writing.{cert_lines}
use Rattle.shared_writing.proofs.text.push_certs.Given as goal

abbrev pub invariant-loop-i : goal.invariant-loop-i
invariant-loop-i l = l.out.items ++ cert_lines l.i (drop l.i l.roots) ≡ l.fn.out.items ++ cert_lines 0 l.roots
