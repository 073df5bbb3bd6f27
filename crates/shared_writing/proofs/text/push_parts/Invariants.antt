use Rattle.std.proofs.Common.{◌≡◌, ◌++◌, drop, map}
use Rattle.shared_certificates.specs.Grammar.{number_word}
use Rattle.shared_writing.specs.Writing.{spaced}
use Rattle.shared_writing.proofs.text.push_parts.Given as goal

abbrev pub invariant-loop-part : goal.invariant-loop-part
invariant-loop-part l = l.out.items ++ spaced (map number_word (drop l.part-index l.parts)) ≡ l.fn.out.items ++ spaced (map number_word l.parts)
