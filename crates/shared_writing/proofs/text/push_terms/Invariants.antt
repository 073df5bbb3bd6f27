use Rattle.std.proofs.Common.{◌≡◌, ◌++◌, drop, map}
use Rattle.shared_certificates.specs.Grammar.{term_word}
use Rattle.shared_writing.specs.Writing.{spaced}
use Rattle.shared_writing.proofs.text.push_terms.Given as goal

abbrev pub invariant-loop-term : goal.invariant-loop-term
invariant-loop-term l = l.out.items ++ spaced (map term_word (drop l.term-index l.terms)) ≡ l.fn.out.items ++ spaced (map term_word l.terms)
