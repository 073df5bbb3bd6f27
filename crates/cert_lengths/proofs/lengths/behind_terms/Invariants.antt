use Rattle.std.proofs.Common.{◌≡◌, ◌-◌, drop, cond, length}
use Rattle.cert_text.specs.Spelling.{terms_text, more_terms_text}
use Rattle.cert_lengths.proofs.lengths.behind_terms.Given as goal

abbrev pub invariant-loop-term : goal.invariant-loop-term
invariant-loop-term l = l.room - length (cond l.first (terms_text (drop l.term-index l.terms)) (more_terms_text (drop l.term-index l.terms))) ≡ l.fn.room - length (terms_text l.terms)
