use Rattle.std.proofs.Common.{◌≡◌, ◌+◌, drop, map}
use Rattle.shared_certificates.specs.Reading.{terms_len}
use Rattle.shared_certificates.specs.Views.{bytes_of}
use Rattle.shared_reading.proofs.trees.terms_len.Given as goal

abbrev pub invariant-loop-word : goal.invariant-loop-word
invariant-loop-word l = (l.n ≡ l.word-index) × (l.n + terms_len (map bytes_of (drop l.word-index l.words)) ≡ terms_len (map bytes_of l.words))
