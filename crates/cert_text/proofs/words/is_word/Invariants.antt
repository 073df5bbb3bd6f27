use Rattle.std.proofs.Common.{◌≡◌, drop, length}
use Rattle.std.specs.Str.{bytes_eq}
use Rattle.cert_text.proofs.words.is_word.Given as goal

abbrev pub invariant-loop-i : goal.invariant-loop-i
invariant-loop-i l = record {
  same : bytes_eq (drop l.i l.letters) (drop l.i l.word) ≡ bytes_eq l.letters l.word;
  long : length l.letters ≡ length l.word;
}
