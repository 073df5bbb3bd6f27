use Rattle.std.proofs.Common.{◌≡◌, ◌++◌, map, length}
use Rattle.shared_certificates.specs.Lines.{words}
use Rattle.shared_certificates.specs.Views.{IsTrimmed, bytes_of}
use Rattle.shared_reading.proofs.words.words.Given as goal

abbrev pub invariant-words : goal.invariant-words
invariant-words l = record {
  trimmed : IsTrimmed l.rest;
  same : map bytes_of l.out.items ++ words l.rest ≡ words l.line;
}

abbrev pub decreases-words : goal.decreases-words
decreases-words l = length l.rest
