use Rattle.std.proofs.Common.{◌≡◌, ◌+◌, ◌-◌, ◌≤◌, drop, length}
use Rattle.cert_text.specs.Reading.{progress_view, after}
use Rattle.cert_text.proofs.pieces.run.Given as goal

-- the rest of the bytes leads from here to where all of them lead
abbrev pub invariant-loop-read : goal.invariant-loop-read
invariant-loop-read l = record {
  within : l.read ≤ length l.bytes;
  same : after (l.fn.place + l.read) (progress_view l.progress) (drop l.read l.bytes) ≡ after l.fn.place (progress_view l.fn.progress) l.fn.bytes;
}

abbrev pub decreases-loop-read : goal.decreases-loop-read
decreases-loop-read l = length l.bytes - l.read
