use Rattle.std.proofs.Common.{◌≡◌, ◌++◌, drop, map}
use Rattle.shared_certificates.specs.Grammar.{pick_word}
use Rattle.shared_writing.specs.Writing.{spaced}
use Rattle.shared_writing.proofs.text.push_picks.Given as goal

abbrev pub invariant-loop-pick : goal.invariant-loop-pick
invariant-loop-pick l = l.out.items ++ spaced (map pick_word (drop l.pick-index l.picks)) ≡ l.fn.out.items ++ spaced (map pick_word l.picks)
