use Rattle.std.proofs.Common.{◌≡◌, ◌-◌, drop, cond, length}
use Rattle.cert_text.specs.Spelling.{picks_text, more_picks_text}
use Rattle.cert_lengths.proofs.lengths.behind_picks.Given as goal

abbrev pub invariant-loop-pick : goal.invariant-loop-pick
invariant-loop-pick l = l.room - length (cond l.first (picks_text (drop l.pick-index l.picks)) (more_picks_text (drop l.pick-index l.picks))) ≡ l.fn.room - length (picks_text l.picks)
