use Rattle.std.proofs.Common.{◌≡◌, ◌+◌, false, drop, sym, ◌∙◌, rules}
use Rattle.cert_text.specs.Reading.{is_going, progress_view}
use Rattle.cert_text.proofs.Stopping.{stopped_after}
use Rattle.cert_text.proofs.pieces.run.Goals as goal

pub returns-then-not-is_going : goal.returns-then-not-is_going
returns-then-not-is_going c =
    let stops : is_going (progress_view c.loop-read.progress) ≡ false = search rules in
    sym (stopped_after (c.args.place + c.loop-read.read) _ (drop c.loop-read.read c.args.bytes.now) stops) ∙ c.loop-read.invariant.same
