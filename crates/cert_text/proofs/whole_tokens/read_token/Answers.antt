use Rattle.std.proofs.Common.{rules, ◌≡◌, ◌+◌, ◌∙◌, ap, sym, take, drop}
use Rattle.cert_text.specs.Control.{word_of}
use Rattle.cert_text.specs.Tree.{built_view}
use Rattle.cert_text.specs.Reading.{progress_view, going, idle, after, word_ended}
use Rattle.cert_text.proofs.WordRuns.{word_in_front}
use Rattle.cert_text.proofs.Standing.{stands_idle}
use Rattle.cert_text.proofs.whole_tokens.read_token.Goals as goal

pub returns-then-letters-bytes-clause-leads : goal.returns-then-letters-bytes-clause-leads
returns-then-letters-bytes-clause-leads c =
    let p = c.args.progress.now in
    let bs = c.args.bytes.now in
    let at = c.args.place in
    let k = c.letter_len-letters.result in
    let old : progress_view p ≡ going p.scan (built_view p.building) idle = stands_idle p c.requires.idle c.requires.going in
    let new : progress_view c.end_word.new.progress ≡ word_ended at (at + k) p.scan (built_view p.building) (word_of (take k bs)) = search rules in
    ap (λ s. after (at + k) s (drop k bs)) new
    ∙ word_in_front at k p.scan (built_view p.building) bs c.letter_len-letters.ensures.len (search rules) (search rules)
    ∙ ap (λ s. after at s bs) (sym old)
