use Rattle.std.proofs.Common.{◌≡◌, ◌+◌, ◌∙◌, ap, sym, drop}
use Rattle.cert_text.specs.Tree.{built_view}
use Rattle.cert_text.specs.Reading.{progress_view, going, idle, after}
use Rattle.cert_text.proofs.Lasts.{read_behind}
use Rattle.cert_text.proofs.NumberRuns.{blanks_in_front}
use Rattle.cert_text.proofs.Standing.{stands_idle}
use Rattle.cert_text.proofs.pieces.read_on.Goals as goal

pub returns-then-blanks-bytes-clause-leads : goal.returns-then-blanks-bytes-clause-leads
returns-then-blanks-bytes-clause-leads c =
    let p = c.args.progress.now in
    let bs = c.args.bytes.now in
    let at = c.args.place in
    let k = c.blank_len-blanks.result in
    let old : progress_view p ≡ going p.scan (built_view p.building) idle = stands_idle p c.requires.idle c.requires.going in
    ap (λ s. after (at + k) s (drop k bs)) old
    ∙ blanks_in_front at k p.scan (built_view p.building) bs c.blank_len-blanks.ensures.len
    ∙ ap (λ s. after at s bs) (sym old)

pub returns-clause-leads : goal.returns-clause-leads
returns-clause-leads c =
    let p = c.args.progress.now in
    let bs = c.args.bytes.now in
    let at = c.args.place in
    let k = c.blank_len-blanks.result in
    let old : progress_view p ≡ going p.scan (built_view p.building) idle = stands_idle p c.requires.idle c.requires.going in
    read_behind at k c.in_ok-token.token (progress_view p) (progress_view c.read_token.new.progress) bs c.blank_len-blanks.ensures.within c.in_ok-token.ensures.leads
    ∙ ap (λ s. after (at + k) s (drop k bs)) old
    ∙ blanks_in_front at k p.scan (built_view p.building) bs c.blank_len-blanks.ensures.len
    ∙ ap (λ s. after at s bs) (sym old)
