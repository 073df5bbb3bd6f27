use Rattle.std.proofs.Common.{rules, ◌≡◌, ◌+◌, ◌∙◌, ap, sym, true, drop}
use Rattle.cert_text.specs.Control.{give}
use Rattle.cert_text.specs.Tree.{built_view}
use Rattle.cert_text.specs.Reading.{progress_view, going, idle, after, token_taken}
use Rattle.cert_text.specs.Fronts.{takes_numbers}
use Rattle.cert_text.specs.declared.scan.Token.TheVariants as tokens
use Rattle.cert_text.proofs.NumberRuns.{number_in_front}
use Rattle.cert_text.proofs.Standing.{stands_idle}
use Rattle.cert_text.proofs.whole_tokens.read_number.Goals as goal

pub returns-then-digits-bytes-clause-leads : goal.returns-then-digits-bytes-clause-leads
returns-then-digits-bytes-clause-leads c =
    let p = c.args.progress.now in
    let bs = c.args.bytes.now in
    let at = c.args.place in
    let k = c.number-value.result.1 in
    let value = c.number-value.result.0 in
    let old : progress_view p ≡ going p.scan (built_view p.building) idle = stands_idle p c.requires.idle c.requires.going in
    let new : progress_view c.take_number.new.progress ≡ token_taken at (at + k) (give p.scan (tokens.Number value)) (built_view p.building) = search rules in
    let fits : takes_numbers p.scan.want ≡ true = search rules in
    ap (λ s. after (at + k) s (drop k bs)) new
    ∙ number_in_front at k value p.scan (built_view p.building) bs fits c.number-value.ensures.len c.number-value.ensures.value (search rules) (search rules)
    ∙ ap (λ s. after at s bs) (sym old)
