use Rattle.std.proofs.Common.{◌≡◌, ◌+◌, ◌-◌, OnOk, drop, take, length, subst, ap, ◌∙◌}
use Rattle.cert_text.specs.Reading.{State, progress_view, after, start}
use Rattle.cert_text.proofs.Lasts.{read_on_from}
use Rattle.cert_text.proofs.reader.read_on.Goals as goal

pub returns : goal.returns
returns c =
    let a = c.args in
    let s = start a.number a.second in
    let bs = a.bytes.now in
    let same = ap (λ p. after (a.place + (a.scanned - a.taken)) p (take (length bs - a.scanned) (drop a.scanned bs))) c.requires.followed in
    subst (λ (t : State). OnOk c.run.result (progress_view c.run.new.progress ≡ t)) (same ∙ read_on_from a.place a.taken a.scanned s bs c.requires.taken c.requires.scanned) c.run.ensures
