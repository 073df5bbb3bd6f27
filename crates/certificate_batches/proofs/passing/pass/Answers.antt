use Rattle.std.proofs.Common.{◌≡◌, ◌∙◌, ap, arith, rules, length}
use Rattle.cert_text.specs.Held.{Held}
use Rattle.certificate_batches.proofs.Unread.{header_behind, after_header}
use Rattle.certificate_batches.proofs.passing.pass.Goals as goal

pub skip-requires-clause-held : goal.skip-requires-clause-held
skip-requires-clause-held c =
    let zero_is : c.args.place ≡ 0 = search rules in
    let begins = c.requires.begins in
    let there = header_behind c.args.reader.now c.args.place begins.0 begins.1 c.args.count zero_is c.requires.number c.requires.behind begins.2 begins.3 in
    omega (arith, there.1, ap (λ (h : Held). length h.bytes) (c.trailing-place.ensures.taken ∙ there.0))

pub returns-then-place-eq0 : goal.returns-then-place-eq0
returns-then-place-eq0 c =
    let zero_is : c.args.place ≡ 0 = search rules in
    let begins = c.requires.begins in
    let there = header_behind c.args.reader.now c.args.place begins.0 begins.1 c.args.count zero_is c.requires.number c.requires.behind begins.2 begins.3 in
    after_header c.args.reader.now c.trailing-place.new.self c.skip.new.self c.args.count there.2 (c.trailing-place.ensures.taken ∙ there.0) c.skip.ensures
