use Rattle.std.proofs.Common.{arith, ap, ◌∙◌, ◌≡◌, ◌^◌, length}
use Rattle.lean_elimination.specs.Arenas.{tracks, row_at}
use Rattle.lean_elimination.proofs.Growing.{row-is}
use Rattle.lean_elimination.proofs.Narrowing.{to_z-narrow}
use Rattle.lean_elimination.proofs.Answering.{answer-turned, answer-same, if_ok}
use Rattle.std.proofs.lemmas.Bool.Decides.{nat_tests}
use Rattle.lean_elimination.proofs.top.answer.Goals as goal

pub returns-then-index-gt0 : goal.returns-then-index-gt0
returns-then-index-gt0 c =
    let rs = c.args.arena.now.rows.items in
    let r = c.index.result.now in
    let l : c.len.result ≡ length rs = c.len.ensures ∙ c.args.arena.now.rows.ok.0 in
    let e = row-is rs c.args.k r (grind (arith, nat_tests, l)) c.index.ensures in
    let z = to_z-narrow (2 ^ 62) r.constant (omega arith) r.constant_within in
    let k = ap (λ t. t.form.constant) e in
    if_ok c.turned_copy.result _ _ (λ v h ps j. h ∙ answer-turned (row_at (tracks rs) c.args.k) ps j (rw (z, ← k) at c.if-index-gt0.true)) (rw (c.as_slice.ensures, c.in_ok-picks.ensures) at c.turned_copy.ensures)

pub returns : goal.returns
returns c =
    let rs = c.args.arena.now.rows.items in
    let r = c.index.result.now in
    let l : c.len.result ≡ length rs = c.len.ensures ∙ c.args.arena.now.rows.ok.0 in
    let e = row-is rs c.args.k r (grind (arith, nat_tests, l)) c.index.ensures in
    let z = to_z-narrow (2 ^ 62) r.constant (omega arith) r.constant_within in
    let k = ap (λ t. t.form.constant) e in
    if_ok c.copy.result _ _ (λ v h ps j. h ∙ answer-same (row_at (tracks rs) c.args.k) ps j (rw (z, ← k) at c.if-index-gt0.false)) (rw (c.as_slice-else-index-gt0.ensures, c.in_ok-picks.ensures) at c.copy.ensures)
