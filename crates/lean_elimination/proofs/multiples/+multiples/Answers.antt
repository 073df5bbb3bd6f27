use Rattle.std.proofs.Common.{arith, refl, ◌∙◌, ◌≡◌, ◌^◌, length}
use Rattle.lean_elimination.proofs.Answering.{picks-input, picks-sum, if_ok, mix-same}
use Rattle.std.proofs.lemmas.Bool.Decides.{nat_tests}
use Rattle.lean_elimination.proofs.multiples.+multiples.Goals as goal

pub returns-in_ok-push-in-Input : goal.returns-in_ok-push-in-Input
returns-in_ok-push-in-Input n c = rw (c.in_ok-push-in-Input.ensures.ok, c.new-picks.ensures.items) (picks-input c.args.arena.now.rows.items c.args.k c.in-Input.number c.index.result.now (let l : c.len.result ≡ length c.args.arena.now.rows.items = c.len.ensures ∙ c.args.arena.now.rows.ok.0 in grind (arith, nat_tests, l)) c.index.ensures c.in-Input.is)

pub returns-in_ok-second-in-Sum : goal.returns-in_ok-second-in-Sum
returns-in_ok-second-in-Sum n c =
    let l : c.len.result ≡ length c.args.arena.now.rows.items = c.len.ensures ∙ c.args.arena.now.rows.ok.0 in
    let p = c.in-Sum.parts in
    if_ok c.mix_entries.result _ _ (λ v m. picks-sum c.args.arena.now.rows.items c.args.k p c.index.result.now v.items (grind (arith, nat_tests, l)) c.index.ensures c.in-Sum.is (omega arith) (omega arith)
    (mix-same (2 ^ 40) p.x p.x p.y p.y _ _ _ _ v.items refl refl (c.as_slice.ensures ∙ c.in_ok-first-in-Sum.ensures) (c.as_slice-in-Sum.ensures ∙ c.in_ok-second-in-Sum.ensures) m)) c.mix_entries.ensures
