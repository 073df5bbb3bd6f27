use Rattle.std.proofs.Common.{◌∙◌, ◌≡◌, length}
use Rattle.lean_elimination.proofs.Bounds.{bounded-if}
use Rattle.lean_elimination.proofs.Growing.{made-push}
use Rattle.lean_elimination.proofs.adding.add.Goals as goal

pub invariant_of-arena : goal.invariant_of-arena
invariant_of-arena c = record { bounded = bounded-if _ c.args.arena.now.rows.items c.push.new.self.items c.args.row c.push.ensures.items c.args.arena.now.bounded c.requires }

pub returns : goal.returns
returns c =
    let rs = c.args.arena.now.rows.items in
    let r = c.args.row in
    let n : c.len-made.result ≡ length rs = c.len-made.ensures ∙ c.args.arena.now.rows.ok.0 in
    rw (c.in_ok-push.ensures.items, n) (made-push rs r)
