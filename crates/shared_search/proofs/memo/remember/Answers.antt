use Rattle.std.proofs.Common.{◌≡◌, refl, arith}
use Rattle.shared_search.proofs.Knowing.{holds-first}
use Rattle.shared_search.proofs.memo.remember.Goals as goal

pub returns-then-key-eq0 : goal.returns-then-key-eq0
returns-then-key-eq0 c =
    let first : c.args.key.context ≡ 0 = omega (arith, c.if-key-eq0.true) in
    λ k ts us cs h i t. holds-first k ts us cs c.args.found.now _ c.args.key c.args.tree first refl c.keep_first.ensures h i t
