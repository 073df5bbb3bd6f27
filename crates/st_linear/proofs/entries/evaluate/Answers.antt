use Rattle.std.proofs.Common.{◌∙◌, sym, arith}
use Rattle.st_linear.proofs.Replacing.{narrow-some, AllBelow-at, evaluated-more, to_z-narrow}
use Rattle.st_linear.proofs.entries.evaluate.Goals as goal

pub bounds-values-e : goal.bounds-values-e
bounds-values-e c = AllBelow-at _ _ _ c.requires.all_below (omega arith)

pub loop-e-preserved : goal.loop-e-preserved
loop-e-preserved c =
    let p = sym c.in_ok-product.ensures in
    let m = narrow-some _ _ p in
    let wide = rw m.0 at m.1 in
    let q = rw (to_z-narrow c.in_ok-product.product wide) at (sym c.in_ok-sum.ensures) in
    let n = narrow-some _ _ q in
    let narrow = rw n.0 at n.1 in
    rw (to_z-narrow c.in_ok-sum.sum narrow)
    (record { narrow = narrow; same = sym (evaluated-more c.args.values.now c.args.entries.now c.loop-e.e-index _ _ _ (omega arith) p q) ∙ c.loop-e.invariant.same })
