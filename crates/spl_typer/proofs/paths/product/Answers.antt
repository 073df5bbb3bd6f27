use Rattle.std.proofs.Common.{arith}
use Rattle.spl_typer.proofs.Products.{product-step}
use Rattle.spl_typer.proofs.paths.product.Goals as goal

pub loop-path-preserved : goal.loop-path-preserved
loop-path-preserved c =
    product-step c.args.paths.now c.args.further.now c.loop-path.out.items c.in_ok-longer.longer.items _ c.loop-path.path-index _ _ _
    (omega arith) c.path-item.is c.deref.ensures.value c.in_ok-longer.ensures c.in_ok-append.ensures.items c.loop-path.invariant
