use Rattle.farkas_leaf.proofs.Products.{product-size, product-same}
use Rattle.farkas_leaf.proofs.window.product.Goals as goal

pub returns-clause-value : goal.returns-clause-value
returns-clause-value c = product-same c.args.number.now c.args.by.now c.requires.slim c.requires.by_small

pub returns-clause-size : goal.returns-clause-size
returns-clause-size c = rw (returns-clause-value c) (product-size c.args.number.now c.args.by.now c.requires.slim c.requires.by_small)
