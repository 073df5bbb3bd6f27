-- Where a response begins on a node.
use Rattle.std.specs.Prelude.{[], ◌∷◌}
use Rattle.st_linear.specs.Linear.{Linear}
use Rattle.st_form.specs.Formula.{Formula, every, formulas}
use Rattle.vc_generator.specs.Building.{at_least}

-- the formula holds, and the bound is at least so much
abbrev pub starts_below : Linear → Formula → Linear → Formula
starts_below bound f least = every (formulas (f ∷ at_least bound least ∷ []))
