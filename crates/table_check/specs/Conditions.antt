-- Trees against conditions.
use Rattle.std.specs.Prelude.{List, [], ◌∷◌}
use Rattle.st_form.specs.Condition.{Implication}
use Rattle.st_certificate.specs.Tree.{Tree}
use Rattle.farkas_check.specs.Problem.{Setting}
use Rattle.farkas_check.specs.Valid.{IsCertificate}

-- each condition has a tree that is valid for it, in their order, and no tree is left
abbrev pub HaveTrees : Setting → List Implication → List Tree → Type 0
HaveTrees k [] [] = Unit {0}
HaveTrees k [] (t ∷ ts) = ⊥
HaveTrees k (c ∷ cs) [] = ⊥
HaveTrees k (c ∷ cs) (t ∷ ts) = IsCertificate k c.given c.shown t × HaveTrees k cs ts
