-- Valid certificates, by cases on the certificate and the problem. A node divides the problem, and needs a valid
-- certificate for each problem that comes of it, no more and no fewer. Where a problem is false, `Absurd` alone is valid.
use Rattle.std.specs.Prelude.{◌≡◌, List, [], ◌∷◌, Option, Some, None}
use Rattle.st_form.specs.Formula.{Formula}
use Rattle.farkas_leaf.specs.Leaf as of_rows
use Rattle.farkas_leaf.specs.Lines as of_lines
use Rattle.st_certificate.specs.Tree.{Tree, Trees, impossible, branch, farkas, linear, no_tree, with_tree}
use Rattle.farkas_check.specs.Problem.{Setting, Problem, division, rows_of, lines_of, first_problem}

-- there is a value, and it is so
abbrev pub There : {A : Type 0} → Option A → (A → Type 0) → Type 0
There None P = ⊥
There (Some x) P = P x

abbrev mutual
  -- a certificate is valid for a problem
  pub Valid : Setting → Tree → Problem → Type 0
  Valid k impossible p = p.conjuncts ≡ None
  Valid k (branch s ts) p = There (division k p s) (AreValid k ts)
  Valid k (farkas picks) p = There p.conjuncts (λ fs. of_rows.Closes (rows_of fs) picks)
  Valid k (linear picks) p = There p.conjuncts (λ fs. of_lines.Closes (lines_of fs) picks)

  -- there are as many certificates as problems, and each is valid for its own
  pub AreValid : Setting → Trees → List Problem → Type 0
  AreValid k no_tree [] = Unit {0}
  AreValid k no_tree (p ∷ ps) = ⊥
  AreValid k (with_tree t ts) [] = ⊥
  AreValid k (with_tree t ts) (p ∷ ps) = Valid k t p × AreValid k ts ps

-- a certificate is valid for a condition
abbrev pub IsCertificate : Setting → Formula → Formula → Tree → Type 0
IsCertificate k given shown t = Valid k t (first_problem k given shown)
