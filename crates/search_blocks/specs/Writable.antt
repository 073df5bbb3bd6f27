-- Certificates that can be written.
use Rattle.std.specs.Prelude.{◌≡◌, ℕ, true, List, [], ◌∷◌}
use Rattle.st_form.specs.Condition.{Implication}
use Rattle.st_certificate.specs.Tree.{Tree}
use Rattle.farkas_check.specs.Problem.{Setting}
use Rattle.farkas_check.specs.Valid.{IsCertificate}
use Rattle.cert_text.specs.Grammar.{Written, IsBlock, meaning}

-- a block of version 2, of any number, within the limits means this certificate
pub record IsWritable (t : Tree) : Type 0 where
  pub written : Written
  pub block : (number : ℕ) → IsBlock number true written
  pub means : meaning written ≡ t

-- for each condition, in order, a valid certificate that can be written, and no more
abbrev pub Discharge : Setting → List Implication → List Tree → Type 0
Discharge k [] ts = ts ≡ []
Discharge k (c ∷ cs) [] = ⊥
Discharge k (c ∷ cs) (t ∷ ts) = IsCertificate k c.given c.shown t × IsWritable t × Discharge k cs ts
