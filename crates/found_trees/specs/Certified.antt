-- Conditions that have a certificate.
use Rattle.st_form.specs.Condition.{Implication}
use Rattle.st_certificate.specs.Tree.{Tree}
use Rattle.farkas_check.specs.Problem.{Setting}
use Rattle.farkas_check.specs.Valid.{IsCertificate}

-- a condition has a valid certificate
abbrev pub HasCertificate : Setting → Implication → Type 0
HasCertificate k c = (t : Tree) × IsCertificate k c.given c.shown t
