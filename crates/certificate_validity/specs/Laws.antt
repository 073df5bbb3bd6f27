-- The law of validity.
use Rattle.std.specs.Prelude.{◌↔◌}
use Rattle.st_form.specs.Formula.{Formula}
use Rattle.st_certificate.specs.Tree.{Tree}
use Rattle.farkas_check.specs.Problem.{Setting}
use Rattle.farkas_check.specs.Valid.{IsCertificate}
use Rattle.certificate_validity.specs.Validity.{Certifies}

-- a certificate is valid by the rules exactly where it is one
abbrev pub CertifiesIsValid : Type 0
CertifiesIsValid = (k : Setting) (given shown : Formula) (t : Tree) → Certifies k given shown t ↔ IsCertificate k given shown t
