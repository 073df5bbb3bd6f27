-- Blocks and conditions of the code as plain data.
use Rattle.std.specs.Prelude.{List, map}
use Rattle.st_form.specs.Condition.{Implication}
use Rattle.st_form.specs.Shared.{plain_condition}
use Rattle.st_form.specs.declared.conditions.Condition.{Condition}
use Rattle.st_certificate.specs.Tree.{Tree}
use Rattle.st_certificate.specs.Plain.{plain}
use Rattle.cert_text.specs.declared.reader.Block.{Block}

-- the certificates of blocks
abbrev pub trees : List Block → List Tree
trees bs = map (λ b. plain b.certificate) bs

abbrev pub plains : List Condition → List Implication
plains cs = map plain_condition cs
