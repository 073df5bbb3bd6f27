-- Conditions that true implies a truth value, and blocks that say so without a proof.
use Rattle.std.specs.Prelude.{◌≡◌, Bool, true, List, [], ◌∷◌}
use Rattle.st_form.specs.Formula.{every, more, none, truth_value}
use Rattle.st_form.specs.Shared.{given_of, shown_of}
use Rattle.st_form.specs.declared.conditions.Condition.{Condition}
use Rattle.st_certificate.specs.Tree.{impossible}
use Rattle.st_certificate.specs.Plain.{plain as tree_of}
use Rattle.cert_text.specs.declared.reader.Block.{Block}

pub record IsImplied (c : Condition) : Type 0 where
  pub given : given_of c ≡ every (more (truth_value true) none)
  pub value : Bool
  pub shown : shown_of c ≡ truth_value value

abbrev pub AreImplied : List Condition → Type 0
AreImplied [] = Unit {0}
AreImplied (c ∷ cs) = IsImplied c × AreImplied cs

abbrev pub IsAbsurd : Block → Type 0
IsAbsurd b = tree_of b.certificate ≡ impossible

abbrev pub AreAbsurd : List Block → Type 0
AreAbsurd [] = Unit {0}
AreAbsurd (b ∷ bs) = IsAbsurd b × AreAbsurd bs
