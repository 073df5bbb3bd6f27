-- Facts about what is posed, said of it by other names.
use Rattle.std.proofs.Common.{◌≡◌, ℕ, List, Option, Some, None, IfSome, All, subst}
use Rattle.st_form.specs.Shared.{plain_condition}
use Rattle.st_form.specs.declared.conditions.Condition.{Condition}
use Rattle.farkas_check.specs.Problem.{Setting}
use Rattle.farkas_check.specs.PlainProblem.{setting}
use Rattle.found_trees.specs.Certified.{HasCertificate}
use Rattle.posed_conditions.specs.declared.posing.PosedProof.{PosedProof}
use Rattle.posed_conditions.specs.Translated.{IsOfText}
use Rattle.posed_conditions.specs.Posed.{IsPosedBy}
use Rattle.certified_answers.specs.Certified.{IsCertified}
use Rattle.step_answers.specs.declared.answer.Answer.{Answer}

-- each of the conditions has a certificate
abbrev pub AreCertified : Setting → List Condition → Type 0
AreCertified k cs = All (λ c. HasCertificate k (plain_condition c)) cs

-- the setting of what is posed
abbrev pub setting-of : PosedProof → Setting
setting-of x = setting x.source.components x.source.program.variables

pub certified-here : (k l : Setting) (cs ds : List Condition) → k ≡ l → cs ≡ ds → AreCertified k cs → AreCertified l ds
certified-here k l cs ds same these all = subst (λ (m : Setting). AreCertified m ds) same (subst (λ (xs : List Condition). AreCertified k xs) these all)

-- what is so of an answer for all texts that pose a proof is so for these
pub held : (pt qt : List ℕ) (x : PosedProof) (o : Option Answer) → IsOfText pt x.source → IsPosedBy qt x.source x.proof
    → IfSome o (λ a. (p q : List ℕ) → IsOfText p x.source → IsPosedBy q x.source x.proof → IsCertified p q a) → IfSome o (IsCertified pt qt)
held pt qt x None of by h = tt
held pt qt x (Some a) of by h = h pt qt of by
