-- Where each condition has its tree, each has a certificate.
use Rattle.std.proofs.Common.{ℕ, List, [], ◌∷◌, map, All, Option, Some, None, IfSome}
use Rattle.std.proofs.lemmas.List.Elements.{All-cons, All-nil}
use Rattle.st_form.specs.Shared.{plain_condition}
use Rattle.st_form.specs.declared.conditions.Condition.{Condition}
use Rattle.st_certificate.specs.Tree.{Tree}
use Rattle.farkas_check.specs.Problem.{Setting}
use Rattle.farkas_check.specs.PlainProblem.{setting}
use Rattle.shared_certificates.specs.Nodes.{Shared, certificates}
use Rattle.shared_certificate_laws.specs.Laws.{IsText}
use Rattle.found_trees.specs.Certified.{HasCertificate}
use Rattle.table_check.specs.Conditions.{HaveTrees}
use Rattle.posed_conditions.specs.declared.posing.PosedProof.{PosedProof}
use Rattle.posed_conditions.specs.Translated.{IsOfText}
use Rattle.posed_conditions.specs.Posed.{IsPosedBy}
use Rattle.certified_answers.specs.Certified.{IsCertified}
use Rattle.step_answers.specs.declared.answer.Answer.{Answer}
use Rattle.table_answers.specs.Proved.{HoldTrees}

pub each-has : (k : Setting) (cs : List Condition) (ts : List Tree) → HaveTrees k (map plain_condition cs) ts → All (λ c. HasCertificate k (plain_condition c)) cs
each-has k [] ts h = All-nil (λ c. HasCertificate k (plain_condition c))
each-has k (c ∷ cs) [] h = absurd h
each-has k (c ∷ cs) (t ∷ ts) h = All-cons (λ x. HasCertificate k (plain_condition x)) c cs (t, h.0) (each-has k cs ts h.1)

-- the trees of what is posed
abbrev pub Trees : PosedProof → Shared → Type 0
Trees x t = HaveTrees (setting x.source.components x.source.program.variables) (map plain_condition x.proof.conditions.items) (certificates t)

-- what is so of an answer for all texts that pose it is so for these
pub held : (pt qt ct : List ℕ) (x : PosedProof) (t : Shared) (o : Option Answer) → IsOfText pt x.source → IsPosedBy qt x.source x.proof → IsText ct t
    → IfSome o (λ a. (p q : List ℕ) → IsOfText p x.source → IsPosedBy q x.source x.proof → Trees x t × IsCertified p q a) → IfSome o (λ a. HoldTrees pt qt ct × IsCertified pt qt a)
held pt qt ct x t None of by is h = tt
held pt qt ct x t (Some a) of by is h =
    let both = h pt qt of by in
    (record { posed = x; program = of; proof = by; table = t; spelled = is; trees = both.0 }, both.1)
