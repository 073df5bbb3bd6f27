-- An answer that goals hold, since a table of trees has a certificate for each condition.
use Rattle.std.specs.Prelude.{◌≡◌, ℕ, List, map, Some, option_map}
use Rattle.st_form.specs.Shared.{plain_condition}
use Rattle.farkas_check.specs.PlainProblem.{setting}
use Rattle.shared_certificates.specs.Nodes.{Shared, certificates}
use Rattle.shared_certificate_laws.specs.Laws.{IsText}
use Rattle.table_check.specs.Conditions.{HaveTrees}
use Rattle.posed_conditions.specs.declared.posing.PosedProof.{PosedProof}
use Rattle.posed_conditions.specs.Translated.{IsOfText}
use Rattle.posed_conditions.specs.Posed.{IsPosedBy}
use Rattle.step_run.specs.WellFormed.{AreShort, IsShort}
use Rattle.milkhour_run.specs.declared.held_texts.Texts.{Texts}
use Rattle.step_answers.specs.declared.answer.Answer.{Answer}
use Rattle.certified_answers.specs.Certified.{IsCertified}

-- the texts of a program and of a proof pose conditions, and the text of certificates spells trees: of each condition one that is valid, in
-- their order, and none more
pub record HoldTrees (pt qt ct : List ℕ) : Type 0 where
  pub posed : PosedProof
  pub program : IsOfText pt posed.source
  pub proof : IsPosedBy qt posed.source posed.proof
  pub table : Shared
  pub spelled : IsText ct table
  pub trees : HaveTrees (setting posed.source.components posed.source.program.variables) (map plain_condition posed.proof.conditions.items) (certificates table)

-- So each goal holds on every run of the program, and the answer has status 0 and names the goals. The texts are within the limits of `check`.
pub record IsProved (t : Texts) (a : Answer) : Type 0 where
  pub program : List ℕ
  pub proof : List ℕ
  pub third : List ℕ
  pub texts : (option_map (λ bytes. bytes.now) t.program ≡ Some program) × (option_map (λ bytes. bytes.now) t.proof ≡ Some proof) × (option_map (λ bytes. bytes.now) t.third ≡ Some third)
  pub short : AreShort program proof × IsShort third
  pub trees : HoldTrees program proof third
  pub answer : IsCertified program proof a
