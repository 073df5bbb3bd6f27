-- An answer that goals hold, since each condition has a certificate, of whatever size.
use Rattle.std.specs.Prelude.{◌≡◌, ℕ, List, Some, option_map}
use Rattle.step_run.specs.WellFormed.{AreShort}
use Rattle.milkhour_run.specs.declared.held_texts.Texts.{Texts}
use Rattle.step_answers.specs.declared.answer.Answer.{Answer}
use Rattle.certified_answers.specs.Certified.{IsCertified}

-- The texts of a program and of a proof are there, within the limits, and well formed, and each condition that they pose has a valid
-- certificate. So each goal holds on every run of the program, and the answer has status 0 and names the goals.
pub record IsFound (t : Texts) (a : Answer) : Type 0 where
  pub program : List ℕ
  pub proof : List ℕ
  pub texts : (option_map (λ bytes. bytes.now) t.program ≡ Some program) × (option_map (λ bytes. bytes.now) t.proof ≡ Some proof)
  pub short : AreShort program proof
  pub answer : IsCertified program proof a
