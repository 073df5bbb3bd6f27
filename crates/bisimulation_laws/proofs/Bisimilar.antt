-- Where a program and a system correspond, the image of states is a bisimulation.
use Rattle.std.proofs.Common.{ℕ, refl, sym, subst}
use Rattle.st_form.specs.Formula.{Formula, Situation}
use Rattle.st_form.specs.declared.conditions.TransName.{TransName}
use Rattle.st_program.specs.Tree.{Processes}
use Rattle.transition_system.specs.Systems.{System}
use Rattle.spl_semantics.specs.Runs.{State, LeadsBy, image}
use Rattle.spl_semantics.specs.Runs.Reached.{first, next}
use Rattle.spl_translation.specs.Correspondence.{GoesBy, Corresponds}
use Rattle.bisimulation_laws.specs.Bisimulation.{IsImage, IsBisimilar}

module _ (p : Processes) (initial : Formula) (system : System) (both : Corresponds p initial system) where
  forth : (s t : State) (x : Situation) (name : TransName) (mode : ℕ) → IsImage p initial s x → LeadsBy p s name mode t → (y : Situation) × GoesBy system x name mode y × IsImage p initial t y
  forth s t x name mode related leads = (
    image p t,
    subst (λ z. GoesBy system z name mode (image p t)) (sym related.1) (both.follows s t name mode related.0 leads),
    (next name related.0 (mode, leads), refl),
  )

  back : (s : State) (x y : Situation) (name : TransName) (mode : ℕ) → IsImage p initial s x → GoesBy system x name mode y → (t : State) × LeadsBy p s name mode t × IsImage p initial t y
  back s x y name mode related goes =
      let found = both.follows_back s name mode y related.0 (subst (λ z. GoesBy system z name mode y) related.1 goes) in
      (found.0, found.1, (next name related.0 (mode, found.1), sym found.2))

  pub bisimilar : IsBisimilar p initial system
  bisimilar = record {
    begins = λ s is_first. ((first is_first, refl), both.begins s is_first);
    steps = record { forth = forth; back = back };
  }
