-- The laws of the search.
use Rattle.std.specs.Prelude.{◌≡◌, ℕ, true, false, List, [], ◌∷◌, length, Some, ◌↔◌, ◌⊎◌}
use Rattle.st_form.specs.Formula.{Formula, Situation, truth}
use Rattle.control_states.specs.declared.alternative.Alternative.{Alternative}
use Rattle.control_states.specs.Control.{Active, InControl}
use Rattle.st_certificate.specs.Tree.{Tree}
use Rattle.farkas_check.specs.Problem.{Setting}
use Rattle.farkas_check.specs.Valid.{IsCertificate}
use Rattle.farkas_check.specs.Limits.{IsLimited}
use Rattle.farkas_check.specs.Meaning.{IsValidCondition}
use Rattle.search_laws.specs.States.{State, values_of}
use Rattle.search_laws.specs.Walks.{PathStep}
use Rattle.search_laws.specs.Moves.{valid, open_at, decided}
use Rattle.search_laws.specs.Sizes.{IsModestTree}
use Rattle.search_laws.specs.Forms.{AllForms, IsProper, IsInOrder}

-- what a certificate that is found is: valid, and within the limits of certificates
pub record IsProved (k : Setting) (given shown : Formula) (t : Tree) : Type 0 where
  pub certificate : IsCertificate k given shown t
  pub limited : IsLimited t
  pub modest : IsModestTree t
  pub holds : IsValidCondition k.control given shown

abbrev pub CertificatesAreValid : Type 0
CertificatesAreValid = (k : Setting) (given shown : Formula) (t : Tree)
    → AllForms (IsProper (length k.variables)) given → AllForms (IsProper (length k.variables)) shown
    → decided k given shown ≡ valid t → IsProved k given shown t

abbrev pub IsListed : ℕ × Alternative → List (ℕ × Alternative) → Type 0
IsListed x [] = ⊥
IsListed x (y ∷ ys) = (x ≡ y) ⊎ IsListed x ys

-- a state shows just what the active components are at, and the values of the variables
pub record Shows (k : Setting) (m : ℕ → Alternative) (s : Situation) (state : State) : Type 0 where
  pub control : (c : ℕ) (a : Alternative) → IsListed (c, a) state.control ↔ (Active k.control.components m c × (m c ≡ a))
  pub store : state.store ≡ values_of k.variables 0 s

-- a state that meets the facts of control, and in which the condition is false
pub record IsCounterexample (k : Setting) (given shown : Formula) (state : State) : Type 0 where
  pub at : ℕ → Alternative
  pub values : Situation
  pub shows : Shows k at values state
  pub control : InControl k.control at values.located
  pub given_true : truth values given ≡ true
  pub shown_false : truth values shown ≡ false

abbrev pub ShownStatesRefute : Type 0
ShownStatesRefute = (k : Setting) (given shown : Formula) (path : List PathStep) (state : State)
    → IsInOrder k.control → decided k given shown ≡ open_at path (Some state) → IsCounterexample k given shown state
