-- Open conditions without those that have a certificate.
use Rattle.std.specs.Prelude.{◌≡◌, ℕ, List, [], ◌∷◌, slice_get, Some}
use Rattle.st_form.specs.Shared.{given_of, shown_of}
use Rattle.st_form.specs.declared.conditions.Condition.{Condition}
use Rattle.st_certificate.specs.Tree.{Tree}
use Rattle.farkas_check.specs.Problem.{Setting}
use Rattle.farkas_check.specs.Limits.{IsLimited}
use Rattle.farkas_check.specs.Valid.{IsCertificate}

-- the condition at the place has a valid certificate within the limits
pub record IsClosed (k : Setting) (cs : List Condition) (place : ℕ) : Type 0 where
  pub condition : Condition
  pub there : slice_get cs place ≡ Some condition
  pub certificate : Tree
  pub valid : IsCertificate k (given_of condition) (shown_of condition) certificate
  pub limited : IsLimited certificate

-- some places, and those of them that are kept, in their order: each condition that is left out is closed
pub data LeavesOut (k : Setting) (cs : List Condition) : List ℕ → List ℕ → Type 0 where
  end : LeavesOut k cs [] []
  keeps : (place : ℕ) (places kept : List ℕ) → LeavesOut k cs places kept → LeavesOut k cs (place ∷ places) (place ∷ kept)
  leaves : (place : ℕ) (places kept : List ℕ) → IsClosed k cs place → LeavesOut k cs places kept → LeavesOut k cs (place ∷ places) kept
