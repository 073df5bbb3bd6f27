-- The named word forms.
use Rattle.std.specs.Prelude.{ℕ, ◌≤◌, List, [], ◌∷◌, ◌≡◌, ◌≢◌, ◌⊎◌, ◌++◌, Some, codes}
use Rattle.std.specs.Fmt.{decimal}
use Rattle.clap.specs.Words.{Text}
use Rattle.step_words.specs.Request.{PlainRequest, checks, verifies, proves, makes, traces, finds, request_of}

-- a word that isn't empty and doesn't begin with a hyphen
abbrev pub IsFileName : Text → Type 0
IsFileName [] = ⊥
IsFileName (b ∷ rest) = b ≢ 45

-- no option, or the number of workers
abbrev pub IsOption : List Text → Type 0
IsOption words = (words ≡ []) ⊎ ((n : ℕ) × (1 ≤ n) × (n ≤ 64) × (words ≡ codes "--workers" ∷ decimal n ∷ []))

-- the words of each form ask for its request, whatever the program is called
abbrev pub IsTaken : List Text → PlainRequest → Type 0
IsTaken words request = (program : Text) (option : List Text) → IsOption option → request_of (program ∷ (words ++ option)) ≡ Some request

pub record NamedForms : Type 0 where
  pub check : (p q c : Text) → IsFileName p → IsFileName q → IsFileName c → IsTaken (codes "check" ∷ p ∷ q ∷ c ∷ []) (checks p q c)
  pub verify : (p q : Text) → IsFileName p → IsFileName q → IsTaken (codes "verify" ∷ p ∷ q ∷ []) (verifies p q)
  pub prove : (p q : Text) → IsFileName p → IsFileName q → IsTaken (codes "prove" ∷ p ∷ q ∷ []) (proves p q)
  pub workload : (n : ℕ) → 1 ≤ n → n ≤ 4 → IsTaken (codes "workload" ∷ decimal n ∷ []) (makes n)
  pub trace : (p q s : Text) → IsFileName p → IsFileName q → IsFileName s → IsTaken (codes "trace" ∷ p ∷ q ∷ s ∷ []) (traces p q s)
  pub invariants : (p : Text) → IsFileName p → IsTaken (codes "invariants" ∷ p ∷ []) (finds p)
