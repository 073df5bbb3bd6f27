-- Locations by occurrence, one after the other.
use Rattle.std.proofs.Common.{◌≡◌, ℕ, zero, suc, ◌+◌, List, [], ◌∷◌, ◌++◌, length, Option, Some, option_to_list, ap, ◌∙◌, sym, subst}
use Rattle.std.specs.Prelude.{slice_get}
use Rattle.std.proofs.lemmas.List.{length_push}

-- each entry is what the function gives for its place
abbrev AreGiven : (ℕ → List ℕ) → List (Option ℕ) → Type 0
AreGiven f entries = (k : ℕ) (entry : Option ℕ) → slice_get entries k ≡ Some entry → option_to_list entry ≡ f k

one-more : (f : ℕ → List ℕ) (entries : List (Option ℕ)) (entry : Option ℕ) → AreGiven f entries → option_to_list entry ≡ f (length entries) → AreGiven f (entries ++ entry ∷ [])
one-more f [] entry h given zero x e = ap option_to_list (sym (let same : entry ≡ x = cc in same)) ∙ given
one-more f [] entry h given (suc k) x e = cc
one-more f (y ∷ ys) entry h given zero x e = h zero x e
one-more f (y ∷ ys) entry h given (suc k) x e = one-more (λ n. f (suc n)) ys entry (λ n z q. h (suc n) z q) given k x e

pub one_known : (f : ℕ → List ℕ) (entries after : List (Option ℕ)) (entry : Option ℕ) (k : ℕ) → after ≡ entries ++ entry ∷ [] → option_to_list entry ≡ f k
    → AreGiven f entries × (length entries ≡ k) → AreGiven f after × (length after ≡ k + 1)
one_known f entries after entry k made given h =
    (subst (AreGiven f) (sym made) (one-more f entries entry h.0 (given ∙ ap f (sym h.1))), ap length made ∙ length_push entries entry ∙ ap (λ n. n + 1) h.1)
