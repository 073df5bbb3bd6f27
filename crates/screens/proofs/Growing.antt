-- A screen stays one where a character, an ink or a line feed is put behind it, or nothing is since memory is refused.
use Rattle.std.proofs.Common.{◌≡◌, ℕ, Bool, true, false, if◌then◌else◌, List, [], ◌∷◌, ◌++◌, encode_utf8, sym, subst}
use Rattle.std.proofs.Math.Logic.{∥∥₁_map}
use Rattle.screens.specs.Tame.{steers, IsInk, IsScreen, nothing, character, line_feed, ink}

pub of_nothing : (bytes : List ℕ) → bytes ≡ [] → ∥ IsScreen bytes ∥₁
of_nothing bytes e = subst (λ x. ∥ IsScreen x ∥₁) (sym e) ∣ nothing ∣₁

pub with_character : (old new : List ℕ) (b : Bool) (c : ℕ) → ∥ IsScreen old ∥₁ → steers c ≡ false → new ≡ (if b then old ++ encode_utf8 c else old) → ∥ IsScreen new ∥₁
with_character old new true c tame shown e = subst (λ x. ∥ IsScreen x ∥₁) (sym e) (∥∥₁_map tame (λ t. character t c shown))
with_character old new false c tame shown e = subst (λ x. ∥ IsScreen x ∥₁) (sym e) tame

pub with_ink : (old new code : List ℕ) (b : Bool) → ∥ IsScreen old ∥₁ → IsInk code → new ≡ (if b then old ++ code else old) → ∥ IsScreen new ∥₁
with_ink old new code true tame is e = subst (λ x. ∥ IsScreen x ∥₁) (sym e) (∥∥₁_map tame (λ t. ink t is))
with_ink old new code false tame is e = subst (λ x. ∥ IsScreen x ∥₁) (sym e) tame

pub with_line_feed : (old new : List ℕ) (b : Bool) → ∥ IsScreen old ∥₁ → new ≡ (if b then old ++ 10 ∷ [] else old) → ∥ IsScreen new ∥₁
with_line_feed old new true tame e = subst (λ x. ∥ IsScreen x ∥₁) (sym e) (∥∥₁_map tame (λ t. line_feed t))
with_line_feed old new false tame e = subst (λ x. ∥ IsScreen x ∥₁) (sym e) tame
