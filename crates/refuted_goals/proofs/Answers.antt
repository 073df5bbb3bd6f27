-- Answers of yes and no.
use Rattle.std.proofs.Common.{◌≡◌, Bool, true, false, refl}
use Rattle.std.specs.Prelude.{◌↔◌}

pub is_yes : {P : Type 0} → P → (true ≡ true) ↔ P
is_yes p = (λ _. p, λ _. refl)

pub is_no : {P : Type 0} → (P → ⊥) → (false ≡ true) ↔ P
is_no h = (λ e. absurd cc, λ p. absurd (h p))

pub denies : {P : Type 0} (b : Bool) → b ≡ false → (P → ⊥) → (b ≡ true) ↔ P
denies true e h = absurd cc
denies false e h = is_no h

pub through : {P Q : Type 0} (b : Bool) → (b ≡ true) ↔ P → (P → Q) → (Q → P) → (b ≡ true) ↔ Q
through b h f g = (λ e. f (h.0 e), λ q. h.1 (g q))
