-- Sums, options and what follows from equal ones.
use Rattle.std.proofs.Common.{Some, inl, inr, ◌≡◌, ◌⊎◌}

pub either : {A B C : Type 0} → A ⊎ B → (A → C) → (B → C) → C
either (inl a) f g = f a
either (inr b) f g = g b

pub some_same : {A : Type 0} (x y : A) → Some x ≡ Some y → x ≡ y
some_same x y h = cc
