-- Membership in a list, with the way to the place in it.
use Rattle.std.specs.Prelude.{◌≡◌, List, ◌∷◌}

pub data Member {A : Type 0} (x : A) : List A → Type 0 where
  here : {y : A} {ys : List A} → x ≡ y → Member x (y ∷ ys)
  there : {y : A} {ys : List A} → Member x ys → Member x (y ∷ ys)
