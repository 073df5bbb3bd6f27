-- What is known of coefficients while sums run over one window of variables after the other.
use Rattle.std.specs.Prelude.{◌≡◌, ℕ, ◌<◌, ◌≤◌, ℤ, pos, Option, Some, None, if◌then◌else◌, nat_lt}

-- two functions of variables are equal from one variable on, up to the next one that is named, or always
abbrev pub AgreeUpTo : ℕ → Option ℕ → (ℕ → ℤ) → (ℕ → ℤ) → Type 0
AgreeUpTo from None f g = (v : ℕ) → from ≤ v → f v ≡ g v
AgreeUpTo from (Some next) f g = (from ≤ next) × ((v : ℕ) → from ≤ v → v < next → f v ≡ g v)

-- a function of variables is 0 there
abbrev pub IsClear : ℕ → Option ℕ → (ℕ → ℤ) → Type 0
IsClear from next f = AgreeUpTo from next f (λ v. pos 0)

-- the lesser of two variables, where there are such
abbrev pub nearer : Option ℕ → Option ℕ → Option ℕ
nearer None b = b
nearer (Some v) None = Some v
nearer (Some v) (Some w) = if nat_lt w v then Some w else Some v
