-- What a mode does to the value of an equation.
use Rattle.std.specs.Prelude.{◌≡◌, ℕ, true, false, ◌+ℤ◌}
use Rattle.st_form.specs.Formula.{Situation}
use Rattle.st_form.specs.Exchange.{Exchange, is_listed}
use Rattle.transition_system.specs.Systems.{PlainMode}
use Rattle.transition_system.specs.Meaning.{gone}
use Rattle.null_laws.specs.Bases.{Vector}
use Rattle.equation_laws.specs.Sums.{equation_value, moved_value}

-- control is at each location that the change leaves, and at none of the others that it enters
pub record IsReady (change : Exchange) (s : Situation) : Type 0 where
  pub leaves : (l : ℕ) → is_listed l change.leaves ≡ true → s.located l ≡ true
  pub enters : (l : ℕ) → is_listed l change.leaves ≡ false → is_listed l change.enters ≡ true → s.located l ≡ false

-- where control is so, the value behind the mode is the value before it and what the mode adds
abbrev pub MovesAdd : Type 0
MovesAdd =
    (n locations : ℕ) (x : Vector) (m : PlainMode) (s : Situation) → IsReady m.change s
    → equation_value n locations x (gone m s) ≡ equation_value n locations x s +ℤ moved_value n locations x m.change s.numbers
