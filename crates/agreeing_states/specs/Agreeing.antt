-- Situations that agree with a state as far as it is known.
use Rattle.std.specs.Prelude.{◌≡◌, ℕ, Bool, true, false, List, slice_get, Option, Some, None}
use Rattle.st_form.specs.Formula.{Situation}
use Rattle.agreeing_states.specs.declared.telling.Known.{Known}

abbrev pub or_false : Option Bool → Bool
or_false None = false
or_false (Some b) = b

-- whether the value of a variable, or whether control is at a location, is known
abbrev pub is_known : List Bool → ℕ → Bool
is_known flags n = or_false (slice_get flags n)

-- another situation in which all that is known is the same
pub record Agrees (k : Known) (s t : Situation) : Type 0 where
  pub numbers : (v : ℕ) → is_known k.variables.items v ≡ true → t.numbers v ≡ s.numbers v
  pub truths : (v : ℕ) → is_known k.variables.items v ≡ true → t.truths v ≡ s.truths v
  pub located : (l : ℕ) → is_known k.locations.items l ≡ true → t.located l ≡ s.located l
