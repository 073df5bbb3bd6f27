-- The value of a linear equation in a state of a transition system.
--
-- An equation is a vector. Its columns are the variables, then the locations, then the constant.
use Rattle.std.specs.Prelude.{ℕ, zero, suc, ◌+◌, Bool, true, false, List, [], ◌∷◌, ℤ, pos, neg_ℤ, ◌+ℤ◌, ◌*ℤ◌}
use Rattle.st_linear.specs.Linear.{Linear, changed}
use Rattle.st_form.specs.Formula.{Situation}
use Rattle.st_form.specs.Exchange.{Exchange, is_listed}
use Rattle.null_laws.specs.Bases.{Vector}

-- the sum of so many values of a function, from k on
abbrev pub total : (ℕ → ℤ) → ℕ → ℕ → ℤ
total f zero k = pos 0
total f (suc n) k = f k +ℤ total f n (k + 1)

abbrev pub presence : Bool → ℤ
presence true = pos 1
presence false = pos 0

-- the value of an equation over n variables and so many locations: the coefficients times the variables, the coefficients of the
-- locations where control is, and the constant
abbrev pub equation_value : ℕ → ℕ → Vector → Situation → ℤ
equation_value n locations x s =
    total (λ v. x v *ℤ s.numbers v) n 0 +ℤ (total (λ l. x (n + l) *ℤ presence (s.located l)) locations 0 +ℤ x (n + locations))

-- how often a change enters a location, less how often it leaves it
abbrev pub passage : Exchange → ℕ → ℤ
passage change l = presence (is_listed l change.enters) +ℤ neg_ℤ (presence (is_listed l change.leaves))

-- the value behind a change less the value before it: a location that is left counts 1 before and 0 after, and one that is entered
-- counts 0 before and 1 after
abbrev pub moved_value : ℕ → ℕ → Vector → Exchange → (ℕ → ℤ) → ℤ
moved_value n locations x change store =
    total (λ v. x v *ℤ (changed store change.numbers v +ℤ neg_ℤ (store v))) n 0
    +ℤ total (λ l. x (n + l) *ℤ passage change l) locations 0

-- the value where control is at these locations
abbrev pub first_value : ℕ → ℕ → List ℕ → Vector → (ℕ → ℤ) → ℤ
first_value n locations firsts x store =
    total (λ v. x v *ℤ store v) n 0 +ℤ (total (λ l. x (n + l) *ℤ presence (is_listed l firsts)) locations 0 +ℤ x (n + locations))
