-- Stores, and what tests and assignments mean in them (Manna and Pnueli, *Temporal Verification of Reactive Systems:
-- Safety*, section 0.3).
use Rattle.std.specs.Prelude.{ℕ, Bool, true, false, not, ◌==◌, if◌then◌else◌, List, [], ◌∷◌, ℤ, pos, negsuc, Option, Some, None}
use Rattle.st_linear.specs.Linear.{Linear, value}
use Rattle.st_form.specs.Formula.{Formula, Situation}
use Rattle.st_form.specs.Formula as formulas
use Rattle.st_program.specs.Tree.{Term, number, truth}
use Rattle.st_program.specs.Groups.{Link, tested, given}

-- the value of each variable: a whole number for an integer one, a truth value for a boolean one
pub record Store : Type 0 where
  pub numbers : ℕ → ℤ
  pub truths : ℕ → Bool

-- a store, and at which locations control is
abbrev pub situation : Store → (ℕ → Bool) → Situation
situation s located = record { numbers = s.numbers; truths = s.truths; located = located }

-- the formulas of a program don't speak of locations
abbrev pub holds : Formula → Store → Bool
holds f s = formulas.truth (situation s (λ l. false)) f

-- the value that a right side gives to a variable of its type; the other type's value stays
abbrev pub number_or : ℤ → Term → Store → ℤ
number_or old (number f) s = value s.numbers f
number_or old (truth f) s = old

abbrev pub truth_or : Bool → Term → Store → Bool
truth_or old (number f) s = old
truth_or old (truth f) s = holds f s

abbrev pub number_given : ℕ → List (ℕ × Term) → Store → ℤ
number_given v [] s = s.numbers v
number_given v (x ∷ xs) s = if x.0 == v then number_or (s.numbers v) x.1 s else number_given v xs s

abbrev pub truth_given : ℕ → List (ℕ × Term) → Store → Bool
truth_given v [] s = s.truths v
truth_given v (x ∷ xs) s = if x.0 == v then truth_or (s.truths v) x.1 s else truth_given v xs s

-- all targets get their values at once: each right side is read in the store before
abbrev pub assigned : List (ℕ × Term) → Store → Store
assigned xs s = record { numbers = λ v. number_given v xs s; truths = λ v. truth_given v xs s }

-- a variable less 1, and more 1
abbrev pub one_less : ℕ → Linear
one_less v = record { constant = negsuc 0; entries = (v, pos 1) ∷ [] }

abbrev pub one_more : ℕ → Linear
one_more v = record { constant = pos 1; entries = (v, pos 1) ∷ [] }

-- the truth value is the wanted one
abbrev pub is_wanted : Bool → Bool → Bool
is_wanted true b = b
is_wanted false b = not b

-- a path is walked from a store: each test must have its value in the store that the assignments before it have left
abbrev pub walked : List Link → Store → Option Store
walked [] s = Some s
walked (tested f b ∷ path) s = if is_wanted b (holds f s) then walked path s else None
walked (given xs ∷ path) s = walked path (assigned xs s)
