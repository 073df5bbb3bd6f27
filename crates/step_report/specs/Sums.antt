-- How a sum is printed: its variables in rising order, each with its coefficient, and the constant last, unless it is 0
-- and there are variables: `x - 2*y + 3`, `-y`, `0`.
use Rattle.std.specs.Prelude.{ℕ, zero, suc, ◌==◌, if◌then◌else◌, List, [], ◌∷◌, ◌++◌, codes, ℤ, pos, negsuc, unsigned_abs}
use Rattle.std.specs.Fmt.{decimal, signed_decimal}
use Rattle.st_linear.specs.Linear.{Linear}
use Rattle.st_program.specs.Names.{Names}
use Rattle.step_report.specs.Names.{variable_text}

-- the sign in front of a sum, and between two terms
abbrev pub first_sign : ℤ → List ℕ
first_sign (pos n) = []
first_sign (negsuc n) = codes "-"

abbrev pub next_sign : ℤ → List ℕ
next_sign (pos n) = codes " + "
next_sign (negsuc n) = codes " - "

-- how many times, unless it is once
abbrev pub times_text : ℕ → List ℕ
times_text n = if n == 1 then [] else decimal n ++ codes "*"

-- a variable with its coefficient, the sign left out
abbrev pub term_text : Names → ℕ × ℤ → List ℕ
term_text names e = times_text (unsigned_abs e.1) ++ variable_text names e.0

abbrev pub more_terms : Names → List (ℕ × ℤ) → List ℕ
more_terms names [] = []
more_terms names (e ∷ es) = next_sign e.1 ++ term_text names e ++ more_terms names es

-- a constant behind variables
abbrev pub constant_text : ℤ → List ℕ
constant_text (pos zero) = []
constant_text (pos (suc n)) = codes " + " ++ decimal (suc n)
constant_text (negsuc n) = codes " - " ++ decimal (suc n)

abbrev pub terms_text : Names → List (ℕ × ℤ) → ℤ → List ℕ
terms_text names [] constant = signed_decimal constant
terms_text names (e ∷ es) constant = first_sign e.1 ++ term_text names e ++ more_terms names es ++ constant_text constant

abbrev pub sum_text : Names → Linear → List ℕ
sum_text names f = terms_text names f.entries f.constant
