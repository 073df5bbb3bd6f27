-- Where a formula or an integer expression has more than 32 levels. Parentheses leave no trace in a tree, so this is said of the
-- tokens: it is found at the first up to which reading within 32 levels breaks off for its nesting.
use Rattle.std.specs.Prelude.{ℕ, suc, ◌+◌, true, List, [], ◌∷◌, Option, Some, None, Result, Ok, Err}
use Rattle.std.specs.Option.{option_map}
use Rattle.st_tokens.specs.Stream.{◌++>◌, Lexeme, ends}
use Rattle.st_reading.specs.Faults.{Passed, passed}
use Rattle.st_reading.specs.Reading.{syntax, broken, other, Read}
use Rattle.expression_parser.specs.ExpressionTree.{Expr}
use Rattle.expression_parser.specs.Reading.{below, expression_of, sum_of}

-- the place that is named where reading breaks off so
abbrev pub broken_off : Read Passed Expr → Option ℕ
broken_off (Ok x) = None
broken_off (Err (syntax place)) = None
broken_off (Err (broken f)) = None
broken_off (Err (other (passed kind place))) = Some place

abbrev pub one_further : ℕ × ℕ → ℕ × ℕ
one_further p = (suc p.0, p.1)

-- the first of these, or that of what follows
abbrev pub first_of_both : Option ℕ → Option (ℕ × ℕ) → Option (ℕ × ℕ)
first_of_both (Some place) later = Some (1, place)
first_of_both None later = option_map one_further later

-- the first of the tokens up to which the test names a place: how many end with it, and the place
abbrev pub first_passing : (List Lexeme → Option ℕ) → List Lexeme → Option (ℕ × ℕ)
first_passing test [] = None
first_passing test (t ∷ ts) = first_of_both (test (t ∷ [])) (first_passing (λ us. test (t ∷ us)) ts)

-- of a formula, and of an integer expression
abbrev pub form_passes : List Lexeme → Option ℕ
form_passes ts = broken_off (expression_of true (below true 32) (ts ++> ends 0))

abbrev pub sum_passes : List Lexeme → Option ℕ
sum_passes ts = broken_off (sum_of true (below true 32) (ts ++> ends 0))
