-- What begins an expression, and what continues one.
use Rattle.std.specs.Prelude.{Bool, true, false, ◌&&◌, List, [], ◌∷◌, Option, Some, None, if◌then◌else◌}
use Rattle.expression_parser.specs.declared.raw.Operator.{Operator}
use Rattle.expression_parser.specs.declared.raw.Operator.TheVariants as operators
use Rattle.expression_parser.specs.declared.sign.Front.{Front}
use Rattle.expression_parser.specs.declared.sign.Front.TheVariants as fronts
use Rattle.st_reading.specs.declared.mark.Mark.{Mark}
use Rattle.st_reading.specs.declared.mark.Mark.TheVariants as marks
use Rattle.st_reading.specs.declared.sign.Sign.{Sign}
use Rattle.st_reading.specs.declared.sign.Sign.TheVariants as signs
use Rattle.st_reading.specs.Sign.{is}

abbrev pub front_mark : Bool → Sign → Front
front_mark places g =
    if is g marks.True then fronts.Truth true
    else (if is g marks.False then fronts.Truth false
    else (if is g marks.Open then fronts.Open
    else (if is g marks.Minus then fronts.Minus
    else (if is g marks.Not then fronts.Not
    else (if is g marks.At && places then fronts.At
    else fronts.Other)))))

-- what stands at the front of an expression; `at` stands in proofs alone, where `places` are asked for
abbrev pub front : Bool → Sign → Front
front places (signs.Numeral n) = fronts.Numeral n
front places signs.Name = fronts.Name
front places g = front_mark places g

-- what stands beside a token's mark in a list
abbrev pub at_mark : {A : Type 0} → Sign → List (Mark × A) → Option A
at_mark g [] = None
at_mark g (entry ∷ entries) = if is g entry.0 then Some entry.1 else at_mark g entries

-- the operator of a product, a sum or a comparison
abbrev pub product_sign : Sign → Option Operator
product_sign g = at_mark g ((marks.Times, operators.Times) ∷ [])

abbrev pub sum_sign : Sign → Option Operator
sum_sign g = at_mark g ((marks.Plus, operators.Plus) ∷ (marks.Minus, operators.Minus) ∷ [])

abbrev pub comparison_sign : Sign → Option Operator
comparison_sign g =
    at_mark g ((marks.Equal, operators.Equal) ∷ (marks.Unequal, operators.Unequal) ∷ (marks.Less, operators.Less) ∷ (marks.AtMost, operators.AtMost) ∷
    (marks.Greater, operators.Greater) ∷ (marks.AtLeast, operators.AtLeast) ∷ [])
