-- The sign of a symbol or of a keyword is a mark, or none that the grammar has.
use Rattle.std.proofs.Common.{ℕ, List, Option, Some, None}
use Rattle.st_reading.specs.declared.mark.Mark.{Mark}
use Rattle.st_reading.specs.declared.sign.Sign.{Sign}
use Rattle.st_reading.specs.declared.sign.Sign.TheVariants as signs
use Rattle.st_reading.specs.Sign.{symbol_mark, symbol_sign, word_mark, marked, word_sign}

module _ (Q : Sign → Type 0) (other : Q signs.Other) (mark : (m : Mark) → Q (signs.Marked m)) where
  of_mark : (o : Option Mark) → Q (marked o)
  of_mark None = other
  of_mark (Some m) = mark m

  pub symbol : (s : List ℕ) → Q (symbol_sign s)
  symbol s = of_mark (symbol_mark s)

  pub keyword : (s : List ℕ) → Q (word_sign s)
  keyword s = of_mark (word_mark s)
