-- What is promised of formulas, of programs or, where `places` are asked for, of proofs. They are parts of texts: what stands
-- behind is not read.
use Rattle.std.specs.Prelude.{◌≡◌, ℕ, List, Ok, Err, Bool, [], ◌∷◌, ◌++◌}
use Rattle.st_tokens.specs.Stream.{◌++>◌, Lexeme, more, Stream}
use Rattle.st_reading.specs.Reading.{Stop}
use Rattle.st_reading.specs.Faults.{Passed}
use Rattle.st_reading.specs.Theorem.{GoesOn, IsFirst}
use Rattle.expression_parser.specs.ExpressionTree.{Expr}
use Rattle.expression_parser.specs.Reading.{below, expression_of}
use Rattle.expression_parser.specs.Grammar.{Formula}

-- No tokens stand for two formulas.
abbrev pub FormulasReadOnce : Type 0
FormulasReadOnce = (places : Bool) (ts : List Lexeme) (x y : Expr) → Formula places ts x → Formula places ts y → x ≡ y

-- the longest formula at the front of s, before rest
pub record IsLongest (places : Bool) (s : Stream) (x : Expr) (rest : Stream) : Type 0 where
  pub text : List Lexeme
  pub is : s ≡ text ++> rest
  pub spells : Formula places text x
  pub longest : (t : Lexeme) (after : Stream) → rest ≡ more t after → GoesOn (Formula places) (text ++ t ∷ []) → ⊥

abbrev pub FormulasAreLongest : Type 0
FormulasAreLongest = (places : Bool) (room : ℕ) (s : Stream) (x : Expr) (rest : Stream) → expression_of places (below places room) s ≡ Ok (x, rest) → IsLongest places s x rest

abbrev pub FormulasFirstFault : Type 0
FormulasFirstFault = (places : Bool) (room : ℕ) (s : Stream) (f : Stop Passed) → expression_of places (below places room) s ≡ Err f → IsFirst (Formula places) s f
