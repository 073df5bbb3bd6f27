-- Loops over chains of this grammar.
use Rattle.std.proofs.Common.{◌≡◌, ◌≤◌, Option, Some, None, Ok, sym, ap, ◌∙◌}
use Rattle.st_tokens.specs.Stream.{Stream, behind}
use Rattle.st_reading.specs.declared.sign.Sign.{Sign}
use Rattle.st_reading.specs.declared.sign.Sign.TheVariants as signs
use Rattle.st_reading.specs.Faults.{Passed}
use Rattle.st_reading.specs.Reading.{Stop, Read, ahead, place_of, size, gives, goes, IsStop}
use Rattle.st_reading.proofs.Chains.{Running, running_next, running_ends, running_fails}
use Rattle.st_reading.proofs.Loops.{map_fails, mapped}
use Rattle.expression_parser.specs.declared.raw.Operator.{Operator}
use Rattle.expression_parser.specs.ExpressionTree.{Expr, joined}
use Rattle.expression_parser.specs.Reading.{Reader, grouping}

module _ (op : Sign → Option Operator) (item : Reader Expr) (left : Expr) (s start : Stream) (whole : Read Passed Expr) where
  pub grouping_next : (o : Operator) (x : Expr) (next after : Stream) (left2 : Expr) → Running op (grouping item) gives left s start whole → Some o ≡ op (ahead s) → None ≡ op signs.Nothing → next ≡ behind s → item next ≡ Ok (x, after) → size after ≤ size next → left2 ≡ joined o (place_of s) left x
      → Running op (grouping item) gives left2 after start whole
  grouping_next o x next after left2 g h none is_next e le made =
      running_next op (grouping item) gives none left s start whole g o left2 next after h is_next
      (mapped (λ y. goes (joined o (place_of s) left y)) item next after x e ∙ ap (λ z. Ok (goes z, after)) (sym made)) le

  pub grouping_ends : Running op (grouping item) gives left s start whole → None ≡ op (ahead s) → None ≡ op signs.Nothing → whole ≡ Ok (left, s)
  grouping_ends g h none = running_ends op (grouping item) gives none left s start whole g h

  pub grouping_fails : (o : Operator) (e : Option (Stop Passed)) (next : Stream) → Running op (grouping item) gives left s start whole → Some o ≡ op (ahead s) → None ≡ op signs.Nothing → next ≡ behind s → IsStop e (item next) → IsStop e whole
  grouping_fails o e next g h none is_next fails = running_fails op (grouping item) gives none left s start whole g o e next h is_next (map_fails (λ y. goes (joined o (place_of s) left y)) item next e fails)
