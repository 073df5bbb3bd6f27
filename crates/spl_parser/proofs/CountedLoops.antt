-- Loops over lists whose items are counted.
use Rattle.std.proofs.Common.{◌≡◌, ℕ, ◌≤◌, List, [], ◌∷◌, ◌++◌, Option, Some, None, Ok, true, false, refl, sym, ap, ◌∙◌}
use Rattle.st_tokens.specs.Stream.{Stream, behind}
use Rattle.st_reading.specs.declared.mark.Mark.TheVariants as marks
use Rattle.st_reading.specs.Sign.{is}
use Rattle.st_reading.specs.Faults.{Passed}
use Rattle.st_reading.specs.Reading.{Stop, Read, Label, ahead, size, goes, expected, IsStop, only, Counted}
use Rattle.st_reading.proofs.Chains.{Running, running_next, running_leaves, running_ends, running_fails}
use Rattle.st_reading.proofs.Loops.{stop_as, only_some, only_none, mapped, map_fails}
use Rattle.expression_parser.specs.ExpressionTree.{Expr}
use Rattle.spl_parser.specs.ProgramTree.{Statement, Body, body, statements}
use Rattle.spl_parser.specs.Item.{last, item}
use Rattle.expression_parser.specs.Reading.{Reader}
use Rattle.spl_parser.specs.Statements.{Lower, item_of, turned_by, continuing, closed_body}

-- the items of a body
module _ (value : Reader Expr) (lower : Lower) (xs : List Statement) (n : ℕ) (s start : Stream) (whole : Read Passed (Counted Body)) where
  abbrev pub InBody : List Statement → ℕ → Stream → Type 0
  InBody ys m after = Running (only marks.Semicolon) (continuing value lower) closed_body (ys, m) after start whole

  pub body_next : (x : Statement) (m : ℕ) (next after : Stream) (ys : List Statement) → InBody xs n s → true ≡ is (ahead s) marks.Semicolon → next ≡ behind s → item_of value lower n next ≡ Ok ((item x, m), after) → size after ≤ size next → ys ≡ xs ++ x ∷ [] → InBody ys m after
  body_next x m next after ys g h is_next e le made =
      running_next (only marks.Semicolon) (continuing value lower) closed_body refl (xs, n) s start whole g tt (ys, m) next after (only_some (ahead s) marks.Semicolon h) is_next
      (mapped (turned_by xs) (item_of value lower n) next after (item x, m) e ∙ ap (λ z. Ok (goes (z, m), after)) (sym made)) le

  pub body_leaves : (l : Label) (m : ℕ) (next after : Stream) → InBody xs n s → true ≡ is (ahead s) marks.Semicolon → next ≡ behind s → item_of value lower n next ≡ Ok ((last l, m), after) → whole ≡ Ok ((body (statements xs) (Some l), m), after)
  body_leaves l m next after g h is_next e =
      running_leaves (only marks.Semicolon) (continuing value lower) closed_body refl (xs, n) s start whole g tt (body (statements xs) (Some l), m) next after (only_some (ahead s) marks.Semicolon h) is_next
      (mapped (turned_by xs) (item_of value lower n) next after (last l, m) e)

  pub body_fails : (e : Option (Stop Passed)) (next : Stream) → InBody xs n s → true ≡ is (ahead s) marks.Semicolon → next ≡ behind s → IsStop e (item_of value lower n next) → IsStop e whole
  body_fails e next g h is_next fails =
      running_fails (only marks.Semicolon) (continuing value lower) closed_body refl (xs, n) s start whole g tt e next (only_some (ahead s) marks.Semicolon h) is_next (map_fails (turned_by xs) (item_of value lower n) next e fails)

  pub body_closes : (place : ℕ) (after : Stream) → InBody xs n s → false ≡ is (ahead s) marks.Semicolon → expected {X = Passed} marks.CloseBlock s ≡ Ok (place, after) → whole ≡ Ok ((body (statements xs) None, n), after)
  body_closes place after g h e =
      running_ends (only marks.Semicolon) (continuing value lower) closed_body refl (xs, n) s start whole g (only_none (ahead s) marks.Semicolon h)
      ∙ mapped (λ (m : ℕ). (body (statements xs) None, n)) (expected marks.CloseBlock) s after place e

  pub body_stays_open : (e : Option (Stop Passed)) → InBody xs n s → false ≡ is (ahead s) marks.Semicolon → IsStop e (expected {X = Passed} marks.CloseBlock s) → IsStop e whole
  body_stays_open e g h fails =
      let is = running_ends (only marks.Semicolon) (continuing value lower) closed_body refl (xs, n) s start whole g (only_none (ahead s) marks.Semicolon h) in
      stop_as e (closed_body (xs, n) s) whole (λ f c. is ∙ c) (map_fails (λ (m : ℕ). (body (statements xs) None, n)) (expected marks.CloseBlock) s e fails)
