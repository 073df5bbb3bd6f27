-- One level down.
use Rattle.std.proofs.Common.{◌≡◌, ℕ, zero, suc, ◌-◌, ◌<◌, Bool, true, Option, Ok, Err, refl, sym, ap, ◌∙◌, arith}
use Rattle.st_tokens.specs.Stream.{Stream, behind}
use Rattle.st_reading.specs.declared.mark.Mark.TheVariants as marks
use Rattle.st_reading.specs.Sign.{is}
use Rattle.st_reading.specs.Faults.{Passed}
use Rattle.st_reading.specs.Reading.{Stop, Read, ahead, place_of, expected, IsStop}
use Rattle.st_reading.proofs.Loops.{stop_as}
use Rattle.expression_parser.specs.declared.raw.Operator.TheVariants as operators
use Rattle.expression_parser.specs.declared.sign.Front.TheVariants as fronts
use Rattle.expression_parser.specs.Signs.{front}
use Rattle.expression_parser.specs.ExpressionTree.{Expr, node, negation, negative, kind_of, joined}
use Rattle.expression_parser.specs.Reading.{Level, formula, negated, signed, below, level_of, atom_of, unary_of, negation_of, disjunction_of, expression_of}

pub below_is : (places : Bool) (room : ℕ) (level : Level) (place : ℕ) (s : Stream) → 0 < room → below places room level place s ≡ level_of places (below places (room - 1)) level s
unfolding below
below_is places zero level place s h = absurd (omega arith)
below_is places (suc room) level place s h = let e : suc room - 1 ≡ room = omega arith in rw e refl

module _ (places : Bool) (room : ℕ) (s next : Stream) (inside : 0 < room) (is_next : next ≡ behind s) where
  -- what stands one level down is read from `next`
  deeper : (level : Level) (r : Read Passed Expr) → level_of places (below places (room - 1)) level next ≡ r → below places room level (place_of s) (behind s) ≡ r
  deeper level r e = below_is places room level (place_of s) (behind s) inside ∙ ap (level_of places (below places (room - 1)) level) (sym is_next) ∙ e

  pub atom_open : fronts.Open ≡ front places (ahead s) → (x : Expr) (m : ℕ) (after last : Stream) → expression_of places (below places (room - 1)) next ≡ Ok (x, after) → expected {X = Passed} marks.Close after ≡ Ok (m, last) → atom_of places (below places room) s ≡ Ok (node (place_of s) (kind_of x), last)
  unfolding atom_of
  atom_open h x m after last e c = rw (← h, deeper formula (Ok (x, after)) e, c) refl

  pub atom_fails : fronts.Open ≡ front places (ahead s) → (e : Option (Stop Passed)) → IsStop e (expression_of places (below places (room - 1)) next) → IsStop e (atom_of places (below places room) s)
  unfolding atom_of
  atom_fails h e fails = stop_as e (expression_of places (below places (room - 1)) next) (atom_of places (below places room) s) (λ f c. rw (← h, deeper formula (Err f) c) refl) fails

  pub atom_unclosed : fronts.Open ≡ front places (ahead s) → (x : Expr) (after : Stream) (e : Option (Stop Passed)) → expression_of places (below places (room - 1)) next ≡ Ok (x, after) → IsStop e (expected {X = Passed} marks.Close after) → IsStop e (atom_of places (below places room) s)
  unfolding atom_of
  atom_unclosed h x after e read fails = stop_as e (expected {X = Passed} marks.Close after) (atom_of places (below places room) s) (λ f c. rw (← h, deeper formula (Ok (x, after)) read, c) refl) fails

  pub implication_fails : (start : Stream) (x : Expr) (e : Option (Stop Passed)) → disjunction_of places (below places room) start ≡ Ok (x, s) → true ≡ is (ahead s) marks.Implies → IsStop e (expression_of places (below places (room - 1)) next) → IsStop e (expression_of places (below places room) start)
  unfolding expression_of
  implication_fails start x e read h fails = stop_as e (expression_of places (below places (room - 1)) next) (expression_of places (below places room) start) (λ f c. rw (read, ← h, deeper formula (Err f) c) refl) fails

  pub implication : (start : Stream) (x y : Expr) (after : Stream) → disjunction_of places (below places room) start ≡ Ok (x, s) → true ≡ is (ahead s) marks.Implies → expression_of places (below places (room - 1)) next ≡ Ok (y, after) → expression_of places (below places room) start ≡ Ok (joined operators.Implies (place_of s) x y, after)
  unfolding expression_of
  implication start x y after read h e = rw (read, ← h, deeper formula (Ok (y, after)) e) refl

  pub negation_is : fronts.Not ≡ front places (ahead s) → (x : Expr) (after : Stream) → negation_of places (below places (room - 1)) next ≡ Ok (x, after) → negation_of places (below places room) s ≡ Ok (node (place_of s) (negation x), after)
  unfolding negation_of
  negation_is h x after e = rw (← h, deeper negated (Ok (x, after)) e) refl

  pub negation_fails : fronts.Not ≡ front places (ahead s) → (e : Option (Stop Passed)) → IsStop e (negation_of places (below places (room - 1)) next) → IsStop e (negation_of places (below places room) s)
  unfolding negation_of
  negation_fails h e fails = stop_as e (negation_of places (below places (room - 1)) next) (negation_of places (below places room) s) (λ f c. rw (← h, deeper negated (Err f) c) refl) fails

  pub negative_is : fronts.Minus ≡ front places (ahead s) → (x : Expr) (after : Stream) → unary_of places (below places (room - 1)) next ≡ Ok (x, after) → unary_of places (below places room) s ≡ Ok (node (place_of s) (negative (place_of s) x), after)
  unfolding unary_of
  negative_is h x after e = rw (← h, deeper signed (Ok (x, after)) e) refl

  pub negative_fails : fronts.Minus ≡ front places (ahead s) → (e : Option (Stop Passed)) → IsStop e (unary_of places (below places (room - 1)) next) → IsStop e (unary_of places (below places room) s)
  unfolding unary_of
  negative_fails h e fails = stop_as e (unary_of places (below places (room - 1)) next) (unary_of places (below places room) s) (λ f c. rw (← h, deeper signed (Err f) c) refl) fails
