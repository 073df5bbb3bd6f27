-- The readers of drawings with their faults as a script tells them: the same as those of scripts, in their own order.
use Rattle.std.proofs.Common.{◌≡◌, ℕ, zero, suc, ◌+◌, Bool, true, false, cond, not, List, [], ◌∷◌, ◌++◌, slice_get, Option, Some, None, Result, Ok, Err, refl, sym, ap, ◌∙◌}
use Rattle.st_tokens.specs.Stream.{Stream, ends, breaks, more, behind}
use Rattle.st_reading.specs.declared.mark.Mark.{Mark}
use Rattle.st_reading.specs.Sign.{sign_of, is}
use Rattle.st_reading.specs.Rule as rules
use Rattle.st_reading.specs.Rule.{Rule}
use Rattle.st_reading.specs.Faults.{Passed, passed}
use Rattle.st_reading.specs.Reading.{Read, ◌>>=◌, Stop, syntax, broken, other, ahead, place_of, size, refusal, expected, gives, then_reads, Turn, goes, turned, on_operator, chain, only, listing, further}
use Rattle.st_reading.specs.Breaches.{Breach, Reader, broke, limited, crowded, unformed, numeral_in, numeral_of, unless}
use Rattle.st_linear.specs.Linear.{Linear}
use Rattle.st_form.specs.Formula.{Formula}
use Rattle.observations.specs.declared.Fairness.{Fairness}
use Rattle.observations.specs.declared.Fairness.TheVariants.{Unfair, Just, Compassionate}
use Rattle.rule_fits.specs.Fitting.{fairness_of}
use Rattle.ranked_net.specs.Making as nets
use Rattle.temporal_goals.specs.declared.diagrams.DiagramKind.{DiagramKind}
use Rattle.temporal_goals.specs.Texts.{PlainDrawnNode}
use Rattle.expression_parser.specs.ExpressionTree.{Expr}
use Rattle.expression_parser.specs.Reading.{below, expression_of, sum_of as tree_sum_of}
use Rattle.expression_typer.specs.declared.fault.TypeFault.{TypeFault}
use Rattle.expression_typer.specs.Naming.{names_of}
use Rattle.assertions.specs.Faults.{of_rule, of_stop}
use Rattle.assertions.specs.Reading.{before, form_of, linear_of, number_of, truth_of, typed_behind}
use Rattle.diagram_reader.specs.Faults.{of_form, unit_of}
use Rattle.diagram_reader.specs.Transitions as transitions
use Rattle.diagram_reader.specs.Drawn.{is_known, is_above}
use Rattle.diagram_reader.specs.Drawing as drawings
use Rattle.proof_script.specs.Faults.{drawn, drawing_stop}
use Rattle.proof_script.specs.Listing.{Setting, formula_of, just_of, sum_of, transition_of}
use Rattle.script_grammar.specs.FirstFaults.{drawing_over}
use Rattle.script_grammar.proofs.TypingRules.{IsKept, IsRule, truths_ruled, numbers_ruled}
use Rattle.script_grammar.proofs.References.{refusal_drawn}

-- PUT TOGETHER
-- nothing is read
abbrev pub nothing_read : Stream → Read Breach (Unit {0})
nothing_read s = Ok (tt, s)

pub drawn_then : {A B : Type 0} (r r2 : Reader A) (q q2 : A → Reader B) → ((s : Stream) → drawn (r s) ≡ r2 s) → ((x : A) (s : Stream) → drawn (q x s) ≡ q2 x s) → (s : Stream) → drawn (then_reads r q s) ≡ then_reads r2 q2 s
drawn_then {A} r r2 q q2 h k s = at_read (r s) ∙ ap (λ (o : Read Breach A). o >>= λ x. q2 x.0 x.1) (h s)
  where
    at_read : (o : Read Breach A) → drawn (o >>= λ x. q x.0 x.1) ≡ (drawn o >>= λ x. q2 x.0 x.1)
    at_read (Ok x) = k x.0 x.1
    at_read (Err f) = refl

pub drawn_expected : (mark : Mark) (s : Stream) → drawn (expected mark s) ≡ expected mark s
drawn_expected mark s = at_test (is (ahead s) mark)
  where
    at_test : (b : Bool) → drawn (cond b (Ok (place_of s, behind s)) (Err (refusal s))) ≡ cond b (Ok (place_of s, behind s)) (Err (refusal s))
    at_test true = refl
    at_test false = ap Err (refusal_drawn s)

pub drawn_unless : {A : Type 0} (wrong : Bool) (rule : Rule) (place : ℕ) (x : A) (s : Stream) → drawn (unless wrong (broke rule place) x s) ≡ unless wrong (broke rule place) x s
drawn_unless true rule place x s = refl
drawn_unless false rule place x s = refl

abbrev numeral_taken : Stream → ℕ → Read Breach (ℕ × ℕ)
numeral_taken s n = Ok ((n, place_of s), behind s)

pub drawn_numeral : (s : Stream) → drawn (numeral_of s) ≡ numeral_of s
unfolding numeral_of
drawn_numeral s = at_sign (numeral_in (ahead s))
  where
    at_sign : (o : Option ℕ) → drawn (on_operator {A = Read Breach (ℕ × ℕ)} o (Err (refusal s)) (numeral_taken s)) ≡ on_operator o (Err (refusal s)) (numeral_taken s)
    at_sign None = ap Err (refusal_drawn s)
    at_sign (Some n) = refl

module _ {A : Type 0} (mark : Mark) (r r2 : Reader A) (same : (s : Stream) → drawn (r s) ≡ r2 s) where
  abbrev chained : Reader A → ℕ → List A → Reader (List A)
  chained q k xs s = chain (only mark) (listing q) gives k xs s

  abbrev turns : ℕ → List A → Reader A → Read Breach A → Read Breach (List A)
  turns k xs q o = (o >>= λ x. gives {X = Breach} {A = Turn (List A) (List A)} (goes (xs ++ x.0 ∷ [])) x.1) >>= λ y. turned (λ z m. chained q k z m) y.0 y.1

  drawn_chain : (k : ℕ) (xs : List A) (s : Stream) → drawn (chained r k xs s) ≡ chained r2 k xs s
  unfolding chain
  drawn_chain zero xs s = refl
  drawn_chain (suc k) xs s = at_mark (λ ys m. drawn_chain k ys m) (only mark (ahead s))
    where
      at_read : ((ys : List A) (m : Stream) → drawn (chained r k ys m) ≡ chained r2 k ys m) → (o : Read Breach A) → drawn (turns k xs r o) ≡ turns k xs r2 (drawn o)
      at_read again (Ok x) = again (xs ++ x.0 ∷ []) x.1
      at_read again (Err f) = refl

      at_mark : ((ys : List A) (m : Stream) → drawn (chained r k ys m) ≡ chained r2 k ys m) → (o : Option (Unit {0})) → drawn (on_operator {A = Read Breach (List A)} o (Ok (xs, s)) (λ u. turns k xs r (r (behind s)))) ≡ on_operator o (Ok (xs, s)) (λ u. turns k xs r2 (r2 (behind s)))
      at_mark again None = refl
      at_mark again (Some u) = at_read again (r (behind s)) ∙ ap (turns k xs r2) (same (behind s))

  pub drawn_further : (xs : List A) (s : Stream) → drawn (further mark r xs s) ≡ further mark r2 xs s
  drawn_further xs s = drawn_chain (size s) xs s

-- UNITS
unit_stop : (f : Stop Passed) → drawing_stop (of_form (of_stop f)) ≡ of_stop f
unit_stop (syntax place) = refl
unit_stop (broken f) = refl
unit_stop (other (passed kind place)) = refl

unit_rule : (b : Breach) → IsRule b → drawing_stop (of_form (other b)) ≡ other b
unit_rule (broke rule place) h = refl
unit_rule (limited kind place) h = absurd h
unit_rule (crowded place) h = absurd h
unit_rule (unformed place) h = absurd h

unit_before : {A : Type 0} (rest : Stream) (r : Result A TypeFault) → IsKept r → drawn (unit_of (before rest r)) ≡ before rest r
unit_before rest (Ok x) h = refl
unit_before rest (Err f) h = ap Err (unit_rule (of_rule f) h)

unit_drawn : {A : Type 0} (typing : Expr → Result A TypeFault) → ((e : Expr) → IsKept (typing e)) → (o : Read Passed Expr) → drawn (unit_of (typed_behind typing o)) ≡ typed_behind typing o
unit_drawn typing ruled (Ok x) = unit_before x.1 (typing x.0) (ruled x.0)
unit_drawn typing ruled (Err f) = ap Err (unit_stop f)

same_justice : (o : Option Fairness) → not (transitions.owes_justice o) ≡ not (nets.owes_justice o)
same_justice None = refl
same_justice (Some Unfair) = refl
same_justice (Some Just) = refl
same_justice (Some Compassionate) = refl

module _ (g : Setting) (kind : DiagramKind) (highest : ℕ) where
  pub formula_drawn : (s : Stream) → drawn (drawings.formula_of (drawing_over g kind highest) s) ≡ formula_of g s
  unfolding drawings.formula_of formula_of form_of
  formula_drawn s = unit_drawn (truth_of (names_of g.names)) (truths_ruled (names_of g.names)) (expression_of true (below true 32) s)

  pub sum_drawn : (s : Stream) → drawn (drawings.sum_of (drawing_over g kind highest) s) ≡ sum_of g s
  unfolding drawings.sum_of sum_of linear_of
  sum_drawn s = unit_drawn (number_of (names_of g.names)) (numbers_ruled (names_of g.names)) (tree_sum_of true (below true 32) s)

  abbrev judged_just : Bool → ℕ × ℕ → Reader ℕ
  judged_just wrong t = unless wrong (broke rules.UnfairHelper t.1) t.0

  pub just_drawn : (s : Stream) → drawn (drawings.just_of (drawing_over g kind highest) s) ≡ just_of g s
  unfolding drawings.just_of just_of transition_of
  just_drawn s =
      drawn_then (transitions.transition_of g.names g.system) (λ m. drawn (transitions.transition_of g.names g.system m)) (λ t. judged_just (not (transitions.is_just g.system t.0)) t) (λ t. judged_just (nets.is_unfair g.system (Some t.0)) t)
      (λ m. refl) (λ t m. drawn_unless (not (transitions.is_just g.system t.0)) rules.UnfairHelper t.1 t.0 m ∙ ap (λ b. unless b (broke rules.UnfairHelper t.1) t.0 m) (same_justice (slice_get (fairness_of g.system) t.0))) s

  abbrev pub transition_number : Reader ℕ
  transition_number = then_reads (transition_of g) (λ t. gives t.0)

  pub number_drawn : (s : Stream) → drawn (drawings.transition_number_of (drawing_over g kind highest) s) ≡ transition_number s
  unfolding drawings.transition_number_of transition_of
  number_drawn s = drawn_then (transitions.transition_of g.names g.system) (λ m. drawn (transitions.transition_of g.names g.system m)) (λ t. gives t.0) (λ t. gives t.0) (λ m. refl) (λ t m. refl) s

  pub new_number_drawn : (nodes : List PlainDrawnNode) (s : Stream) → drawn (drawings.new_number_of (drawing_over g kind highest) nodes s) ≡ drawings.new_number_of (drawing_over g kind highest) nodes s
  unfolding drawings.new_number_of
  new_number_drawn nodes s =
      drawn_then numeral_of numeral_of (λ n. then_reads (unless (is_known n.0 nodes) (broke rules.Twice n.1) n) (λ n. unless (is_above kind highest n.0) (broke rules.UnknownNode n.1) n)) (λ n. then_reads (unless (is_known n.0 nodes) (broke rules.Twice n.1) n) (λ n. unless (is_above kind highest n.0) (broke rules.UnknownNode n.1) n))
      drawn_numeral
      (λ n m. drawn_then (unless (is_known n.0 nodes) (broke rules.Twice n.1) n) (unless (is_known n.0 nodes) (broke rules.Twice n.1) n) (λ n. unless (is_above kind highest n.0) (broke rules.UnknownNode n.1) n) (λ n. unless (is_above kind highest n.0) (broke rules.UnknownNode n.1) n)
      (λ k. drawn_unless (is_known n.0 nodes) rules.Twice n.1 n k) (λ n k. drawn_unless (is_above kind highest n.0) rules.UnknownNode n.1 n k) m) s

pub known_drawn : (nodes : List PlainDrawnNode) (s : Stream) → drawn (drawings.known_of nodes s) ≡ drawings.known_of nodes s
unfolding drawings.known_of
known_drawn nodes s =
    drawn_then numeral_of numeral_of (λ n. unless (not (is_known n.0 nodes)) (broke rules.UnknownNode n.1) n.0) (λ n. unless (not (is_known n.0 nodes)) (broke rules.UnknownNode n.1) n.0) drawn_numeral (λ n m. drawn_unless (not (is_known n.0 nodes)) rules.UnknownNode n.1 n.0 m) s
