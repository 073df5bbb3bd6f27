-- Statements inside others, read within the limits and without them: each is counted as it begins, at its first token, and with
-- no level left it stands too deep.
use Rattle.std.proofs.Common.{◌≡◌, ℕ, zero, suc, ◌+◌, ◌<◌, Bool, true, false, cond, List, [], ◌∷◌, ◌++◌, Option, Some, None, Ok, Err, refl, sym, ap, ◌∙◌, append_assoc, arith}
use Rattle.st_tokens.specs.declared.limit.LimitKind.TheVariants as limits
use Rattle.st_tokens.specs.Stream.{Stream, ends, breaks, more, behind}
use Rattle.st_reading.specs.declared.mark.Mark.TheVariants as marks
use Rattle.st_reading.specs.Sign.{is}
use Rattle.st_reading.specs.Faults.{Passed, passed}
use Rattle.st_reading.specs.Reading.{Label, ahead, place_of, name_of, is_name, refusal, gives, then_reads, on_operator, Counted}
use Rattle.st_reading.proofs.Soundness.{split, values}
use Rattle.spl_parser.specs.declared.sign.Start.{Start}
use Rattle.spl_parser.specs.Signs.{start}
use Rattle.expression_parser.specs.ExpressionTree.{Expr}
use Rattle.spl_parser.specs.ProgramTree.{Statement, stated, assign}
use Rattle.spl_parser.specs.Begun.{Begun, fresh, after_name, after_label}
use Rattle.expression_parser.specs.Reading.{Reader}
use Rattle.spl_parser.specs.Statements.{Lower, goes_on, front_place, limited, right_side_of, assigned_of, action_of, standing, bare_of, named_of, statement_of, inside}
use Rattle.spl_parser.specs.Programs.{Limits, totals}
use Rattle.spl_parser.proofs.InsideLaw.{unlimited}
use Rattle.program_limits.specs.Order.{front_of, statement_counts}
use Rattle.program_limits.proofs.Walking.{passes, walk_step, meets_test}
use Rattle.program_limits.proofs.Besides.{BesideAt, Besides, ItemBesides, beside_cond, beside_fault}
use Rattle.program_limits.proofs.StatementsBeside.{inner_counts, statement_beside}

-- the place of a statement's first token
abbrev pub front : Statement → ℕ
front (stated label place a) = front_of label place

-- A STATEMENT BEGINS WHERE IT WAS READ FROM
module _ (value : Reader Expr) (lower : Lower) where
  bare_front : (inner : Bool) (label : Option Label) (n : ℕ) (s : Stream) (x : Counted Statement) (rest : Stream) → bare_of value lower inner label n s ≡ Ok (x, rest) → front x.0 ≡ front_of label (place_of s)
  unfolding bare_of
  bare_front inner label n s x rest h = at_start (start (ahead s)) h
    where
      at_start : (c : Option Start) → on_operator c (Err (refusal s)) (λ x. then_reads (action_of value lower inner n (name_of s) x) (λ a. gives (standing label (place_of s) a)) (behind s)) ≡ Ok (x, rest) → front x.0 ≡ front_of label (place_of s)
      at_start None h = cc
      at_start (Some z) h =
          let k = split (action_of value lower inner n (name_of s) z) (λ a. gives (standing label (place_of s) a)) (behind s) x rest h in
          sym (ap (λ (y : Counted Statement). front y.0) (values {X = Passed} (gives (standing label (place_of s) k.value) k.middle) (standing label (place_of s) k.value) x k.middle rest refl k.second).0)

  assigned_front : (l : Label) (n : ℕ) (s : Stream) (x : Counted Statement) (rest : Stream) → assigned_of value l n s ≡ Ok (x, rest) → front x.0 ≡ l.place
  unfolding assigned_of
  assigned_front l n s x rest h =
      let k = split (right_side_of value) (λ e. gives (stated None l.place (assign l e), n)) s x rest h in
      sym (ap (λ (y : Counted Statement). front y.0) (values {X = Passed} (gives (stated None l.place (assign l k.value), n) k.middle) (stated None l.place (assign l k.value), n) x k.middle rest refl k.second).0)

  name_place : (s : Stream) → is_name (ahead s) ≡ true → (name_of s).place ≡ place_of s
  name_place (ends q) h = cc
  name_place (breaks f) h = cc
  name_place (more t s) h = refl

  named_front : (l : Label) (n : ℕ) (s : Stream) (x : Counted Statement) (rest : Stream) → named_of value lower l n s ≡ Ok (x, rest) → front x.0 ≡ l.place
  unfolding named_of
  named_front l n s x rest h = at_colon (is (ahead s) marks.Colon) h
    where
      at_colon : (b : Bool) → cond b (bare_of value lower false (Some l) n (behind s)) (assigned_of value l n s) ≡ Ok (x, rest) → front x.0 ≡ l.place
      at_colon true h = bare_front false (Some l) n (behind s) x rest h
      at_colon false h = assigned_front l n s x rest h

  pub statement_front : (b : Begun) (n : ℕ) (s : Stream) (x : Counted Statement) (rest : Stream) → statement_of value lower b n s ≡ Ok (x, rest) → front x.0 ≡ front_place b (place_of s)
  unfolding statement_of
  statement_front (fresh true) n s x rest h = bare_front true None n s x rest h
  statement_front (fresh false) n s x rest h = at_name (is_name (ahead s)) refl h
    where
      at_name : (b : Bool) → b ≡ is_name (ahead s) → cond b (named_of value lower (name_of s) n (behind s)) (bare_of value lower false None n s) ≡ Ok (x, rest) → front x.0 ≡ place_of s
      at_name true e h = named_front (name_of s) n (behind s) x rest h ∙ name_place s (sym e)
      at_name false e h = bare_front false None n s x rest h
  statement_front (after_name l) n s x rest h = assigned_front l n s x rest h
  statement_front (after_label l) n s x rest h = bare_front false (Some l) n s x rest h

-- A STATEMENT, WHERE ONE MORE MAY BEGIN
module _ (limit : Limits) (p v : ℕ) (value : Reader Expr) where
  module _ (counts further : Statement → List Passed) (own : (x : Statement) → counts x ≡ passed limits.Statements (front x) ∷ further x) (r q : Lower)
      (begins : (b : Begun) (n : ℕ) (s : Stream) (x : Counted Statement) (rest : Stream) → q b n s ≡ Ok (x, rest) → front x.0 ≡ front_place b (place_of s))
      (h : (b : Begun) (n : ℕ) (before : List Passed) → Besides limit (totals p v (n + 1)) before (λ x. before ++ further x.0) (λ x. totals p v x.1) (r b n) (q b n)) where
    one_more : (b : Begun) (n : ℕ) (before : List Passed) (s : Stream) → BesideAt limit (totals p v n) before (λ x. before ++ counts x.0) (λ x. totals p v x.1) (cond (limit.statements n) (r b n s) (limited value limits.Statements b s)) (q b n s)
    one_more b n before s x rest e =
        let c = passed limits.Statements (front_place b (place_of s)) in
        let same = ap (λ z. passed limits.Statements z ∷ further x.0) (begins b n s x rest e) in
        let k = h b n (before ++ c ∷ []) s x rest e in
        record {
          counts = c ∷ k.counts;
          is = ap (λ z. before ++ z) (own x.0 ∙ same) ∙ sym (append_assoc before (c ∷ []) (further x.0)) ∙ k.is ∙ append_assoc before (c ∷ []) k.counts;
          meets = meets_test limit (totals p v n) (totals p v (n + 1)) (totals p v x.1) c (limit.statements n) refl (r b n s) x rest k.counts k.meets;
        }

    admitted_beside : (b : Begun) (n : ℕ) (before : List Passed) (s : Stream)
        → BesideAt limit (totals p v n) before (λ x. before ++ counts x.0) (λ x. totals p v x.1) (cond (goes_on b (ahead s)) (cond (limit.statements n) (r b n s) (limited value limits.Statements b s)) (Err (refusal s))) (cond (goes_on b (ahead s)) (q b n s) (Err (refusal s)))
    admitted_beside b n before s =
        beside_cond limit (totals p v n) before (λ x. before ++ counts x.0) (λ x. totals p v x.1) (goes_on b (ahead s)) (cond (limit.statements n) (r b n s) (limited value limits.Statements b s)) (Err (refusal s)) (q b n s) (Err (refusal s)) (one_more b n before s)
        (beside_fault limit (totals p v n) before (λ x. before ++ counts x.0) (λ x. totals p v x.1) (Err (refusal s)) (refusal s))

  -- too deep: no statement may stand there
  abbrev deep_counts : Statement → List Passed
  deep_counts x = passed limits.Nesting (front x) ∷ []

  none_left : (x : Statement) → statement_counts zero x ≡ passed limits.Statements (front x) ∷ deep_counts x
  none_left (stated label place a) = refl

  one_left : (levels : ℕ) (x : Statement) → statement_counts (suc levels) x ≡ passed limits.Statements (front x) ∷ inner_counts levels x
  one_left levels (stated label place a) = refl

  deep_beside : (q : Lower) → ((b : Begun) (n : ℕ) (s : Stream) (x : Counted Statement) (rest : Stream) → q b n s ≡ Ok (x, rest) → front x.0 ≡ front_place b (place_of s))
      → (b : Begun) (n : ℕ) (before : List Passed) → Besides limit (totals p v (n + 1)) before (λ x. before ++ deep_counts x.0) (λ x. totals p v x.1) (limited value limits.Nesting b) (q b n)
  deep_beside q begins b n before s x rest e =
      let c = passed limits.Nesting (front_place b (place_of s)) in
      record {
        counts = c ∷ [];
        is = ap (λ z. before ++ passed limits.Nesting z ∷ []) (begins b n s x rest e);
        meets = passes c (walk_step limit (totals p v (n + 1)) c [] (Err c) refl) refl;
      }

  -- what reads statements inside others, without limits
  abbrev free : ℕ → Lower
  free room b n = statement_of value (inside value unlimited room) b (n + 1)

  free_begins : (room : ℕ) (b : Begun) (n : ℕ) (s : Stream) (x : Counted Statement) (rest : Stream) → free room b n s ≡ Ok (x, rest) → front x.0 ≡ front_place b (place_of s)
  free_begins room b n s x rest h = statement_front value (inside value unlimited room) b (n + 1) s x rest h

  pub inside_beside : (room room2 : ℕ) → room < room2 → (b : Begun) → ItemBesides limit (statement_counts room) (λ n. totals p v n) (inside value limit.statements room b) (inside value unlimited room2 b)
  unfolding inside
  inside_beside room zero le b n before s = absurd (omega arith)
  inside_beside zero (suc m) le b n before s = admitted_beside (statement_counts zero) deep_counts none_left (λ c k. limited value limits.Nesting c) (free m) (free_begins m) (deep_beside (free m) (free_begins m)) b n before s
  inside_beside (suc room) (suc m) le b n before s =
      admitted_beside (statement_counts (suc room)) (inner_counts room) (one_left room) (λ c k. statement_of value (inside value limit.statements room) c (k + 1)) (free m) (free_begins m)
      (λ c k. statement_beside limit p v value room (inside value limit.statements room) (inside value unlimited m) (inside_beside room m (omega arith)) c (k + 1)) b n before s
