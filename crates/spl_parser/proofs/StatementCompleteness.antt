-- What is a statement by the grammar is read, where no token follows that continues it.
use Rattle.std.proofs.Common.{◌≡◌, ℕ, Bool, true, false, List, [], ◌∷◌, ◌++◌, Option, Some, None, Ok, refl, sym, ap, ◌∙◌, append-nil, append_assoc}
use Rattle.st_tokens.specs.Stream.{◌++>◌, Lexeme, Stream, more}
use Rattle.st_reading.specs.declared.mark.Mark.{Mark}
use Rattle.st_reading.specs.declared.mark.Mark.TheVariants as marks
use Rattle.st_reading.specs.declared.sign.Sign.{Sign}
use Rattle.st_reading.specs.declared.sign.Sign.TheVariants as signs
use Rattle.st_reading.specs.Mark.{number}
use Rattle.st_reading.specs.Sign.{sign_of, is}
use Rattle.st_reading.specs.Faults.{Passed}
use Rattle.st_reading.specs.Reading.{Read, ◌>>=◌, Label, ahead, label_of, is_name, named, expected, gives, then_reads, Turn, leaves, goes, turned, size, only, Counted}
use Rattle.st_reading.specs.Spelling.{Sound, Is, IsName, OneName, one_name, Items, no_items, item_more, Row, row, Row2}
use Rattle.st_reading.specs.Steady.{anything}
use Rattle.st_reading.proofs.Streams.{append_stream}
use Rattle.st_reading.proofs.Steadiness.{bind_ok}
use Rattle.st_reading.proofs.Numbers.{is_marked}
use Rattle.st_reading.proofs.Soundness.{Shrinks, sound_shrinks}
use Rattle.st_reading.proofs.Shrinking.{shrinks_map, shrinks_named}
use Rattle.st_reading.proofs.Chains.{chain_none, chain_step}
use Rattle.st_reading.proofs.Loops.{only_some}
use Rattle.st_reading.proofs.ListCompleteness.{Complete, Counts, all_after, AllFit, expected_is, row2_then_complete, row_counts, row2_counts}
use Rattle.spl_parser.specs.declared.sign.Start.{Start}
use Rattle.spl_parser.specs.declared.sign.Start.TheVariants as starts
use Rattle.spl_parser.specs.Signs.{start, begins}
use Rattle.expression_parser.specs.ExpressionTree.{Expr}
use Rattle.spl_parser.specs.ProgramTree.{Statement, stated, statements, Branch, branch, conditional, Action, skip, critical, noncritical, assign, assign_all, await, request, release, while_do, forever, block, select, cooperate, group, Body, body, bodies}
use Rattle.spl_parser.specs.Item.{last, item}
use Rattle.spl_parser.specs.Begun.{Begun, fresh, after_name, after_label}
use Rattle.expression_parser.specs.Calm.{calm, calm_but}
use Rattle.expression_parser.specs.Reading.{Reader}
use Rattle.spl_parser.specs.Statements.{Lower, listed_of, right_side_of, all_assigned_of, sequence_of, selection_of, an_item, item_of, turned_by, continuing, closed_body, rest_of_body, body_of, child_of, children_of, branch_of, conditional_of, doing, enclosed, action_of, bare_of}
use Rattle.spl_parser.specs.Grammar.{IsRightSide, right_side, IsBranch, without, with_else, IsBody, unnamed, ended, IsChild, child, IsBare, s_assign, s_assign_all, s_skip, s_critical, s_noncritical, s_await, s_request, s_release, s_if, s_while, s_loop, s_block, s_select, s_cooperate, s_group}
use Rattle.expression_parser.proofs.Quiet.{but_calm, but_none}
use Rattle.spl_parser.proofs.BodyLaw.{in_body}
use Rattle.spl_parser.proofs.Tally.{statement_after, action_after, branch_after, statements_after, body_after, bodies_after, Range, Fits, BodyFits, first_part, last_part, statement_rises, branch_rises, statements_all, bodies_all, statements_fit, bodies_fit}
use Rattle.spl_parser.proofs.StatementSoundness.{Inner, IsItem, item_sound, child_sound}

-- what is known of the sign of a mark is known of the mark's tokens
pub known : (set : Sign → Bool) (m : Mark) → set (signs.Marked m) ≡ true → (g : Sign) → is g m ≡ true → set g ≡ true
known set m h g e = ap set (is_marked g m e) ∙ h

-- and it is no other mark
pub unlike : (m k : Mark) → is (signs.Marked m) k ≡ false → (t : Lexeme) → Is m t → is (sign_of t) k ≡ false
unlike m k h t e = ap (λ g. is g k) (is_marked (sign_of t) m e) ∙ h

name_complete : Complete {X = Passed} calm named OneName
name_complete ts l (one_name t e) after h = rw e refl

-- at least two items with commas between them, up to a ")"
listed_complete : {A : Type 0} (r : Reader A) (shrinks : Shrinks r) (L : List Lexeme → A → Type 0) → Complete calm r L → (ts : List Lexeme) (xs : List A) → Row2 marks.Comma L ts xs → (u : Lexeme) → Is marks.Close u → (after : Stream) → listed_of r (ts ++> more u after) ≡ Ok (xs, after)
unfolding listed_of number calm calm_but
listed_complete r shrinks L complete ts xs rows u e after =
    row2_then_complete marks.Comma r shrinks L calm (calm_but marks.Comma) (known calm marks.Comma refl) (but_calm marks.Comma) (but_none marks.Comma) complete (λ ys. then_reads (expected marks.Close) (λ m. gives ys)) ts xs rows (more u after) (known (calm_but marks.Comma) marks.Close refl (sign_of u) e)
    ∙ bind_ok (expected marks.Close) (λ m. gives xs) (more u after) u.start after (expected_is marks.Close u after e)

module _ (value : Reader Expr) (V : List Lexeme → Expr → Type 0) (vc : Complete calm value V) (shrinks : Shrinks value) where
  right_side_complete : Complete calm (right_side_of value) (IsRightSide V)
  unfolding right_side_of
  right_side_complete ts e (right_side t text x f l) after h =
      bind_ok (expected marks.Becomes) (λ m. value) (more t (text ++> after)) t.start (text ++> after) (expected_is marks.Becomes t (text ++> after) f) ∙ vc text x l after h

  all_assigned_complete : (u v w z : Lexeme) (a b : List Lexeme) (targets : List Label) (values : List Expr) → Row2 marks.Comma OneName a targets → Is marks.Close u → Is marks.Becomes v → Is marks.Open w → Row2 marks.Comma V b values → Is marks.Close z
      → (after : Stream) → all_assigned_of value ((a ++ (u ∷ v ∷ w ∷ b ++ z ∷ [])) ++> after) ≡ Ok (assign_all targets w.start values, after)
  unfolding all_assigned_of
  all_assigned_complete u v w z a b targets values rows1 e1 e2 e3 rows2 e4 after =
      let targets_read = listed_complete named shrinks_named OneName name_complete a targets rows1 u e1 (more v (more w ((b ++ z ∷ []) ++> after))) in
      let values_read : listed_of value ((b ++ z ∷ []) ++> after) ≡ Ok (values, after) = ap (listed_of value) (append_stream b (z ∷ []) after) ∙ listed_complete value shrinks V vc b values rows2 z e4 after in
      ap (then_reads (listed_of named) (λ targets. then_reads (expected marks.Becomes) (λ m. then_reads (expected marks.Open) (λ list. then_reads (listed_of value) (λ vs. gives (assign_all targets list vs)))))) (append_stream a (u ∷ v ∷ w ∷ b ++ z ∷ []) after)
      ∙ bind_ok (listed_of named) (λ targets. then_reads (expected marks.Becomes) (λ m. then_reads (expected marks.Open) (λ list. then_reads (listed_of value) (λ vs. gives (assign_all targets list vs))))) (a ++> more u (more v (more w ((b ++ z ∷ []) ++> after)))) targets (more v (more w ((b ++ z ∷ []) ++> after))) targets_read
      ∙ bind_ok (expected marks.Becomes) (λ m. then_reads (expected marks.Open) (λ list. then_reads (listed_of value) (λ vs. gives (assign_all targets list vs)))) (more v (more w ((b ++ z ∷ []) ++> after))) v.start (more w ((b ++ z ∷ []) ++> after)) (expected_is marks.Becomes v (more w ((b ++ z ∷ []) ++> after)) e2)
      ∙ bind_ok (expected marks.Open) (λ list. then_reads (listed_of value) (λ vs. gives (assign_all targets list vs))) (more w ((b ++ z ∷ []) ++> after)) w.start ((b ++ z ∷ []) ++> after) (expected_is marks.Open w ((b ++ z ∷ []) ++> after) e3)
      ∙ bind_ok (listed_of value) (λ vs. gives (assign_all targets w.start vs)) ((b ++ z ∷ []) ++> after) values after values_read

-- How a statement's text begins, as it concerns what is read behind a ";" of a body: with no name; as an assignment; or
-- with a label.
pub data Opening : Stream → Type 0 where
  plainly : (s : Stream) → is_name (ahead s) ≡ false → Opening s
  by_name : (t u : Lexeme) (s : Stream) → IsName t → Is marks.Becomes u → Opening (more t (more u s))
  by_label : (t u : Lexeme) (s : Stream) → IsName t → Is marks.Colon u → begins false (start (ahead s)) ≡ true → Opening (more t (more u s))

-- no statement begins with "]"
begins_no_close : (g : Sign) → begins false (start g) ≡ true → is g marks.CloseBlock ≡ false
unfolding number
begins_no_close g h = at_close (is g marks.CloseBlock) refl
  where
    at_close : (b : Bool) → b ≡ is g marks.CloseBlock → is g marks.CloseBlock ≡ false
    at_close false e = sym e
    at_close true e = let k : false ≡ true = sym (ap (λ g. begins false (start g)) (is_marked g marks.CloseBlock (sym e))) ∙ h in cc

-- What is said of the readers of inner statements: all statements of the grammar are read that may stand there, also if a
-- name or a label was read before; and how their texts begin.
pub record Reads_all (may : ℕ → Bool) (lower : Lower) (low : Bool → List Lexeme → Statement → Type 0) : Type 0 where
  pub complete : (inner : Bool) → Counts calm (lower (fresh inner)) (low inner) statement_after (Fits may)
  pub named : (t u : Lexeme) (s : Stream) (n : ℕ) → IsName t → Is marks.Becomes u → lower (after_name (label_of t)) n (more u s) ≡ lower (fresh false) n (more t (more u s))
  pub labels : (t u : Lexeme) (s : Stream) (n : ℕ) → IsName t → Is marks.Colon u → begins false (start (ahead s)) ≡ true → lower (after_label (label_of t)) n s ≡ lower (fresh false) n (more t (more u s))
  pub opens : (ts : List Lexeme) (x : Statement) → low false ts x → (after : Stream) → Opening (ts ++> after)

module _ (value : Reader Expr) (V VS : List Lexeme → Expr → Type 0) (vc : Complete calm value V) (sv : Sound value VS) (lower : Lower) (LL : Begun → List Lexeme → Statement → Type 0) (sl : Inner VS lower LL) (low : Bool → List Lexeme → Statement → Type 0) (may : ℕ → Bool) (cl : Reads_all may lower low) where
  lower_shrinks : (b : Begun) (n : ℕ) → Shrinks (lower b n)
  lower_shrinks b n = sound_shrinks (lower b n) (λ ts x. LL b ts x.0) (sl.sound b n)

  value_shrinks : Shrinks value
  value_shrinks = sound_shrinks value VS sv

  sequence_complete : (inner : Bool) (n : ℕ) (ts : List Lexeme) (xs : List Statement) → Row marks.Semicolon (low inner) ts xs → Range may n (statements_after (statements xs) n) → (after : Stream) → in_body (ahead after) ≡ true
      → sequence_of value lower inner n (ts ++> after) ≡ Ok ((xs, statements_after (statements xs) n), after)
  unfolding sequence_of calm number
  sequence_complete inner n ts xs rows f after h =
      row_counts marks.Semicolon (lower (fresh inner)) (lower_shrinks (fresh inner)) (low inner) statement_after (Fits may) calm in_body (known calm marks.Semicolon refl) (but_calm marks.Semicolon) (but_none marks.Semicolon) (cl.complete inner) n ts xs rows (statements_fit may xs n f) after h
      ∙ ap (λ m. Ok ((xs, m), after)) (sym (statements_all xs n))

  selection_complete : (n : ℕ) (ts : List Lexeme) (xs : List Statement) → Row2 marks.Either (low false) ts xs → Range may n (statements_after (statements xs) n) → (after : Stream) → calm_but marks.Either (ahead after) ≡ true
      → selection_of value lower n (ts ++> after) ≡ Ok ((xs, statements_after (statements xs) n), after)
  unfolding selection_of calm number
  selection_complete n ts xs rows f after h =
      row2_counts marks.Either (lower (fresh false)) (lower_shrinks (fresh false)) (low false) statement_after (Fits may) calm (calm_but marks.Either) (known calm marks.Either refl) (but_calm marks.Either) (but_none marks.Either) (cl.complete false) n ts xs rows (statements_fit may xs n f) after h
      ∙ ap (λ m. Ok ((xs, m), after)) (sym (statements_all xs n))

  -- ITEMS OF A BODY
  -- a statement that opens so is read as an item
  item_as : (n : ℕ) (s : Stream) → Opening s → item_of value lower n s ≡ then_reads (lower (fresh false) n) (λ x. gives (an_item x)) s
  unfolding item_of number
  item_as n s (plainly r e) = rw e refl
  item_as n s (by_name t u r e f) =
      let no_colon : is (sign_of u) marks.Colon ≡ false = unlike marks.Becomes marks.Colon refl u f in
      rw (e, no_colon) (ap (λ (o : Read Passed (Counted Statement)). o >>= λ x. gives (an_item x.0) x.1) (cl.named t u r n e f))
  item_as n s (by_label t u r e f g) =
      let no_end : is (ahead r) marks.CloseBlock ≡ false = begins_no_close (ahead r) g in
      rw (e, f, no_end) (ap (λ (o : Read Passed (Counted Statement)). o >>= λ x. gives (an_item x.0) x.1) (cl.labels t u r n e f g))

  item_complete : (n : ℕ) (ts : List Lexeme) (x : Statement) → low false ts x → Fits may x n → (after : Stream) → calm (ahead after) ≡ true → item_of value lower n (ts ++> after) ≡ Ok ((item x, statement_after x n), after)
  item_complete n ts x l f after h = item_as n (ts ++> after) (cl.opens ts x l after) ∙ bind_ok (lower (fresh false) n) (λ x. gives (an_item x)) (ts ++> after) (x, statement_after x n) after (cl.complete false n ts x l f after h)

  last_complete : (n : ℕ) (l c u : Lexeme) (after : Stream) → IsName l → Is marks.Colon c → Is marks.CloseBlock u → item_of value lower n (more l (more c (more u after))) ≡ Ok ((last (label_of l), n), after)
  unfolding item_of
  last_complete n l c u after e f g = rw (e, f, g) refl

  -- BODIES
  item_shrinks : (n : ℕ) → Shrinks (item_of value lower n)
  item_shrinks n = sound_shrinks (item_of value lower n) (λ ts y. IsItem value VS sv lower LL sl ts y.0) (item_sound value VS sv lower LL sl n)

  grows : (o : Unit {0}) (place : ℕ) (xs : Counted (List Statement)) → Shrinks {A = Turn (Counted Body) (Counted (List Statement))} (continuing value lower o place xs)
  grows o place xs = shrinks_map (turned_by xs.0) (item_of value lower xs.1) (item_shrinks xs.1)

  between : (b : List Lexeme) (ys : List Statement) → Items marks.Semicolon (low false) b ys → (s : Stream) → calm (ahead s) ≡ true → calm (ahead (b ++> s)) ≡ true
  unfolding number calm
  between b ys no_items s h = h
  between b ys (item_more t a c y zs e l rest) s h = known calm marks.Semicolon refl (sign_of t) e

  -- how a body ends, whatever stands in it
  abbrev Ends : Stream → Option Label → Stream → Type 0
  Ends s label after = (xs : List Statement) (n : ℕ) → rest_of_body value lower (xs, n) s ≡ Ok ((body (statements xs) label, n), after)

  -- one turn of the loop
  at_semicolon : (t : Lexeme) → Is marks.Semicolon t → (xs : Counted (List Statement)) (s after : Stream) (y : Turn (Counted Body) (Counted (List Statement))) → continuing value lower tt t.start xs s ≡ Ok (y, after)
      → rest_of_body value lower xs (more t s) ≡ turned (rest_of_body value lower) y after
  at_semicolon t e xs s after y turn =
      chain_step (only marks.Semicolon) refl (continuing value lower) closed_body grows t tt xs s (sym (only_some (sign_of t) marks.Semicolon (sym e)))
      ∙ bind_ok (continuing value lower tt t.start xs) (turned (rest_of_body value lower)) s y after turn

  further_items : (b : List Lexeme) (ys : List Statement) → Items marks.Semicolon (low false) b ys → (s : Stream) → calm (ahead s) ≡ true → (label : Option Label) (after : Stream) → Ends s label after
      → (xs : List Statement) (n : ℕ) → AllFit statement_after (Fits may) ys n → rest_of_body value lower (xs, n) (b ++> s) ≡ Ok ((body (statements (xs ++ ys)) label, all_after statement_after ys n), after)
  further_items b ys no_items s h label after done xs n f = done xs n ∙ ap (λ zs. Ok ((body (statements zs) label, n), after)) (sym (append-nil xs))
  further_items b ys (item_more t a c y zs e l rest) s h label after done xs n f =
      let one = item_complete n a y l f.0 (c ++> s) (between c zs rest s h) in
      let turn : continuing value lower tt t.start (xs, n) (a ++> (c ++> s)) ≡ Ok (goes (xs ++ y ∷ [], statement_after y n), c ++> s) = rw one refl in
      ap (λ m. rest_of_body value lower (xs, n) (more t m)) (append_stream a c s)
      ∙ at_semicolon t e (xs, n) (a ++> (c ++> s)) (c ++> s) (goes (xs ++ y ∷ [], statement_after y n)) turn
      ∙ further_items c zs rest s h label after done (xs ++ y ∷ []) (statement_after y n) f.1
      ∙ ap (λ z. Ok ((body (statements z) label, all_after statement_after zs (statement_after y n)), after)) (append_assoc xs (y ∷ []) zs)

  ends_at_close : (u : Lexeme) → Is marks.CloseBlock u → (after : Stream) → Ends (more u after) None after
  unfolding number
  ends_at_close u e after xs n =
      let no_more : is (sign_of u) marks.Semicolon ≡ false = unlike marks.CloseBlock marks.Semicolon refl u e in
      chain_none (only marks.Semicolon) (continuing value lower) closed_body (size (more u after)) (xs, n) (more u after) (rw no_more refl)
      ∙ bind_ok (expected marks.CloseBlock) (λ m. gives (body (statements xs) None, n)) (more u after) u.start after (expected_is marks.CloseBlock u after e)

  ends_with_label : (s l c u : Lexeme) → Is marks.Semicolon s → IsName l → Is marks.Colon c → Is marks.CloseBlock u → (after : Stream) → Ends (more s (more l (more c (more u after)))) (Some (label_of l)) after
  ends_with_label s l c u e f g h after xs n =
      let turn : continuing value lower tt s.start (xs, n) (more l (more c (more u after))) ≡ Ok (leaves (body (statements xs) (Some (label_of l)), n), after) = rw (last_complete n l c u after f g h) refl in
      at_semicolon s e (xs, n) (more l (more c (more u after))) after (leaves (body (statements xs) (Some (label_of l)), n)) turn

  rows_complete : (n : ℕ) (a : List Lexeme) (xs : List Statement) → Row marks.Semicolon (low false) a xs → (s : Stream) → calm (ahead s) ≡ true → (label : Option Label) (after : Stream) → Ends s label after → AllFit statement_after (Fits may) xs n
      → body_of value lower n (a ++> s) ≡ Ok ((body (statements xs) label, all_after statement_after xs n), after)
  unfolding body_of
  rows_complete n a zs (row p q x xs l items) s h label after done f =
      ap (then_reads (lower (fresh false) n) (λ y. rest_of_body value lower (y.0 ∷ [], y.1))) (append_stream p q s)
      ∙ bind_ok (lower (fresh false) n) (λ y. rest_of_body value lower (y.0 ∷ [], y.1)) (p ++> (q ++> s)) (x, statement_after x n) (q ++> s) (cl.complete false n p x l f.0 (q ++> s) (between q xs items s h))
      ∙ further_items q xs items s h label after done (x ∷ []) (statement_after x n) f.1

  body_as : (n : ℕ) (xs : List Statement) (label : Option Label) (s t after : Stream) → s ≡ t → body_of value lower n t ≡ Ok ((body (statements xs) label, all_after statement_after xs n), after)
      → body_of value lower n s ≡ Ok ((body (statements xs) label, statements_after (statements xs) n), after)
  body_as n xs label s t after e h = ap (body_of value lower n) e ∙ h ∙ ap (λ m. Ok ((body (statements xs) label, m), after)) (sym (statements_all xs n))

  pub body_complete : (n : ℕ) (ts : List Lexeme) (y : Body) → IsBody V low ts y → BodyFits may y n → (after : Stream) → body_of value lower n (ts ++> after) ≡ Ok ((y, body_after y n), after)
  unfolding number calm
  body_complete n ts y (unnamed a u xs rows e) f after =
      body_as n xs None ((a ++ u ∷ []) ++> after) (a ++> more u after) after (append_stream a (u ∷ []) after)
      (rows_complete n a xs rows (more u after) (known calm marks.CloseBlock refl (sign_of u) e) None after (ends_at_close u e after) (statements_fit may xs n f))
  body_complete n ts y (ended a s l c u xs rows e g h i) f after =
      body_as n xs (Some (label_of l)) ((a ++ s ∷ l ∷ c ∷ u ∷ []) ++> after) (a ++> more s (more l (more c (more u after)))) after (append_stream a (s ∷ l ∷ c ∷ u ∷ []) after)
      (rows_complete n a xs rows (more s (more l (more c (more u after)))) (known calm marks.Semicolon refl (sign_of s) e) (Some (label_of l)) after (ends_with_label s l c u e g h i after) (statements_fit may xs n f))

  child_complete : (n : ℕ) (ts : List Lexeme) (y : Body) → IsChild V low ts y → BodyFits may y n → (after : Stream) → child_of value lower n (ts ++> after) ≡ Ok ((y, body_after y n), after)
  unfolding child_of
  child_complete n ts y (child t b z e l) f after = bind_ok (expected marks.OpenBlock) (λ m. body_of value lower n) (more t (b ++> after)) t.start (b ++> after) (expected_is marks.OpenBlock t (b ++> after) e) ∙ body_complete n b z l f after

  child_shrinks : (n : ℕ) → Shrinks (child_of value lower n)
  child_shrinks n = sound_shrinks (child_of value lower n) (λ ts y. IsChild VS (λ inner. LL (fresh inner)) ts y.0) (child_sound value VS sv lower LL sl n)

  children_complete : (n : ℕ) (ts : List Lexeme) (xs : List Body) → Row2 marks.Bars (IsChild V low) ts xs → Range may n (bodies_after (bodies xs) n) → (after : Stream) → calm_but marks.Bars (ahead after) ≡ true
      → children_of value lower n (ts ++> after) ≡ Ok ((xs, bodies_after (bodies xs) n), after)
  unfolding children_of
  children_complete n ts xs rows f after h =
      row2_counts marks.Bars (child_of value lower) child_shrinks (IsChild V low) body_after (BodyFits may) anything (calm_but marks.Bars) (λ g e. refl) (λ g e. refl) (but_none marks.Bars) (λ n ts y l f after h. child_complete n ts y l f after) n ts xs rows (bodies_fit may xs n f) after h
      ∙ ap (λ m. Ok ((xs, m), after)) (sym (bodies_all xs n))

  -- A STATEMENT BEHIND ITS FIRST TOKEN
  value_read : (f : Expr → Action) (n : ℕ) (ts : List Lexeme) (e : Expr) → V ts e → (after : Stream) → calm (ahead after) ≡ true → then_reads {B = Counted Action} value (λ e. gives (f e, n)) (ts ++> after) ≡ Ok ((f e, n), after)
  value_read f n ts e l after h = bind_ok value (λ e. gives (f e, n)) (ts ++> after) e after (vc ts e l after h)

  name_read : (f : Label → Action) (n : ℕ) (u : Lexeme) → IsName u → (after : Stream) → then_reads {X = Passed} {B = Counted Action} named (λ m. gives (f m, n)) (more u after) ≡ Ok ((f (label_of u), n), after)
  name_read f n u e after = rw e refl

  enclosed_complete : {A : Type 0} (action : List A → Action) (mark : Mark) (r : Reader (Counted (List A))) (a : List Lexeme) (xs : List A) (count : ℕ) (u : Lexeme) → Is mark u → (after : Stream) → r (a ++> more u after) ≡ Ok ((xs, count), more u after)
      → enclosed action mark r ((a ++ u ∷ []) ++> after) ≡ Ok ((action xs, count), after)
  enclosed_complete action mark r a xs count u e after c =
      ap (enclosed action mark r) (append_stream a (u ∷ []) after)
      ∙ bind_ok r (λ xs. then_reads (expected mark) (λ m. gives (action xs.0, xs.1))) (a ++> more u after) (xs, count) (more u after) c
      ∙ bind_ok (expected mark) (λ m. gives (action xs, count)) (more u after) u.start after (expected_is mark u after e)

  doing_complete : (action : Statement → Action) (n : ℕ) (u : Lexeme) (b : List Lexeme) (x : Statement) → Is marks.Do u → low false b x → Fits may x n → (after : Stream) → calm (ahead after) ≡ true → doing value lower action n (more u (b ++> after)) ≡ Ok ((action x, statement_after x n), after)
  doing_complete action n u b x e l f after h =
      bind_ok (expected marks.Do) (λ m. then_reads (lower (fresh false) n) (λ x. gives (action x.0, x.1))) (more u (b ++> after)) u.start (b ++> after) (expected_is marks.Do u (b ++> after) e)
      ∙ bind_ok (lower (fresh false) n) (λ x. gives (action x.0, x.1)) (b ++> after) (x, statement_after x n) after (cl.complete false n b x l f after h)

  -- "else" and a statement, or nothing, before "fi"
  branch_complete : (inner : Bool) (n : ℕ) (ts : List Lexeme) (y : Branch) → IsBranch V low inner ts y → Range may n (branch_after y n) → (v : Lexeme) → Is marks.Fi v → (after : Stream) → branch_of value lower inner n (ts ++> more v after) ≡ Ok ((y, branch_after y n), more v after)
  unfolding branch_of number calm
  branch_complete inner n ts y without f v g after = let no_else : is (sign_of v) marks.Else ≡ false = unlike marks.Fi marks.Else refl v g in rw no_else refl
  branch_complete inner n ts y (with_else t b x e l) f v g after =
      rw e (bind_ok (lower (fresh inner) n) (λ x. gives (branch x.0, x.1)) (b ++> more v after) (x, statement_after x n) (more v after) (cl.complete inner n b x l f (more v after) (known calm marks.Fi refl (sign_of v) g)))

  branch_begins : (inner : Bool) (ts : List Lexeme) (y : Branch) → IsBranch V low inner ts y → (v : Lexeme) → Is marks.Fi v → (after : Stream) → calm (ahead (ts ++> more v after)) ≡ true
  unfolding number calm
  branch_begins inner ts y without v f after = known calm marks.Fi refl (sign_of v) f
  branch_begins inner ts y (with_else t b x e l) v f after = known calm marks.Else refl (sign_of t) e

  conditional_complete : (inner : Bool) (n : ℕ) (u v : Lexeme) (a b c : List Lexeme) (e : Expr) (x : Statement) (y : Branch) → V a e → Is marks.Then u → low inner b x → IsBranch V low inner c y → Is marks.Fi v → Range may n (branch_after y (statement_after x n))
      → (after : Stream) → conditional_of value lower inner n ((a ++ (u ∷ b ++ (c ++ v ∷ []))) ++> after) ≡ Ok ((conditional e x y, branch_after y (statement_after x n)), after)
  unfolding conditional_of number calm
  conditional_complete inner n u v a b c e x y lv f lx ly g fits after =
      let m = statement_after x n in
      let last = more v after in
      let third = cl.complete inner n b x lx (first_part may n m (branch_after y m) (branch_rises y m) fits) (c ++> last) (branch_begins inner c y ly v g after) in
      let fourth = branch_complete inner m c y ly (last_part may n m (branch_after y m) (statement_rises x n) fits) v g after in
      let texts : (a ++ (u ∷ b ++ (c ++ v ∷ []))) ++> after ≡ a ++> more u (b ++> (c ++> last)) = simp append_stream in
      ap (then_reads value (λ e. then_reads (expected marks.Then) (λ m. then_reads (lower (fresh inner) n) (λ x. then_reads (branch_of value lower inner x.1) (λ y. then_reads (expected marks.Fi) (λ z. gives (conditional e x.0 y.0, y.1))))))) texts
      ∙ bind_ok value (λ e. then_reads (expected marks.Then) (λ m. then_reads (lower (fresh inner) n) (λ x. then_reads (branch_of value lower inner x.1) (λ y. then_reads (expected marks.Fi) (λ z. gives (conditional e x.0 y.0, y.1)))))) (a ++> more u (b ++> (c ++> last))) e (more u (b ++> (c ++> last))) (vc a e lv (more u (b ++> (c ++> last))) (known calm marks.Then refl (sign_of u) f))
      ∙ bind_ok (expected marks.Then) (λ m. then_reads (lower (fresh inner) n) (λ x. then_reads (branch_of value lower inner x.1) (λ y. then_reads (expected marks.Fi) (λ z. gives (conditional e x.0 y.0, y.1))))) (more u (b ++> (c ++> last))) u.start (b ++> (c ++> last)) (expected_is marks.Then u (b ++> (c ++> last)) f)
      ∙ bind_ok (lower (fresh inner) n) (λ x. then_reads (branch_of value lower inner x.1) (λ y. then_reads (expected marks.Fi) (λ z. gives (conditional e x.0 y.0, y.1)))) (b ++> (c ++> last)) (x, m) (c ++> last) third
      ∙ bind_ok (branch_of value lower inner m) (λ y. then_reads (expected marks.Fi) (λ z. gives (conditional e x y.0, y.1))) (c ++> last) (y, branch_after y m) last fourth
      ∙ bind_ok (expected marks.Fi) (λ z. gives (conditional e x y, branch_after y m)) last v.start after (expected_is marks.Fi v after g)

  -- WHOLE STATEMENTS
  from_start : (inner : Bool) (label : Option Label) (n : ℕ) (t : Lexeme) (x : Start) → start (sign_of t) ≡ Some x → (s : Stream) (a : Action) (count : ℕ) (after : Stream) → action_of value lower inner n (label_of t) x s ≡ Ok ((a, count), after)
      → bare_of value lower inner label n (more t s) ≡ Ok ((stated label t.start a, count), after)
  unfolding bare_of
  from_start inner label n t x e s a count after c = rw (e, c) refl

  pub bare_complete : (inner : Bool) (place : ℕ) (ts : List Lexeme) (a : Action) → IsBare V low inner place ts a → (label : Option Label) (n : ℕ) → Range may n (action_after a n) → (after : Stream) → calm (ahead after) ≡ true
      → bare_of value lower inner label n (ts ++> after) ≡ Ok ((stated label place a, action_after a n), after)
  unfolding action_of number calm calm_but
  bare_complete inner place ts a (s_assign i t b e f r) label n fits after h =
      from_start inner label n t starts.Named f (b ++> after) (assign (label_of t) e) n after (bind_ok (right_side_of value) (λ e. gives (assign (label_of t) e, n)) (b ++> after) e after (right_side_complete value V vc value_shrinks b e r after h))
  bare_complete inner place ts a (s_assign_all i t u v w z c d targets values f rows1 e1 e2 e3 rows2 e4) label n fits after h =
      from_start inner label n t starts.Listed f ((c ++ (u ∷ v ∷ w ∷ d ++ z ∷ [])) ++> after) (assign_all targets w.start values) n after
      (bind_ok (all_assigned_of value) (λ a. gives (a, n)) ((c ++ (u ∷ v ∷ w ∷ d ++ z ∷ [])) ++> after) (assign_all targets w.start values) after (all_assigned_complete value V vc value_shrinks u v w z c d targets values rows1 e1 e2 e3 rows2 e4 after))
  bare_complete inner place ts a (s_skip i t f) label n fits after h = from_start inner label n t starts.Skip f after skip n after refl
  bare_complete inner place ts a (s_critical t f) label n fits after h = from_start false label n t starts.Critical f after critical n after refl
  bare_complete inner place ts a (s_noncritical t f) label n fits after h = from_start false label n t starts.Noncritical f after noncritical n after refl
  bare_complete inner place ts a (s_await i t b e f l) label n fits after h = from_start inner label n t starts.Await f (b ++> after) (await e) n after (value_read await n b e l after h)
  bare_complete inner place ts a (s_request t u f e) label n fits after h = from_start false label n t starts.Request f (more u after) (request (label_of u)) n after (name_read request n u e after)
  bare_complete inner place ts a (s_release t u f e) label n fits after h = from_start false label n t starts.Release f (more u after) (release (label_of u)) n after (name_read release n u e after)
  bare_complete inner place ts a (s_if i t u v b c d e x y f lv g lx ly k) label n fits after h =
      from_start inner label n t starts.If f ((b ++ (u ∷ c ++ (d ++ v ∷ []))) ++> after) (conditional e x y) (branch_after y (statement_after x n)) after (conditional_complete inner n u v b c d e x y lv g lx ly k fits after)
  bare_complete inner place ts a (s_while t u b c e x f lv g lx) label n fits after h =
      from_start false label n t starts.While f ((b ++ u ∷ c) ++> after) (while_do e x) (statement_after x n) after
      (ap (then_reads value (λ e. doing value lower (while_do e) n)) (append_stream b (u ∷ c) after)
      ∙ bind_ok value (λ e. doing value lower (while_do e) n) (b ++> more u (c ++> after)) e (more u (c ++> after)) (vc b e lv (more u (c ++> after)) (known calm marks.Do refl (sign_of u) g))
      ∙ doing_complete (while_do e) n u c x g lx fits after h)
  bare_complete inner place ts a (s_loop t u v c x f g k lx) label n fits after h =
      from_start false label n t starts.Loop f (more u (more v (c ++> after))) (forever x) (statement_after x n) after
      (bind_ok (expected marks.Forever) (λ m. doing value lower forever n) (more u (more v (c ++> after))) u.start (more v (c ++> after)) (expected_is marks.Forever u (more v (c ++> after)) g) ∙ doing_complete forever n v c x k lx fits after h)
  bare_complete inner place ts a (s_block i t u b xs f rows e) label n fits after h =
      from_start inner label n t starts.Block f ((b ++ u ∷ []) ++> after) (block (statements xs)) (statements_after (statements xs) n) after
      (enclosed_complete (λ xs. block (statements xs)) marks.CloseBlock (sequence_of value lower inner n) b xs (statements_after (statements xs) n) u e after (sequence_complete inner n b xs rows fits (more u after) (known (calm_but marks.Semicolon) marks.CloseBlock refl (sign_of u) e)))
  bare_complete inner place ts a (s_select t u v b xs f g rows e) label n fits after h =
      let c = enclosed_complete (λ xs. select (statements xs)) marks.CloseBlock (selection_of value lower n) b xs (statements_after (statements xs) n) v e after (selection_complete n b xs rows fits (more v after) (known (calm_but marks.Either) marks.CloseBlock refl (sign_of v) e)) in
      from_start false label n t starts.Select f (more u ((b ++ v ∷ []) ++> after)) (select (statements xs)) (statements_after (statements xs) n) after
      (bind_ok (expected marks.OpenBlock) (λ m. enclosed (λ xs. select (statements xs)) marks.CloseBlock (selection_of value lower n)) (more u ((b ++ v ∷ []) ++> after)) u.start ((b ++ v ∷ []) ++> after) (expected_is marks.OpenBlock u ((b ++ v ∷ []) ++> after) g) ∙ c)
  bare_complete inner place ts a (s_cooperate t u b xs f rows e) label n fits after h =
      from_start false label n t starts.Cooperate f ((b ++ u ∷ []) ++> after) (cooperate (bodies xs)) (bodies_after (bodies xs) n) after
      (enclosed_complete (λ xs. cooperate (bodies xs)) marks.Coend (children_of value lower n) b xs (bodies_after (bodies xs) n) u e after (children_complete n b xs rows fits (more u after) (known (calm_but marks.Bars) marks.Coend refl (sign_of u) e)))
  bare_complete inner place ts a (s_group t u b xs f rows e) label n fits after h =
      from_start false label n t starts.Group f ((b ++ u ∷ []) ++> after) (group (statements xs)) (statements_after (statements xs) n) after
      (enclosed_complete (λ xs. group (statements xs)) marks.CloseGroup (sequence_of value lower true n) b xs (statements_after (statements xs) n) u e after (sequence_complete true n b xs rows fits (more u after) (known (calm_but marks.Semicolon) marks.CloseGroup refl (sign_of u) e)))
