-- What is a statement by the grammar is read at every level, where it may stand.
use Rattle.std.proofs.Common.{◌≡◌, ℕ, zero, suc, ◌+◌, ◌≤◌, Bool, true, false, cond, List, Option, Some, None, Ok, Err, refl, sym, ap, ◌∙◌, arith}
use Rattle.st_tokens.specs.Stream.{◌++>◌, Lexeme, Stream, more}
use Rattle.st_reading.specs.declared.mark.Mark.TheVariants as marks
use Rattle.st_reading.specs.declared.sign.Sign.{Sign}
use Rattle.st_reading.specs.declared.sign.Sign.TheVariants as signs
use Rattle.st_reading.specs.Mark.{number}
use Rattle.st_reading.specs.Sign.{sign_of, is}
use Rattle.st_reading.specs.Faults.{Passed}
use Rattle.st_reading.specs.Reading.{Read, ◌>>=◌, ahead, label_of, is_name, gives, Counted}
use Rattle.st_reading.specs.Spelling.{Sound, Is, IsName}
use Rattle.st_reading.proofs.ListCompleteness.{Complete, Counts}
use Rattle.spl_parser.specs.declared.sign.Start.{Start}
use Rattle.spl_parser.specs.declared.sign.Start.TheVariants as starts
use Rattle.spl_parser.specs.Signs.{start, basic_start, nested_starts, begins, is_inner}
use Rattle.expression_parser.specs.ExpressionTree.{Expr}
use Rattle.expression_parser.specs.Signs.{at_mark}
use Rattle.spl_parser.specs.ProgramTree.{Statement, stated, Action, assign}
use Rattle.spl_parser.specs.Begun.{Begun, fresh, after_name, after_label}
use Rattle.expression_parser.specs.Calm.{calm}
use Rattle.expression_parser.specs.Reading.{Reader}
use Rattle.spl_parser.specs.Statements.{Lower, right_side_of, assigned_of, action_of, standing, bare_of, named_of, statement_of, inside}
use Rattle.spl_parser.specs.Grammar.{IsRightSide, right_side, IsBare, s_assign, s_assign_all, s_skip, s_critical, s_noncritical, s_await, s_request, s_release, s_if, s_while, s_loop, s_block, s_select, s_cooperate, s_group, IsStatement, unlabelled, labelled, Low}
use Rattle.spl_parser.proofs.Tally.{statement_after, action_after, Range, Fits, admitted_there, fits_inside}
use Rattle.spl_parser.proofs.StatementSoundness.{Inner, named_starts}
use Rattle.spl_parser.proofs.ProgramSoundness.{Lowered, inside_sound}
use Rattle.spl_parser.proofs.StatementCompleteness.{unlike, Opening, plainly, by_name, by_label, Reads_all, bare_complete}

-- How the text of a statement without a label begins: with no name, or as an assignment.
data Plain : Stream → Type 0 where
  with_no_name : (s : Stream) → is_name (ahead s) ≡ false → Plain s
  with_target : (t u : Lexeme) (s : Stream) → IsName t → Is marks.Becomes u → Plain (more t (more u s))

-- WHAT STARTS WITH A NAME
abbrev named : Option Start → Bool
named None = false
named (Some starts.Named) = true
named (Some _) = false

-- what starts otherwise is no name
not_named : (g : Sign) (x : Start) → start g ≡ Some x → named (Some x) ≡ false → is_name g ≡ false
not_named signs.Name x e f = let k : true ≡ false = ap named e ∙ f in cc
not_named _ x e f = refl

passed_by : (b : Bool) (x : Start) (rest : Option Start) → named (Some x) ≡ false → named rest ≡ false → named (cond b (Some x) rest) ≡ false
passed_by true x rest h k = h
passed_by false x rest h k = k

nested_unnamed : (g : Sign) → named (at_mark g nested_starts) ≡ false
nested_unnamed g =
    passed_by (is g marks.If) starts.If _ refl (passed_by (is g marks.While) starts.While _ refl (passed_by (is g marks.Loop) starts.Loop _ refl (passed_by (is g marks.OpenBlock) starts.Block _ refl
    (passed_by (is g marks.Select) starts.Select _ refl (passed_by (is g marks.Cobegin) starts.Cooperate _ refl (passed_by (is g marks.OpenGroup) starts.Group None refl refl))))))

basic_unnamed : (g : Sign) → named (basic_start g) ≡ false
basic_unnamed g =
    passed_by (is g marks.Open) starts.Listed _ refl (passed_by (is g marks.Skip) starts.Skip _ refl (passed_by (is g marks.Critical) starts.Critical _ refl (passed_by (is g marks.Noncritical) starts.Noncritical _ refl
    (passed_by (is g marks.Await) starts.Await _ refl (passed_by (is g marks.Request) starts.Request _ refl (passed_by (is g marks.Release) starts.Release _ refl (nested_unnamed g)))))))

named_sign : (g : Sign) → start g ≡ Some starts.Named → is_name g ≡ true
named_sign signs.Name e = refl
named_sign (signs.Marked m) e = let k : true ≡ false = ap named (sym e) ∙ basic_unnamed (signs.Marked m) in cc
named_sign (signs.Numeral n) e = let k : true ≡ false = ap named (sym e) ∙ basic_unnamed (signs.Numeral n) in cc
named_sign signs.Nothing e = let k : true ≡ false = ap named (sym e) ∙ basic_unnamed signs.Nothing in cc
named_sign signs.Other e = let k : true ≡ false = ap named (sym e) ∙ basic_unnamed signs.Other in cc

both_begin : (inner : Bool) (o : Option Start) (x : Start) → o ≡ Some x → is_inner x ≡ true → begins inner o ≡ true
both_begin true o x e h = ap (begins true) e ∙ h
both_begin false o x e h = ap (begins false) e

module _ (V : List Lexeme → Expr → Type 0) (low : Bool → List Lexeme → Statement → Type 0) where
  -- HOW THE TEXT OF A STATEMENT BEGINS
  bare_goes : (inner : Bool) (place : ℕ) (ts : List Lexeme) (a : Action) → IsBare V low inner place ts a → (after : Stream) → begins inner (start (ahead (ts ++> after))) ≡ true
  bare_goes inner place ts a (s_assign i t b e f r) after = both_begin i (start (sign_of t)) starts.Named f refl
  bare_goes inner place ts a (s_assign_all i t u v w z c d targets values f rows1 e1 e2 e3 rows2 e4) after = both_begin i (start (sign_of t)) starts.Listed f refl
  bare_goes inner place ts a (s_skip i t f) after = both_begin i (start (sign_of t)) starts.Skip f refl
  bare_goes inner place ts a (s_critical t f) after = ap (begins false) f
  bare_goes inner place ts a (s_noncritical t f) after = ap (begins false) f
  bare_goes inner place ts a (s_await i t b e f l) after = both_begin i (start (sign_of t)) starts.Await f refl
  bare_goes inner place ts a (s_request t u f e) after = ap (begins false) f
  bare_goes inner place ts a (s_release t u f e) after = ap (begins false) f
  bare_goes inner place ts a (s_if i t u v b c d e x y f lv g lx ly k) after = both_begin i (start (sign_of t)) starts.If f refl
  bare_goes inner place ts a (s_while t u b c e x f lv g lx) after = ap (begins false) f
  bare_goes inner place ts a (s_loop t u v c x f g k lx) after = ap (begins false) f
  bare_goes inner place ts a (s_block i t u b xs f rows e) after = both_begin i (start (sign_of t)) starts.Block f refl
  bare_goes inner place ts a (s_select t u v b xs f g rows e) after = ap (begins false) f
  bare_goes inner place ts a (s_cooperate t u b xs f rows e) after = ap (begins false) f
  bare_goes inner place ts a (s_group t u b xs f rows e) after = ap (begins false) f

  assign_plain : (t : Lexeme) → start (sign_of t) ≡ Some starts.Named → (ts : List Lexeme) (e : Expr) → IsRightSide V ts e → (after : Stream) → Plain (more t (ts ++> after))
  assign_plain t f ts e (right_side u b x g l) after = with_target t u (b ++> after) (named_sign (sign_of t) f) g

  bare_plain : (inner : Bool) (place : ℕ) (ts : List Lexeme) (a : Action) → IsBare V low inner place ts a → (after : Stream) → Plain (ts ++> after)
  bare_plain inner place ts a (s_assign i t b e f r) after = assign_plain t f b e r after
  bare_plain inner place ts a (s_assign_all i t u v w z c d targets values f rows1 e1 e2 e3 rows2 e4) after = with_no_name _ (not_named (sign_of t) starts.Listed f refl)
  bare_plain inner place ts a (s_skip i t f) after = with_no_name _ (not_named (sign_of t) starts.Skip f refl)
  bare_plain inner place ts a (s_critical t f) after = with_no_name _ (not_named (sign_of t) starts.Critical f refl)
  bare_plain inner place ts a (s_noncritical t f) after = with_no_name _ (not_named (sign_of t) starts.Noncritical f refl)
  bare_plain inner place ts a (s_await i t b e f l) after = with_no_name _ (not_named (sign_of t) starts.Await f refl)
  bare_plain inner place ts a (s_request t u f e) after = with_no_name _ (not_named (sign_of t) starts.Request f refl)
  bare_plain inner place ts a (s_release t u f e) after = with_no_name _ (not_named (sign_of t) starts.Release f refl)
  bare_plain inner place ts a (s_if i t u v b c d e x y f lv g lx ly k) after = with_no_name _ (not_named (sign_of t) starts.If f refl)
  bare_plain inner place ts a (s_while t u b c e x f lv g lx) after = with_no_name _ (not_named (sign_of t) starts.While f refl)
  bare_plain inner place ts a (s_loop t u v c x f g k lx) after = with_no_name _ (not_named (sign_of t) starts.Loop f refl)
  bare_plain inner place ts a (s_block i t u b xs f rows e) after = with_no_name _ (not_named (sign_of t) starts.Block f refl)
  bare_plain inner place ts a (s_select t u v b xs f g rows e) after = with_no_name _ (not_named (sign_of t) starts.Select f refl)
  bare_plain inner place ts a (s_cooperate t u b xs f rows e) after = with_no_name _ (not_named (sign_of t) starts.Cooperate f refl)
  bare_plain inner place ts a (s_group t u b xs f rows e) after = with_no_name _ (not_named (sign_of t) starts.Group f refl)

  pub statement_goes : (inner : Bool) (ts : List Lexeme) (x : Statement) → IsStatement V low inner ts x → (after : Stream) → begins inner (start (ahead (ts ++> after))) ≡ true
  statement_goes inner ts x (unlabelled i place b a l) after = bare_goes i place b a l after
  statement_goes inner ts x (labelled t u place b a e f l) after = ap (begins false) (named_starts V low t e)

  opens_plainly : (s : Stream) → Plain s → Opening s
  opens_plainly s (with_no_name r e) = plainly r e
  opens_plainly s (with_target t u r e f) = by_name t u r e f

  statement_opens : (inner : Bool) (ts : List Lexeme) (x : Statement) → IsStatement V low inner ts x → (after : Stream) → Opening (ts ++> after)
  statement_opens inner ts x (unlabelled i place b a l) after = opens_plainly (b ++> after) (bare_plain i place b a l after)
  statement_opens inner ts x (labelled t u place b a e f l) after = by_label t u (b ++> after) e f (bare_goes false place b a l after)

module _ (value : Reader Expr) (V VS : List Lexeme → Expr → Type 0) (vc : Complete calm value V) (sv : Sound value VS) (may : ℕ → Bool) where
  -- STATEMENTS BEHIND THEIR FIRST NAME
  module _ (lower : Lower) where
    assigned_bare : (t : Lexeme) → IsName t → (n : ℕ) (s : Stream) → assigned_of value (label_of t) n s ≡ bare_of value lower false None n (more t s)
    unfolding assigned_of bare_of action_of
    assigned_bare t e n s = let f = named_starts V (λ inner ts x. ⊥) t e in rw f (same (right_side_of value s))
      where
        same : (o : Read Passed Expr) → (o >>= λ y. gives {X = Passed} {A = Counted Statement} (stated None t.start (assign (label_of t) y.0), n) y.1) ≡ ((o >>= λ y. gives {X = Passed} {A = Counted Action} (assign (label_of t) y.0, n) y.1) >>= λ a. gives {X = Passed} {A = Counted Statement} (standing None t.start a.0) a.1)
        same (Ok y) = refl
        same (Err g) = refl

    pub named_as : (t u : Lexeme) (s : Stream) (n : ℕ) → IsName t → Is marks.Becomes u → statement_of value lower (after_name (label_of t)) n (more u s) ≡ statement_of value lower (fresh false) n (more t (more u s))
    unfolding statement_of named_of number
    named_as t u s n e f = let no_colon : is (sign_of u) marks.Colon ≡ false = unlike marks.Becomes marks.Colon refl u f in rw (e, no_colon) refl

    pub labelled_as : (t u : Lexeme) (s : Stream) (n : ℕ) → IsName t → Is marks.Colon u → statement_of value lower (after_label (label_of t)) n s ≡ statement_of value lower (fresh false) n (more t (more u s))
    unfolding statement_of named_of
    labelled_as t u s n e f = rw (e, f) refl

    plain_as : (n : ℕ) (s : Stream) → Plain s → statement_of value lower (fresh false) n s ≡ bare_of value lower false None n s
    unfolding statement_of named_of number
    plain_as n s (with_no_name r e) = rw e refl
    plain_as n s (with_target t u r e f) = let no_colon : is (sign_of u) marks.Colon ≡ false = unlike marks.Becomes marks.Colon refl u f in rw (e, no_colon) (assigned_bare t e n (more u r))

    labelled_bare : (t u : Lexeme) (s : Stream) (n : ℕ) → IsName t → Is marks.Colon u → statement_of value lower (fresh false) n (more t (more u s)) ≡ bare_of value lower false (Some (label_of t)) n s
    unfolding statement_of named_of
    labelled_bare t u s n e f = rw (e, f) refl

    bare_inner : (n : ℕ) (s : Stream) → statement_of value lower (fresh true) n s ≡ bare_of value lower true None n s
    unfolding statement_of
    bare_inner n s = refl

  -- what comes behind a statement's own count
  abbrev within_after : Statement → ℕ → ℕ
  within_after (stated label place a) n = action_after a n

  module _ (lower : Lower) (LL : Begun → List Lexeme → Statement → Type 0) (sl : Inner VS lower LL) (low : Bool → List Lexeme → Statement → Type 0) (cl : Reads_all may lower low) where
    statement_complete : (inner : Bool) (n : ℕ) (ts : List Lexeme) (x : Statement) → IsStatement V low inner ts x → Range may n (within_after x n) → (after : Stream) → calm (ahead after) ≡ true → statement_of value lower (fresh inner) n (ts ++> after) ≡ Ok ((x, within_after x n), after)
    statement_complete inner n ts x (unlabelled true place b a l) fits after h = bare_inner lower n (b ++> after) ∙ bare_complete value V VS vc sv lower LL sl low may cl true place b a l None n fits after h
    statement_complete inner n ts x (unlabelled false place b a l) fits after h =
        plain_as lower n (b ++> after) (bare_plain V low false place b a l after) ∙ bare_complete value V VS vc sv lower LL sl low may cl false place b a l None n fits after h
    statement_complete inner n ts x (labelled t u place b a e f l) fits after h = labelled_bare lower t u (b ++> after) n e f ∙ bare_complete value V VS vc sv lower LL sl low may cl false place b a l (Some (label_of t)) n fits after h

  -- AT EVERY LEVEL
  named_there : (m : ℕ) (t u : Lexeme) (s : Stream) (n : ℕ) → IsName t → Is marks.Becomes u → inside value may m (after_name (label_of t)) n (more u s) ≡ inside value may m (fresh false) n (more t (more u s))
  unfolding inside
  named_there zero t u s n e f = let k = named_starts V (λ inner ts x. ⊥) t e in rw (f, k) refl
  named_there (suc m) t u s n e f = let k = named_starts V (λ inner ts x. ⊥) t e in rw (f, k, named_as (inside value may m) t u s (n + 1) e f) refl

  labelled_there : (m : ℕ) (t u : Lexeme) (s : Stream) (n : ℕ) → IsName t → Is marks.Colon u → begins false (start (ahead s)) ≡ true → inside value may m (after_label (label_of t)) n s ≡ inside value may m (fresh false) n (more t (more u s))
  unfolding inside
  labelled_there zero t u s n e f g = let k = named_starts V (λ inner ts x. ⊥) t e in rw (g, k) refl
  labelled_there (suc m) t u s n e f g = let k = named_starts V (λ inner ts x. ⊥) t e in rw (g, k, labelled_as (inside value may m) t u s (n + 1) e f) refl

  there : (m : ℕ) (inner : Bool) (n : ℕ) (s : Stream) → begins inner (start (ahead s)) ≡ true → may n ≡ true → inside value may (suc m) (fresh inner) n s ≡ statement_of value (inside value may m) (fresh inner) (n + 1) s
  unfolding inside
  there m inner n s g h = rw (g, h) refl

  level_complete : (k m : ℕ) → Reads_all may (inside value may m) (Low V k) → (inner : Bool) → Counts calm (inside value may (suc m) (fresh inner)) (Low V (suc k) inner) statement_after (Fits may)
  level_complete k m deeper inner n ts (stated label place a) l fits after h =
      there m inner n (ts ++> after) (statement_goes V (Low V k) inner ts (stated label place a) l after) (admitted_there may a n fits)
      ∙ statement_complete (inside value may m) (Lowered VS m) (inside_sound value VS sv may m) (Low V k) deeper inner (n + 1) ts (stated label place a) l (fits_inside may a n fits) after h

  pub inside_complete : (k m : ℕ) → k ≤ m → Reads_all may (inside value may m) (Low V k)
  inside_complete zero m le = record {
    complete = λ inner n ts x l. absurd l;
    named = named_there m;
    labels = labelled_there m;
    opens = λ ts x l. absurd l;
  }
  inside_complete (suc k) zero le = absurd (omega arith)
  inside_complete (suc k) (suc m) le = record {
    complete = level_complete k m (inside_complete k m (omega arith));
    named = named_there (suc m);
    labels = labelled_there (suc m);
    opens = λ ts x l after. statement_opens V (Low V k) false ts x l after;
  }
