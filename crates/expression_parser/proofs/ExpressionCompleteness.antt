-- What is an expression by the grammar is read, where no token follows that continues it.
use Rattle.std.proofs.Common.{◌≡◌, ℕ, zero, suc, ◌<◌, ◌≤◌, nat_lt, Bool, true, false, cond, List, [], ◌∷◌, ◌++◌, Option, Some, None, Ok, refl, sym, ap, ◌∙◌, arith}
use Rattle.std.proofs.lemmas.Bool.Decides.{nat_tests}
use Rattle.st_tokens.specs.Stream.{◌++>◌, Lexeme, Stream, more}
use Rattle.st_reading.specs.declared.mark.Mark.{Mark}
use Rattle.st_reading.specs.declared.mark.Mark.TheVariants as marks
use Rattle.st_reading.specs.declared.sign.Sign.{Sign}
use Rattle.st_reading.specs.declared.sign.Sign.TheVariants as signs
use Rattle.st_reading.specs.Mark.{number}
use Rattle.st_reading.specs.Sign.{sign_of, is}
use Rattle.st_reading.specs.Reading.{ahead, expected, gives, then_reads, Turn, goes, turned, chain, size, only, listing, further}
use Rattle.st_reading.specs.Spelling.{Sound, Is, Items, no_items, item_more, row2}
use Rattle.st_reading.specs.Steady.{Within}
use Rattle.st_reading.proofs.Streams.{append_stream}
use Rattle.st_reading.proofs.Steadiness.{bind_ok}
use Rattle.st_reading.proofs.Numbers.{is_marked}
use Rattle.st_reading.proofs.Soundness.{Shrinks, sound_shrinks}
use Rattle.st_reading.proofs.Shrinking.{shrinks_map}
use Rattle.st_reading.proofs.Chains.{chain_none, chain_of, chain_step}
use Rattle.st_reading.proofs.ListSoundness.{listing_mapped}
use Rattle.st_reading.proofs.ListCompleteness.{Complete, expected_is, items_complete, list_between}
use Rattle.expression_parser.specs.declared.raw.Operator.{Operator}
use Rattle.expression_parser.specs.declared.raw.Operator.TheVariants as operators
use Rattle.expression_parser.specs.declared.sign.Front.{Front}
use Rattle.expression_parser.specs.declared.sign.Front.TheVariants as fronts
use Rattle.expression_parser.specs.Signs.{front, product_sign, sum_sign, comparison_sign}
use Rattle.expression_parser.specs.ExpressionTree.{Expr, Exprs, Kind, node, all, any, exprs, start_of, kind_of, joined}
use Rattle.expression_parser.specs.Calm.{calm}
use Rattle.expression_parser.specs.Reading.{Reader, Down, Level, formula, negated, signed, closing, atom_of, unary_of, grouping, grouped, product_of, sum_of, compared, comparison_of, negation_at, negation_of, chained, conjunction_of, disjunction_of, implied, expression_of, below}
use Rattle.expression_parser.specs.Grammar.{IsAtom, a_numeral, a_truth, a_name, a_place, a_group, IsUnary, minus, plain, Behind, stop, go, IsGrouped, grouping as a_grouping, IsChained, alone, chained as a_chain, IsProduct, IsSum, IsComparison, sum, compare, IsNegation, tilde, straight, IsConjunction, IsDisjunction, IsExpression, disjunction, implication, Inside, SpellsWithin}
use Rattle.expression_parser.proofs.ExpressionSoundness.{unary_sound, product_sound, negation_sound, conjunction_sound, below_sound}

-- How tightly a token binds, as an operator behind what stands before it; other tokens bind least.
unfoldable pub rank : Sign → ℕ
rank (signs.Marked marks.Times) = 1
rank (signs.Marked marks.Plus) = 2
rank (signs.Marked marks.Minus) = 2
rank (signs.Marked marks.Equal) = 3
rank (signs.Marked marks.Unequal) = 3
rank (signs.Marked marks.Less) = 3
rank (signs.Marked marks.AtMost) = 3
rank (signs.Marked marks.Greater) = 3
rank (signs.Marked marks.AtLeast) = 3
rank (signs.Marked marks.And) = 4
rank (signs.Marked marks.Or) = 5
rank (signs.Marked marks.Implies) = 6
rank _ = 7

-- tokens that bind less tightly
abbrev pub above : ℕ → Sign → Bool
above k g = nat_lt k (rank g)

marked_rank : (g : Sign) (m : Mark) (k : ℕ) → is g m ≡ true → rank (signs.Marked m) ≡ k → rank g ≡ k
marked_rank g m k h e = ap rank (is_marked g m h) ∙ e

-- what a test of marks chooses
chosen : {A : Type 0} (P : Type 0) (b : Bool) (x : A) (rest : Option A) (y : A) → cond b (Some x) rest ≡ Some y → (b ≡ true → P) → (rest ≡ Some y → P) → P
chosen P true x rest y h f g = f refl
chosen P false x rest y h f g = g h

never : {A : Type 0} (P : Type 0) (y : A) → None ≡ Some y → P
never P y h = cc

product_rank : (g : Sign) (o : Operator) → product_sign g ≡ Some o → rank g ≡ 1
unfolding rank
product_rank g o h = chosen (rank g ≡ 1) (is g marks.Times) operators.Times None o h (λ e. marked_rank g marks.Times 1 e refl) (never (rank g ≡ 1) o)

sum_rank : (g : Sign) (o : Operator) → sum_sign g ≡ Some o → rank g ≡ 2
unfolding rank
sum_rank g o h = chosen (rank g ≡ 2) (is g marks.Plus) operators.Plus _ o h (λ e. marked_rank g marks.Plus 2 e refl) (λ h. chosen (rank g ≡ 2) (is g marks.Minus) operators.Minus None o h (λ e. marked_rank g marks.Minus 2 e refl) (never (rank g ≡ 2) o))

comparison_rank : (g : Sign) (o : Operator) → comparison_sign g ≡ Some o → rank g ≡ 3
unfolding rank
comparison_rank g o h =
    let P : Type 0 = rank g ≡ 3 in
    chosen P (is g marks.Equal) operators.Equal _ o h (λ e. marked_rank g marks.Equal 3 e refl)
    (λ h. chosen P (is g marks.Unequal) operators.Unequal _ o h (λ e. marked_rank g marks.Unequal 3 e refl)
    (λ h. chosen P (is g marks.Less) operators.Less _ o h (λ e. marked_rank g marks.Less 3 e refl)
    (λ h. chosen P (is g marks.AtMost) operators.AtMost _ o h (λ e. marked_rank g marks.AtMost 3 e refl)
    (λ h. chosen P (is g marks.Greater) operators.Greater _ o h (λ e. marked_rank g marks.Greater 3 e refl)
    (λ h. chosen P (is g marks.AtLeast) operators.AtLeast None o h (λ e. marked_rank g marks.AtLeast 3 e refl) (never P o))))))

and_rank : (g : Sign) → is g marks.And ≡ true → rank g ≡ 4
unfolding rank
and_rank g h = marked_rank g marks.And 4 h refl

or_rank : (g : Sign) → is g marks.Or ≡ true → rank g ≡ 5
unfolding rank
or_rank g h = marked_rank g marks.Or 5 h refl

implies_rank : (g : Sign) → is g marks.Implies ≡ true → rank g ≡ 6
unfolding rank
implies_rank g h = marked_rank g marks.Implies 6 h refl

above_is : (k : ℕ) (g : Sign) → k < rank g → above k g ≡ true
above_is k g h = grind (arith, nat_tests)

is_above : (k : ℕ) (g : Sign) → above k g ≡ true → k < rank g
is_above k g h = grind (arith, nat_tests)

lower_above : (j k : ℕ) → j ≤ k → Within (above k) (above j)
lower_above j k le g h = let a = is_above k g h in above_is j g (omega arith)

-- an operator that a rank excludes
no_operator : (op : Sign → Option Operator) (k : ℕ) → ((g : Sign) (o : Operator) → op g ≡ Some o → rank g ≡ k) → (g : Sign) → k < rank g → op g ≡ None
no_operator op k ranks g h = at_option (op g) refl
  where
    at_option : (o : Option Operator) → o ≡ op g → op g ≡ None
    at_option None e = sym e
    at_option (Some o) e = absurd (omega (arith, ranks g o (sym e)))

no_mark : (m : Mark) (k : ℕ) → ((g : Sign) → is g m ≡ true → rank g ≡ k) → (g : Sign) → k < rank g → is g m ≡ false
no_mark m k ranks g h = at_bool (is g m) refl
  where
    at_bool : (b : Bool) → b ≡ is g m → is g m ≡ false
    at_bool false e = sym e
    at_bool true e = absurd (omega (arith, ranks g (sym e)))

module _ (op : Sign → Option Operator) (nothing : None ≡ op signs.Nothing) (item : Reader Expr) (shrinks : Shrinks item) (L : List Lexeme → Expr → Type 0) (j k : ℕ) (below_k : j < k) (ranks : (g : Sign) (o : Operator) → op g ≡ Some o → rank g ≡ k) (complete : Complete (above j) item L) where
  between : (x z : Expr) (b : List Lexeme) → Behind op L x b z → (after : Stream) → above k (ahead after) ≡ true → above j (ahead (b ++> after)) ≡ true
  between x z b (stop y) after h = lower_above j k (omega arith) (ahead after) h
  between x z b (go y t o a c u v e l rest) after h = above_is j (sign_of t) (omega (arith, ranks (sign_of t) o e))

  grown : Operator → ℕ → Expr → Expr → Turn Expr Expr
  grown o place x y = goes (joined o place x y)

  grows : (o : Operator) (place : ℕ) (x : Expr) → Shrinks {A = Turn Expr Expr} (grouping item o place x)
  unfolding grown
  grows o place x = shrinks_map (grown o place x) item shrinks

  behind_complete : (x z : Expr) (b : List Lexeme) → Behind op L x b z → (after : Stream) → above k (ahead after) ≡ true → chain op (grouping item) gives (size (b ++> after)) x (b ++> after) ≡ Ok (z, after)
  unfolding grown
  behind_complete x z b (stop y) after h = chain_none op (grouping item) gives (size after) y after (sym (no_operator op k ranks (ahead after) (is_above k (ahead after) h)))
  behind_complete x z b (go y t o a c u v e l rest) after h =
      let read : item (a ++> (c ++> after)) ≡ Ok (u, c ++> after) = complete a u l (c ++> after) (between (joined o t.start y u) v c rest after h) in
      let turn : grouping item o t.start y (a ++> (c ++> after)) ≡ Ok (grown o t.start y u, c ++> after) = rw read refl in
      chain_step op nothing (grouping item) gives grows t o y ((a ++ c) ++> after) e
      ∙ ap (then_reads (grouping item o t.start y) (turned (chain_of op nothing (grouping item) gives grows))) (append_stream a c after)
      ∙ bind_ok (grouping item o t.start y) (turned (chain_of op nothing (grouping item) gives grows)) (a ++> (c ++> after)) (grown o t.start y u) (c ++> after) turn
      ∙ behind_complete (joined o t.start y u) v c rest after h

  pub grouped_complete : Complete (above k) (grouped op item) (IsGrouped op L)
  grouped_complete ts x (a_grouping a b y z l rest) after h =
      ap (grouped op item) (append_stream a b after)
      ∙ bind_ok item (λ x s. chain op (grouping item) gives (size s) x s) (a ++> (b ++> after)) y (b ++> after) (complete a y l (b ++> after) (between y z b rest after h))
      ∙ behind_complete y z b rest after h

module _ (wrap : Exprs → Kind) (mark : Mark) (nothing : None ≡ only mark signs.Nothing) (item : Reader Expr) (shrinks : Shrinks item) (L : List Lexeme → Expr → Type 0) (j k : ℕ) (below_k : j < k) (ranks : (g : Sign) → is g mark ≡ true → rank g ≡ k) (complete : Complete (above j) item L) where
  wrapped : Expr → List Expr → Expr
  wrapped x xs = node (start_of x) (wrap (exprs xs))

  marks_above : (g : Sign) → is g mark ≡ true → above j g ≡ true
  marks_above g e = above_is j g (omega (arith, ranks g e))

  no_more : (g : Sign) → above k g ≡ true → only mark g ≡ None
  no_more g h = let e = no_mark mark k ranks g (is_above k g h) in rw e refl

  -- the mark stands behind the first item
  mark_ahead : (b : List Lexeme) (zs : List Expr) → Items mark L b zs → (y : Expr) (ys : List Expr) → zs ≡ y ∷ ys → (after : Stream) → is (ahead (b ++> after)) mark ≡ true
  mark_ahead b zs no_items y ys is after = cc
  mark_ahead b zs (item_more t a c u us e l rest) y ys is after = e

  listed : (x : Expr) (b : List Lexeme) (y : Expr) (ys : List Expr) → Items mark L b (y ∷ ys) → (after : Stream) → above k (ahead after) ≡ true → chained wrap mark item x (b ++> after) ≡ Ok (wrapped x (x ∷ y ∷ ys), after)
  unfolding wrapped
  listed x b y ys items after h =
      let marked : is (ahead (b ++> after)) mark ≡ true = mark_ahead b (y ∷ ys) items y ys refl after in
      let all_read : further mark item (x ∷ []) (b ++> after) ≡ Ok (x ∷ y ∷ ys, after) = items_complete mark item shrinks L (above j) (above k) marks_above (lower_above j k (omega arith)) no_more complete b (y ∷ ys) items (x ∷ []) after h in
      ap (λ v. cond v (chain (only mark) (listing item) (λ xs. gives (wrapped x xs)) (size (b ++> after)) (x ∷ []) (b ++> after)) (Ok (x, b ++> after))) marked
      ∙ listing_mapped mark item (wrapped x) (size (b ++> after)) (x ∷ []) (b ++> after)
      ∙ bind_ok (further mark item (x ∷ [])) (λ xs. gives (wrapped x xs)) (b ++> after) (x ∷ y ∷ ys) after all_read

  pub chained_complete : Complete (above k) (then_reads item (chained wrap mark item)) (IsChained wrap mark L)
  unfolding wrapped
  chained_complete ts z (alone a y l) after h =
      let e = no_mark mark k ranks (ahead after) (is_above k (ahead after) h) in
      bind_ok item (chained wrap mark item) (a ++> after) y after (complete a y l after (lower_above j k (omega arith) (ahead after) h)) ∙ rw e refl
  chained_complete ts z (a_chain a x y ys (row2 p q u v zs l items)) after h =
      ap (then_reads item (chained wrap mark item)) (append_stream p q after)
      ∙ bind_ok item (chained wrap mark item) (p ++> (q ++> after)) u (q ++> after) (complete p u l (q ++> after) (list_between mark item shrinks L (above j) (above k) marks_above (lower_above j k (omega arith)) no_more complete q (v ∷ zs) items after h))
      ∙ listed u q v zs items after h

-- what binds less than what stands at a level
abbrev pub least : Level → ℕ
least formula = 6
least negated = 3
least signed = 0

module _ (places : Bool) (down : Down) (D E : Level → List Lexeme → Expr → Type 0) (sound : (level : Level) (place : ℕ) → Sound (down level place) (E level)) (deeper : (level : Level) (place : ℕ) → Complete (above (least level)) (down level place) (D level)) where
  group_complete : (t u : Lexeme) (ts : List Lexeme) (x : Expr) → D formula ts x → Is marks.Close u → (after : Stream) → then_reads (down formula t.start) (closing t.start) ((ts ++ u ∷ []) ++> after) ≡ Ok (node t.start (kind_of x), after)
  unfolding rank
  group_complete t u ts x l e after =
      let stops : above 6 (sign_of u) ≡ true = above_is 6 (sign_of u) (omega (arith, marked_rank (sign_of u) marks.Close 7 e refl)) in
      ap (then_reads (down formula t.start) (closing t.start)) (append_stream ts (u ∷ []) after)
      ∙ bind_ok (down formula t.start) (closing t.start) (ts ++> more u after) x (more u after) (deeper formula t.start ts x l (more u after) stops)
      ∙ bind_ok (expected marks.Close) (λ m. gives (node t.start (kind_of x))) (more u after) u.start after (expected_is marks.Close u after e)

  pub atom_complete : Complete (above 0) (atom_of places down) (IsAtom places D)
  unfolding atom_of
  atom_complete ts x (a_numeral t n e) after h = rw e refl
  atom_complete ts x (a_truth t b e) after h = rw e refl
  atom_complete ts x (a_name t e) after h = rw e refl
  atom_complete ts x (a_place t u e f) after h = rw (e, f) refl
  atom_complete ts x (a_group t u text y e l f) after h = rw e (group_complete t u text y l f after)

  -- an atom doesn't begin with an operator
  unary_plain : (ts : List Lexeme) (x : Expr) → IsAtom places D ts x → (after : Stream) → unary_of places down (ts ++> after) ≡ atom_of places down (ts ++> after)
  unfolding unary_of
  unary_plain ts x (a_numeral t n e) after = rw e refl
  unary_plain ts x (a_truth t b e) after = rw e refl
  unary_plain ts x (a_name t e) after = rw e refl
  unary_plain ts x (a_place t u e f) after = rw e refl
  unary_plain ts x (a_group t u text y e l f) after = rw e refl

  pub unary_complete : Complete (above 0) (unary_of places down) (IsUnary places D)
  unfolding unary_of
  unary_complete ts x (minus t text y e l) after h = let read = deeper signed t.start text y l after h in rw (e, read) refl
  unary_complete ts x (plain text y l) after h = unary_plain text y l after ∙ atom_complete text y l after h

  pub product_complete : Complete (above 1) (product_of places down) (IsProduct places D)
  unfolding product_of
  product_complete = grouped_complete product_sign refl (unary_of places down) (sound_shrinks (unary_of places down) (IsUnary places E) (unary_sound places down E sound)) (IsUnary places D) 0 1 (omega arith) product_rank unary_complete

  pub sum_complete : Complete (above 2) (sum_of places down) (IsSum places D)
  unfolding sum_of
  sum_complete = grouped_complete sum_sign refl (product_of places down) (sound_shrinks (product_of places down) (IsProduct places E) (product_sound places down E sound)) (IsProduct places D) 1 2 (omega arith) sum_rank product_complete

  pub comparison_complete : Complete (above 3) (comparison_of places down) (IsComparison places D)
  unfolding comparison_of
  comparison_complete ts x (sum text y l) after h =
      let e = no_operator comparison_sign 3 comparison_rank (ahead after) (is_above 3 (ahead after) h) in
      bind_ok (sum_of places down) (compared (sum_of places down)) (text ++> after) y after (sum_complete text y l after (lower_above 2 3 (omega arith) (ahead after) h)) ∙ rw e refl
  comparison_complete ts x (compare a b t o y z l e m) after h =
      let left : sum_of places down (a ++> more t (b ++> after)) ≡ Ok (y, more t (b ++> after)) = sum_complete a y l (more t (b ++> after)) (above_is 2 (sign_of t) (omega (arith, comparison_rank (sign_of t) o e))) in
      let right = sum_complete b z m after (lower_above 2 3 (omega arith) (ahead after) h) in
      ap (then_reads (sum_of places down) (compared (sum_of places down))) (append_stream a (t ∷ b) after)
      ∙ bind_ok (sum_of places down) (compared (sum_of places down)) (a ++> more t (b ++> after)) y (more t (b ++> after)) left
      ∙ rw (e, right) refl

  -- what begins with an atom or a "-" doesn't begin with "~"
  abbrev no_tilde : Front → Bool
  no_tilde fronts.Not = false
  no_tilde _ = true

  abbrev Straight : (List Lexeme → Expr → Type 0) → Type 0
  Straight L = (ts : List Lexeme) (x : Expr) → L ts x → (after : Stream) → no_tilde (front places (ahead (ts ++> after))) ≡ true

  atom_straight : Straight (IsAtom places D)
  atom_straight ts x (a_numeral t n e) after = rw e refl
  atom_straight ts x (a_truth t b e) after = rw e refl
  atom_straight ts x (a_name t e) after = rw e refl
  atom_straight ts x (a_place t u e f) after = rw e refl
  atom_straight ts x (a_group t u text y e l f) after = rw e refl

  unary_straight : Straight (IsUnary places D)
  unary_straight ts x (minus t text y e l) after = rw e refl
  unary_straight ts x (plain text y l) after = atom_straight text y l after

  grouped_straight : (op : Sign → Option Operator) (L : List Lexeme → Expr → Type 0) → Straight L → Straight (IsGrouped op L)
  grouped_straight op L begins ts x (a_grouping a b y z l rest) after = ap (λ s. no_tilde (front places (ahead s))) (append_stream a b after) ∙ begins a y l (b ++> after)

  sum_straight : Straight (IsSum places D)
  sum_straight = grouped_straight sum_sign (IsProduct places D) (grouped_straight product_sign (IsUnary places D) unary_straight)

  comparison_straight : Straight (IsComparison places D)
  comparison_straight ts x (sum text y l) after = sum_straight text y l after
  comparison_straight ts x (compare a b t o y z l e m) after = ap (λ s. no_tilde (front places (ahead s))) (append_stream a (t ∷ b) after) ∙ sum_straight a y l (more t (b ++> after))

  negation_plain : (f : Front) (s : Stream) → no_tilde f ≡ true → negation_at places down s f ≡ comparison_of places down s
  negation_plain fronts.Not s h = cc
  negation_plain _ s h = refl

  pub negation_complete : Complete (above 3) (negation_of places down) (IsNegation places D)
  unfolding negation_of
  negation_complete ts x (tilde t text y e l) after h = let read = deeper negated t.start text y l after h in rw (e, read) refl
  negation_complete ts x (straight text y l) after h = negation_plain (front places (ahead (text ++> after))) (text ++> after) (comparison_straight text y l after) ∙ comparison_complete text y l after h

  pub conjunction_complete : Complete (above 4) (conjunction_of places down) (IsConjunction places D)
  unfolding conjunction_of
  conjunction_complete = chained_complete all marks.And refl (negation_of places down) (sound_shrinks (negation_of places down) (IsNegation places E) (negation_sound places down E sound)) (IsNegation places D) 3 4 (omega arith) and_rank negation_complete

  pub disjunction_complete : Complete (above 5) (disjunction_of places down) (IsDisjunction places D)
  unfolding disjunction_of
  disjunction_complete = chained_complete any marks.Or refl (conjunction_of places down) (sound_shrinks (conjunction_of places down) (IsConjunction places E) (conjunction_sound places down E sound)) (IsConjunction places D) 4 5 (omega arith) or_rank conjunction_complete

  pub expression_complete : Complete (above 6) (expression_of places down) (IsExpression places D)
  unfolding expression_of
  expression_complete ts x (disjunction text y l) after h =
      let e = no_mark marks.Implies 6 implies_rank (ahead after) (is_above 6 (ahead after) h) in
      bind_ok (disjunction_of places down) (implied down) (text ++> after) y after (disjunction_complete text y l after (lower_above 5 6 (omega arith) (ahead after) h)) ∙ rw e refl
  expression_complete ts x (implication a b t y z l e m) after h =
      let left : disjunction_of places down (a ++> more t (b ++> after)) ≡ Ok (y, more t (b ++> after)) = disjunction_complete a y l (more t (b ++> after)) (above_is 5 (sign_of t) (omega (arith, implies_rank (sign_of t) e))) in
      let right = deeper formula t.start b z m after h in
      ap (then_reads (disjunction_of places down) (implied down)) (append_stream a (t ∷ b) after)
      ∙ bind_ok (disjunction_of places down) (implied down) (a ++> more t (b ++> after)) y (more t (b ++> after)) left
      ∙ rw (e, right) refl

-- with at least as many levels
pub below_complete : (places : Bool) (n m : ℕ) → n ≤ m → (level : Level) (place : ℕ) → Complete (above (least level)) (below places m level place) (Inside places n level)
unfolding below
below_complete places zero m le level place ts x l after h = absurd l
below_complete places (suc n) zero le level place ts x l after h = absurd (omega arith)
below_complete places (suc n) (suc m) le formula place ts x l after h = expression_complete places (below places m) (Inside places n) (Inside places m) (below_sound places m) (below_complete places n m (omega arith)) ts x l after h
below_complete places (suc n) (suc m) le negated place ts x l after h = negation_complete places (below places m) (Inside places n) (Inside places m) (below_sound places m) (below_complete places n m (omega arith)) ts x l after h
below_complete places (suc n) (suc m) le signed place ts x l after h = unary_complete places (below places m) (Inside places n) (Inside places m) (below_sound places m) (below_complete places n m (omega arith)) ts x l after h

-- A calm token binds less tightly than any operator.
pub calm_above : Within calm (above 6)
unfolding rank calm number
calm_above (signs.Marked marks.Times) h = cc
calm_above (signs.Marked marks.Plus) h = cc
calm_above (signs.Marked marks.Minus) h = cc
calm_above (signs.Marked marks.Equal) h = cc
calm_above (signs.Marked marks.Unequal) h = cc
calm_above (signs.Marked marks.Less) h = cc
calm_above (signs.Marked marks.AtMost) h = cc
calm_above (signs.Marked marks.Greater) h = cc
calm_above (signs.Marked marks.AtLeast) h = cc
calm_above (signs.Marked marks.And) h = cc
calm_above (signs.Marked marks.Or) h = cc
calm_above (signs.Marked marks.Implies) h = cc
calm_above _ h = refl

-- an expression, before a token that continues none
pub formula_complete : (places : Bool) (n m : ℕ) → n ≤ m → Complete calm (λ s. expression_of places (below places m) s) (SpellsWithin places n)
formula_complete places n m le ts x l after h =
    expression_complete places (below places m) (Inside places n) (Inside places m) (below_sound places m) (below_complete places n m le) ts x l after (calm_above (ahead after) h)
