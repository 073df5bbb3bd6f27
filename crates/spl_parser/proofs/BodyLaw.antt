-- The law of the readers of bodies and of whole statements, for any readers of values and of inner statements that have it.
use Rattle.std.proofs.Common.{◌≡◌, ℕ, Bool, true, false, List, [], ◌∷◌, ◌++◌, Some, None, Err, refl}
use Rattle.st_tokens.specs.Stream.{ends}
use Rattle.st_reading.specs.declared.mark.Mark.TheVariants as marks
use Rattle.st_reading.specs.declared.sign.Sign.{Sign}
use Rattle.st_reading.specs.declared.sign.Sign.TheVariants as signs
use Rattle.st_reading.specs.Mark.{number}
use Rattle.st_reading.specs.Sign.{sign_of, is}
use Rattle.st_reading.specs.Faults.{Passed}
use Rattle.st_reading.specs.Reading.{Label, label_of, leaves, goes, expected, is_name, gives, then_reads, syntax, only, Counted, counting, linked}
use Rattle.st_reading.specs.Steady.{Viable, Within, calmer, wider, moves, anything}
use Rattle.st_reading.proofs.Lawful.{Lawful, lawful_bind, lawful_gives, lawful_map, lawful_chain, lawful_weak}
use Rattle.st_reading.proofs.Branches.{completes_gives, lawful_fork, fork_completes}
use Rattle.expression_parser.specs.ExpressionTree.{Expr}
use Rattle.spl_parser.specs.ProgramTree.{Statement, statements, Body, body}
use Rattle.spl_parser.specs.Item.{Item, last, item}
use Rattle.spl_parser.specs.Begun.{Begun, fresh, after_name, after_label}
use Rattle.expression_parser.specs.Calm.{calm, calm_but, calm_but2}
use Rattle.expression_parser.specs.Reading.{Reader}
use Rattle.spl_parser.specs.Statements.{Lower, an_item, labelled_item, named_item, item_of, turned_by, continuing, closed_body, rest_of_body, body_of, child_of, children_of}
use Rattle.expression_parser.proofs.Quiet.{but_calm, but_none, but2_but, but2_other, but2_none, name_token, name_spelled}
use Rattle.spl_parser.proofs.Witnesses.{witness_is, witness_in, lawful_mark, close_block_mark, open_block_mark, colon_mark, bars_mark}
use Rattle.spl_parser.proofs.ListLaw.{any_of, same}
use Rattle.expression_parser.proofs.FormulaTheorems.{quiet}

pub name_is : is_name (sign_of name_token) ≡ true
unfolding name_token
name_is = refl

pub name_calm : calm (sign_of name_token) ≡ true
unfolding name_token calm
name_calm = refl

close_calm : calm (sign_of close_block_mark.token) ≡ true
unfolding number calm
close_calm = witness_in marks.CloseBlock close_block_mark calm refl

pub colon_calm : calm (sign_of colon_mark.token) ≡ true
unfolding number calm
colon_calm = witness_in marks.Colon colon_mark calm refl

-- in a body a statement isn't told from a further one before its end
abbrev pub in_body : Sign → Bool
in_body = calm_but marks.Semicolon

-- neither a further child nor a further statement
abbrev pub apart : Sign → Bool
apart = calm_but2 marks.Bars marks.Semicolon

pub apart_calm : Within apart calm
apart_calm g h = but_calm marks.Bars g (but2_but marks.Bars marks.Semicolon g h)

module _ {I : Type 0} (value : Reader Expr) (values : I → Reader Expr)
    (lower : Lower) (lowers : I → Lower) (ll : (b : Begun) (n : ℕ) → Lawful calm calm (lower b n) (λ i. lowers i b n)) (refuses : (b : Begun) (n : ℕ) → lower b n (ends 0) ≡ Err (syntax 0)) where
  -- ITEMS
  abbrev plain : Begun → ℕ → Reader (Counted Item)
  plain b n = then_reads (lower b n) (λ x. gives (an_item x))

  abbrev plains : I → Begun → ℕ → Reader (Counted Item)
  plains i b n = then_reads (lowers i b n) (λ x. gives (an_item x))

  lawful_plain : (b : Begun) (n : ℕ) → Lawful calm calm (plain b n) (λ i. plains i b n)
  lawful_plain b n = lawful_map calm calm (same calm) (λ (x : Counted Statement). (item x.0, x.1)) (lower b n) (λ i. lowers i b n) (ll b n)

  plain_ends : (b : Begun) (n : ℕ) → plain b n (ends 0) ≡ Err (syntax 0)
  plain_ends b n = rw (refuses b n) refl

  abbrev closes : Sign → Bool
  closes g = is g marks.CloseBlock

  lawful_labelled : (n : ℕ) (l : Label) → Lawful calm calm (labelled_item value lower n l) (λ i. labelled_item (values i) (lowers i) n l)
  lawful_labelled n l =
      lawful_fork calm calm calm quiet closes refl (λ place m. gives (last l, n)) (λ i place m. gives (last l, n)) (plain (after_label l) n) (λ i. plains i (after_label l) n) close_block_mark.token close_block_mark.spelled (witness_is marks.CloseBlock close_block_mark) close_calm
      (λ i. completes_gives anything calm (any_of calm) (last l, n)) (λ place m. lawful_gives anything calm (last l, n)) (syntax 0) (plain_ends (after_label l) n) (lawful_plain (after_label l) n)

  abbrev colon : Sign → Bool
  colon g = is g marks.Colon

  labelled_viable : (n : ℕ) (l : Label) (i : I) → Viable anything calm (labelled_item (values i) (lowers i) n l) []
  labelled_viable n l i =
      fork_completes anything calm calm quiet closes refl (λ place m. gives (last l, n)) (λ i place m. gives (last l, n)) (plain (after_label l) n) (λ i. plains i (after_label l) n) close_block_mark.token close_block_mark.spelled (witness_is marks.CloseBlock close_block_mark) refl
      i (completes_gives anything calm (any_of calm) (last l, n))

  lawful_named_item : (n : ℕ) (l : Label) → Lawful calm calm (named_item value lower n l) (λ i. named_item (values i) (lowers i) n l)
  lawful_named_item n l =
      lawful_fork calm calm calm quiet colon refl (λ place m. labelled_item value lower n l) (λ i place m. labelled_item (values i) (lowers i) n l) (plain (after_name l) n) (λ i. plains i (after_name l) n) colon_mark.token colon_mark.spelled (witness_is marks.Colon colon_mark) colon_calm
      (labelled_viable n l) (λ place m. lawful_weak calm anything calm (any_of calm) (labelled_item value lower n l) (λ i. labelled_item (values i) (lowers i) n l) (lawful_labelled n l)) (syntax 0) (plain_ends (after_name l) n) (lawful_plain (after_name l) n)

  named_viable : (n : ℕ) (l : Label) (i : I) → Viable anything calm (named_item (values i) (lowers i) n l) []
  named_viable n l i =
      fork_completes anything calm calm quiet colon refl (λ place m. labelled_item value lower n l) (λ i place m. labelled_item (values i) (lowers i) n l) (plain (after_name l) n) (λ i. plains i (after_name l) n) colon_mark.token colon_mark.spelled (witness_is marks.Colon colon_mark) refl
      i (labelled_viable n l i)

  pub lawful_item : (n : ℕ) → Lawful calm calm (item_of value lower n) (λ i. item_of (values i) (lowers i) n)
  unfolding item_of
  lawful_item n =
      lawful_fork calm calm calm quiet is_name refl (λ place l. named_item value lower n l) (λ i place l. named_item (values i) (lowers i) n l) (plain (fresh false) n) (λ i. plains i (fresh false) n) name_token name_spelled name_is name_calm
      (named_viable n (label_of name_token)) (λ place l. lawful_weak calm anything calm (any_of calm) (named_item value lower n l) (λ i. named_item (values i) (lowers i) n l) (lawful_named_item n l)) (syntax 0) (plain_ends (fresh false) n) (lawful_plain (fresh false) n)

  -- BODIES
  lawful_continuing : (o : Unit {0}) (place : ℕ) (xs : Counted (List Statement)) → Lawful anything calm (continuing value lower o place xs) (λ i. continuing (values i) (lowers i) o place xs)
  lawful_continuing o place xs =
      lawful_weak calm anything calm (any_of calm) (continuing value lower o place xs) (λ i. continuing (values i) (lowers i) o place xs)
      (lawful_bind calm calm calm calm (same calm) (item_of value lower xs.1) (λ i. item_of (values i) (lowers i) xs.1) (λ x. gives (turned_by xs.0 x)) (λ i x. gives (turned_by xs.0 x)) (λ x. wider (same calm)) (wider (same calm)) (calmer (same calm)) (lawful_item xs.1) (lawful_turned xs.0))
    where
      lawful_turned : (ys : List Statement) (x : Counted Item) → Lawful {I = I} {X = Passed} calm calm (gives (turned_by ys x)) (λ i. gives (turned_by ys x))
      lawful_turned ys (last l, n) = lawful_gives calm calm (leaves (body (statements ys) (Some l), n))
      lawful_turned ys (item x, n) = lawful_gives calm calm (goes (ys ++ x ∷ [], n))

  lawful_closed_body : (xs : Counted (List Statement)) → Lawful {I = I} in_body in_body (closed_body xs) (λ i. closed_body xs)
  unfolding number calm calm_but
  lawful_closed_body xs =
      lawful_bind in_body anything in_body in_body (any_of in_body) (expected marks.CloseBlock) (λ i. expected marks.CloseBlock) (λ m. gives (body (statements xs.0) None, xs.1)) (λ i m. gives (body (statements xs.0) None, xs.1))
      (λ m. wider (same in_body)) (wider (same in_body)) (calmer (any_of in_body)) (lawful_mark marks.CloseBlock close_block_mark in_body refl) (λ m. lawful_gives in_body in_body (body (statements xs.0) None, xs.1))

  pub lawful_rest_of_body : (xs : Counted (List Statement)) → Lawful in_body in_body (rest_of_body value lower xs) (λ i. rest_of_body (values i) (lowers i) xs)
  lawful_rest_of_body xs =
      lawful_chain in_body in_body calm (same in_body) (but_calm marks.Semicolon) (only marks.Semicolon) (but_none marks.Semicolon) refl (continuing value lower) (λ i. continuing (values i) (lowers i)) closed_body (λ i. closed_body)
      lawful_continuing lawful_closed_body xs

  pub lawful_body : (n : ℕ) → Lawful calm in_body (body_of value lower n) (λ i. body_of (values i) (lowers i) n)
  unfolding body_of
  lawful_body n =
      lawful_bind calm calm in_body in_body (but_calm marks.Semicolon) (lower (fresh false) n) (λ i. lowers i (fresh false) n) (λ x. rest_of_body value lower (x.0 ∷ [], x.1)) (λ i x. rest_of_body (values i) (lowers i) (x.0 ∷ [], x.1))
      (λ x. wider (same in_body)) (wider (but_calm marks.Semicolon)) (calmer (but_calm marks.Semicolon)) (ll (fresh false) n) (λ x. lawful_rest_of_body (x.0 ∷ [], x.1))

  -- CHILDREN
  pub lawful_child : (n : ℕ) → Lawful calm in_body (child_of value lower n) (λ i. child_of (values i) (lowers i) n)
  unfolding child_of number calm
  lawful_child n =
      lawful_bind calm anything calm in_body (any_of calm) (expected marks.OpenBlock) (λ i. expected marks.OpenBlock) (λ m. body_of value lower n) (λ i m. body_of (values i) (lowers i) n)
      (λ m. wider (but_calm marks.Semicolon)) (wider (same calm)) (calmer (any_of in_body)) (lawful_mark marks.OpenBlock open_block_mark calm refl) (λ m. lawful_body n)

  lawful_more_children : (xs : Counted (List Body)) → Lawful apart apart (linked marks.Bars (child_of value lower) xs) (λ i. linked marks.Bars (child_of (values i) (lowers i)) xs)
  lawful_more_children xs =
      lawful_chain apart apart in_body (same apart) (but2_other marks.Bars marks.Semicolon) (only marks.Bars) (but2_none marks.Bars marks.Semicolon) refl (counting (λ o. child_of value lower)) (λ i. counting (λ o. child_of (values i) (lowers i))) gives (λ i. gives)
      (λ o place ys. lawful_weak calm anything in_body (any_of calm) (counting (λ o. child_of value lower) o place ys) (λ i. counting (λ o. child_of (values i) (lowers i)) o place ys)
      (lawful_bind calm in_body in_body in_body (same in_body) (child_of value lower ys.1) (λ i. child_of (values i) (lowers i) ys.1) (λ x. gives (goes (ys.0 ++ x.0 ∷ [], x.1))) (λ i x. gives (goes (ys.0 ++ x.0 ∷ [], x.1)))
      (λ x. wider (same in_body)) (wider (but_calm marks.Semicolon)) (calmer (same in_body)) (lawful_child ys.1) (λ x. lawful_gives in_body in_body (goes (ys.0 ++ x.0 ∷ [], x.1)))))
      (λ ys. lawful_gives apart apart ys) xs

  bars : Lawful {I = I} {X = Passed} in_body anything (expected marks.Bars) (λ i. expected marks.Bars)
  unfolding number calm calm_but
  bars = lawful_mark marks.Bars bars_mark in_body refl

  abbrev siblings : Counted Body → Reader (Counted (List Body))
  siblings x = then_reads (child_of value lower x.1) (λ y. linked marks.Bars (child_of value lower) (x.0 ∷ y.0 ∷ [], y.1))

  abbrev siblingss : I → Counted Body → Reader (Counted (List Body))
  siblingss i x = then_reads (child_of (values i) (lowers i) x.1) (λ y. linked marks.Bars (child_of (values i) (lowers i)) (x.0 ∷ y.0 ∷ [], y.1))

  lawful_siblings : (x : Counted Body) → Lawful calm apart (siblings x) (λ i. siblingss i x)
  lawful_siblings x =
      lawful_bind calm in_body apart apart (but2_other marks.Bars marks.Semicolon) (child_of value lower x.1) (λ i. child_of (values i) (lowers i) x.1) (λ y. linked marks.Bars (child_of value lower) (x.0 ∷ y.0 ∷ [], y.1)) (λ i y. linked marks.Bars (child_of (values i) (lowers i)) (x.0 ∷ y.0 ∷ [], y.1))
      (λ y. wider (same apart)) (wider apart_calm) (calmer (but2_other marks.Bars marks.Semicolon)) (lawful_child x.1) (λ y. lawful_more_children (x.0 ∷ y.0 ∷ [], y.1))

  pub lawful_children : (n : ℕ) → Lawful calm apart (children_of value lower n) (λ i. children_of (values i) (lowers i) n)
  unfolding children_of
  lawful_children n =
      lawful_bind calm in_body in_body apart (same in_body) (child_of value lower n) (λ i. child_of (values i) (lowers i) n) (λ x. then_reads (expected marks.Bars) (λ m. siblings x)) (λ i x. then_reads (expected marks.Bars) (λ m. siblingss i x))
      (λ x. wider (but2_other marks.Bars marks.Semicolon)) (wider (but_calm marks.Semicolon)) (calmer (but2_other marks.Bars marks.Semicolon)) (lawful_child n)
      (λ x. lawful_bind in_body anything calm apart (any_of calm) (expected marks.Bars) (λ i. expected marks.Bars) (λ m. siblings x) (λ i m. siblingss i x)
      (λ m. wider apart_calm) (moves refl (syntax 0) refl) (calmer (any_of apart)) bars (λ m. lawful_siblings x))
