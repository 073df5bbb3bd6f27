-- Statements, read within the limits and without them: what is counted in them is counted as they are read.
use Rattle.std.proofs.Common.{◌≡◌, ℕ, Bool, true, false, List, [], ◌∷◌, ◌++◌, Option, Some, None, Ok, Err, refl, sym, ap, subst, ◌∙◌, append-nil, append_assoc}
use Rattle.st_tokens.specs.Stream.{Stream, behind}
use Rattle.st_reading.specs.declared.mark.Mark.{Mark}
use Rattle.st_reading.specs.declared.mark.Mark.TheVariants as marks
use Rattle.st_reading.specs.Sign.{is}
use Rattle.st_reading.specs.Faults.{Passed}
use Rattle.st_reading.specs.Reading.{Label, ahead, place_of, name_of, is_name, refusal, named, expected, gives, then_reads, size, only, Counted}
use Rattle.st_reading.proofs.Soundness.{split, values}
use Rattle.spl_parser.specs.declared.sign.Start.{Start}
use Rattle.spl_parser.specs.declared.sign.Start.TheVariants as starts
use Rattle.spl_parser.specs.Signs.{start}
use Rattle.expression_parser.specs.ExpressionTree.{Expr}
use Rattle.spl_parser.specs.ProgramTree.{Statement, stated, statements, no_branch, branch, conditional, Action, skip, critical, noncritical, assign, assign_all, await, request, release, while_do, forever, block, select, cooperate, group, Body, body, bodies}
use Rattle.spl_parser.specs.Item.{Item, last, item}
use Rattle.spl_parser.specs.Begun.{Begun, fresh, after_name, after_label}
use Rattle.expression_parser.specs.Reading.{Reader}
use Rattle.spl_parser.specs.Statements.{Lower, counted, listed_of, right_side_of, all_assigned_of, assigned_of, sequence_of, selection_of, an_item, labelled_item, named_item, item_of, turned_by, continuing, closed_body, rest_of_body, body_of, child_of, children_of, branch_of, conditional_of, doing, enclosed, action_of, standing, bare_of, named_of, statement_of}
use Rattle.spl_parser.specs.Programs.{Limits, Totals, totals}
use Rattle.program_limits.specs.Order.{statement_counts, action_counts, branch_counts, statements_counts, body_counts, bodies_counts, all_counts}
use Rattle.program_limits.proofs.Besides.{Besides, ItemBesides, led, beside_bind, beside_behind, beside_gives, beside_value, beside_known, beside_fault, beside_cond, beside_operator, beside_map, beside_chain, beside_row, beside_row2, beside_as, all_append}

pub statements_all : (levels : ℕ) (xs : List Statement) → statements_counts levels (statements xs) ≡ all_counts (statement_counts levels) xs
statements_all levels [] = refl
statements_all levels (x ∷ xs) = ap (λ z. statement_counts levels x ++ z) (statements_all levels xs)

pub bodies_all : (levels : ℕ) (bs : List Body) → bodies_counts levels (bodies bs) ≡ all_counts (body_counts levels) bs
bodies_all levels [] = refl
bodies_all levels (b ∷ bs) = ap (λ z. body_counts levels b ++ z) (bodies_all levels bs)

-- what is counted in an item of a body
abbrev pub item_counts : ℕ → Item → List Passed
item_counts levels (last l) = []
item_counts levels (item x) = statement_counts levels x

-- what is counted inside a statement
abbrev pub inner_counts : ℕ → Statement → List Passed
inner_counts levels (stated label place a) = action_counts levels a

module _ (limit : Limits) (p v : ℕ) (value : Reader Expr) (levels : ℕ) (lower lower2 : Lower) (ll : (b : Begun) → ItemBesides limit (statement_counts levels) (λ n. totals p v n) (lower b) (lower2 b)) where
  abbrev st : ℕ → Totals
  st n = totals p v n

  -- behind `before`, what is counted in a value that carries on how many there are
  abbrev up_to : {A : Type 0} → (A → List Passed) → List Passed → Counted A → List Passed
  up_to counts before x = before ++ counts x.0

  abbrev now : {A : Type 0} → Counted A → Totals
  now x = st x.1

  abbrev of_list : List Statement → List Passed
  of_list xs = all_counts (statement_counts levels) xs

  -- a value without anything that is counted
  nothing_in : (before : List Passed) → before ≡ before ++ []
  nothing_in before = sym (append-nil before)

  -- LISTS
  sequence_beside : (inner : Bool) (n : ℕ) (before : List Passed) → Besides limit (st n) before (up_to of_list before) now (sequence_of value lower inner n) (sequence_of value lower2 inner n)
  unfolding sequence_of
  sequence_beside inner n before = beside_row limit (statement_counts levels) st marks.Semicolon (lower (fresh inner)) (lower2 (fresh inner)) (ll (fresh inner)) n before

  selection_beside : (n : ℕ) (before : List Passed) → Besides limit (st n) before (up_to of_list before) now (selection_of value lower n) (selection_of value lower2 n)
  unfolding selection_of
  selection_beside n before = beside_row2 limit (statement_counts levels) st marks.Either (lower (fresh false)) (lower2 (fresh false)) (ll (fresh false)) n before

  -- BODIES
  plain_beside : (b : Begun) (n : ℕ) (before : List Passed) → Besides limit (st n) before (up_to (item_counts levels) before) now (then_reads (lower b n) (λ x. gives (an_item x))) (then_reads (lower2 b n) (λ x. gives (an_item x)))
  plain_beside b n before = beside_map limit (st n) before (up_to (statement_counts levels) before) now (up_to (item_counts levels) before) now an_item (lower b n) (lower2 b n) (λ x. refl) (λ x. refl) (ll b n before)

  labelled_beside : (n : ℕ) (l : Label) (before : List Passed) → Besides limit (st n) before (up_to (item_counts levels) before) now (labelled_item value lower n l) (labelled_item value lower2 n l)
  labelled_beside n l before s =
      beside_cond limit (st n) before (up_to (item_counts levels) before) now (is (ahead s) marks.CloseBlock) (gives (last l, n) (behind s)) (then_reads (lower (after_label l) n) (λ x. gives (an_item x)) s) (gives (last l, n) (behind s)) (then_reads (lower2 (after_label l) n) (λ x. gives (an_item x)) s)
      (beside_value limit (st n) before (up_to (item_counts levels) before) now (last l, n) (behind s) (nothing_in before) refl) (plain_beside (after_label l) n before s)

  named_beside : (n : ℕ) (l : Label) (before : List Passed) → Besides limit (st n) before (up_to (item_counts levels) before) now (named_item value lower n l) (named_item value lower2 n l)
  named_beside n l before s =
      beside_cond limit (st n) before (up_to (item_counts levels) before) now (is (ahead s) marks.Colon) (labelled_item value lower n l (behind s)) (then_reads (lower (after_name l) n) (λ x. gives (an_item x)) s) (labelled_item value lower2 n l (behind s)) (then_reads (lower2 (after_name l) n) (λ x. gives (an_item x)) s)
      (labelled_beside n l before (behind s)) (plain_beside (after_name l) n before s)

  item_beside : (n : ℕ) (before : List Passed) → Besides limit (st n) before (up_to (item_counts levels) before) now (item_of value lower n) (item_of value lower2 n)
  unfolding item_of
  item_beside n before s =
      beside_cond limit (st n) before (up_to (item_counts levels) before) now (is_name (ahead s)) (named_item value lower n (name_of s) (behind s)) (then_reads (lower (fresh false) n) (λ x. gives (an_item x)) s) (named_item value lower2 n (name_of s) (behind s)) (then_reads (lower2 (fresh false) n) (λ x. gives (an_item x)) s)
      (named_beside n (name_of s) before (behind s)) (plain_beside (fresh false) n before s)

  -- where an item leads: the statements so far, or the body
  turn_counts : (before : List Passed) (xs : List Statement) (i : Counted Item) → (before ++ of_list xs) ++ item_counts levels i.0 ≡ led limit (up_to (body_counts levels) before) (up_to of_list before) (turned_by xs i)
  turn_counts before xs (last l, n) = append-nil (before ++ of_list xs) ∙ ap (λ z. before ++ z) (sym (statements_all levels xs))
  turn_counts before xs (item x, n) = append_assoc before (of_list xs) (statement_counts levels x) ∙ ap (λ z. before ++ z) (sym (all_append (statement_counts levels) xs x))

  turn_now : (xs : List Statement) (i : Counted Item) → st i.1 ≡ led limit (now {A = Body}) (now {A = List Statement}) (turned_by xs i)
  turn_now xs (last l, n) = refl
  turn_now xs (item x, n) = refl

  continuing_beside : (before : List Passed) (o : Unit {0}) (place : ℕ) (xs : Counted (List Statement))
      → Besides limit (st xs.1) (before ++ of_list xs.0) (led limit (up_to (body_counts levels) before) (up_to of_list before)) (led limit (now {A = Body}) (now {A = List Statement})) (continuing value lower o place xs) (continuing value lower2 o place xs)
  continuing_beside before o place xs =
      beside_map limit (st xs.1) (before ++ of_list xs.0) (up_to (item_counts levels) (before ++ of_list xs.0)) now (led limit (up_to (body_counts levels) before) (up_to of_list before)) (led limit (now {A = Body}) (now {A = List Statement})) (turned_by xs.0) (item_of value lower xs.1) (item_of value lower2 xs.1)
      (turn_counts before xs.0) (turn_now xs.0) (item_beside xs.1 (before ++ of_list xs.0))

  closed_beside : (before : List Passed) (xs : Counted (List Statement)) → Besides limit (st xs.1) (before ++ of_list xs.0) (up_to (body_counts levels) before) now (closed_body xs) (closed_body xs)
  closed_beside before xs =
      beside_behind limit (st xs.1) (before ++ of_list xs.0) (up_to (body_counts levels) before) now (expected marks.CloseBlock) (λ m. gives (body (statements xs.0) None, xs.1)) (λ m. gives (body (statements xs.0) None, xs.1))
      (λ m. beside_gives limit (st xs.1) (before ++ of_list xs.0) (up_to (body_counts levels) before) now (body (statements xs.0) None, xs.1) (ap (λ z. before ++ z) (sym (statements_all levels xs.0))) refl)

  rest_beside : (before : List Passed) (xs : Counted (List Statement)) → Besides limit (st xs.1) (before ++ of_list xs.0) (up_to (body_counts levels) before) now (rest_of_body value lower xs) (rest_of_body value lower2 xs)
  rest_beside before xs s =
      beside_chain limit (only marks.Semicolon) (continuing value lower) (continuing value lower2) closed_body closed_body (up_to of_list before) now (up_to (body_counts levels) before) now (continuing_beside before) (closed_beside before) (size s) xs s

  pub body_beside : ItemBesides limit (body_counts levels) (λ n. totals p v n) (body_of value lower) (body_of value lower2)
  unfolding body_of
  body_beside n before =
      beside_bind limit (st n) before (λ x. before ++ of_list (x.0 ∷ [])) now (up_to (body_counts levels) before) now (lower (fresh false) n) (lower2 (fresh false) n) (λ x. rest_of_body value lower (x.0 ∷ [], x.1)) (λ x. rest_of_body value lower2 (x.0 ∷ [], x.1))
      (λ s. beside_as limit (st n) before (up_to (statement_counts levels) before) (λ x. before ++ of_list (x.0 ∷ [])) now (lower (fresh false) n s) (lower2 (fresh false) n s) (λ x. ap (λ z. before ++ z) (sym (append-nil (statement_counts levels x.0)))) (ll (fresh false) n before s))
      (λ x. rest_beside before (x.0 ∷ [], x.1))

  child_beside : ItemBesides limit (body_counts levels) (λ n. totals p v n) (child_of value lower) (child_of value lower2)
  unfolding child_of
  child_beside n before = beside_behind limit (st n) before (up_to (body_counts levels) before) now (expected marks.OpenBlock) (λ m. body_of value lower n) (λ m. body_of value lower2 n) (λ m. body_beside n before)

  children_beside : (n : ℕ) (before : List Passed) → Besides limit (st n) before (up_to (λ bs. all_counts (body_counts levels) bs) before) now (children_of value lower n) (children_of value lower2 n)
  unfolding children_of
  children_beside n before = beside_row2 limit (body_counts levels) (λ n. totals p v n) marks.Bars (child_of value lower) (child_of value lower2) child_beside n before

  -- ACTIONS
  branch_beside : (inner : Bool) (n : ℕ) (before : List Passed) → Besides limit (st n) before (up_to (branch_counts levels) before) now (branch_of value lower inner n) (branch_of value lower2 inner n)
  unfolding branch_of
  branch_beside inner n before s =
      beside_cond limit (st n) before (up_to (branch_counts levels) before) now (is (ahead s) marks.Else) (then_reads (lower (fresh inner) n) (λ x. gives (branch x.0, x.1)) (behind s)) (gives (no_branch, n) s) (then_reads (lower2 (fresh inner) n) (λ x. gives (branch x.0, x.1)) (behind s)) (gives (no_branch, n) s)
      (beside_map limit (st n) before (up_to (statement_counts levels) before) now (up_to (branch_counts levels) before) now (λ (x : Counted Statement). (branch x.0, x.1)) (lower (fresh inner) n) (lower2 (fresh inner) n) (λ x. refl) (λ x. refl) (ll (fresh inner) n before) (behind s))
      (beside_value limit (st n) before (up_to (branch_counts levels) before) now (no_branch, n) s (nothing_in before) refl)

  conditional_beside : (inner : Bool) (n : ℕ) (before : List Passed) → Besides limit (st n) before (up_to (action_counts levels) before) now (conditional_of value lower inner n) (conditional_of value lower2 inner n)
  unfolding conditional_of
  conditional_beside inner n before =
      beside_behind limit (st n) before (up_to (action_counts levels) before) now value (λ e. then_reads (expected marks.Then) (λ m. then_reads (lower (fresh inner) n) (λ x. then_reads (branch_of value lower inner x.1) (λ y. then_reads (expected marks.Fi) (λ z. gives (conditional e x.0 y.0, y.1))))))
      (λ e. then_reads (expected marks.Then) (λ m. then_reads (lower2 (fresh inner) n) (λ x. then_reads (branch_of value lower2 inner x.1) (λ y. then_reads (expected marks.Fi) (λ z. gives (conditional e x.0 y.0, y.1))))))
      (λ e. beside_behind limit (st n) before (up_to (action_counts levels) before) now (expected marks.Then) (λ m. then_reads (lower (fresh inner) n) (λ x. then_reads (branch_of value lower inner x.1) (λ y. then_reads (expected marks.Fi) (λ z. gives (conditional e x.0 y.0, y.1)))))
      (λ m. then_reads (lower2 (fresh inner) n) (λ x. then_reads (branch_of value lower2 inner x.1) (λ y. then_reads (expected marks.Fi) (λ z. gives (conditional e x.0 y.0, y.1)))))
      (λ m. beside_bind limit (st n) before (up_to (statement_counts levels) before) now (up_to (action_counts levels) before) now (lower (fresh inner) n) (lower2 (fresh inner) n) (λ x. then_reads (branch_of value lower inner x.1) (λ y. then_reads (expected marks.Fi) (λ z. gives (conditional e x.0 y.0, y.1))))
      (λ x. then_reads (branch_of value lower2 inner x.1) (λ y. then_reads (expected marks.Fi) (λ z. gives (conditional e x.0 y.0, y.1)))) (ll (fresh inner) n before)
      (λ x. beside_bind limit (st x.1) (before ++ statement_counts levels x.0) (up_to (branch_counts levels) (before ++ statement_counts levels x.0)) now (up_to (action_counts levels) before) now (branch_of value lower inner x.1) (branch_of value lower2 inner x.1) (λ y. then_reads (expected marks.Fi) (λ z. gives (conditional e x.0 y.0, y.1)))
      (λ y. then_reads (expected marks.Fi) (λ z. gives (conditional e x.0 y.0, y.1))) (branch_beside inner x.1 (before ++ statement_counts levels x.0))
      (λ y. beside_behind limit (st y.1) ((before ++ statement_counts levels x.0) ++ branch_counts levels y.0) (up_to (action_counts levels) before) now (expected marks.Fi) (λ z. gives (conditional e x.0 y.0, y.1)) (λ z. gives (conditional e x.0 y.0, y.1))
      (λ z. beside_gives limit (st y.1) ((before ++ statement_counts levels x.0) ++ branch_counts levels y.0) (up_to (action_counts levels) before) now (conditional e x.0 y.0, y.1) (append_assoc before (statement_counts levels x.0) (branch_counts levels y.0)) refl)))))

  doing_beside : (action : Statement → Action) → ((x : Statement) → statement_counts levels x ≡ action_counts levels (action x)) → (n : ℕ) (before : List Passed) → Besides limit (st n) before (up_to (action_counts levels) before) now (doing value lower action n) (doing value lower2 action n)
  doing_beside action same n before =
      beside_behind limit (st n) before (up_to (action_counts levels) before) now (expected marks.Do) (λ m. then_reads (lower (fresh false) n) (λ x. gives (action x.0, x.1))) (λ m. then_reads (lower2 (fresh false) n) (λ x. gives (action x.0, x.1)))
      (λ m. beside_map limit (st n) before (up_to (statement_counts levels) before) now (up_to (action_counts levels) before) now (λ (x : Counted Statement). (action x.0, x.1)) (lower (fresh false) n) (lower2 (fresh false) n) (λ x. ap (λ z. before ++ z) (same x.0)) (λ x. refl) (ll (fresh false) n before))

  enclosed_beside : {A : Type 0} (counts : List A → List Passed) (action : List A → Action) → ((xs : List A) → counts xs ≡ action_counts levels (action xs)) → (mark : Mark) (r q : Reader (Counted (List A))) (n : ℕ) (before : List Passed) → Besides limit (st n) before (up_to counts before) now r q
      → Besides limit (st n) before (up_to (action_counts levels) before) now (enclosed action mark r) (enclosed action mark q)
  enclosed_beside counts action same mark r q n before h =
      beside_bind limit (st n) before (up_to counts before) now (up_to (action_counts levels) before) now r q (λ xs. then_reads (expected mark) (λ m. gives (action xs.0, xs.1))) (λ xs. then_reads (expected mark) (λ m. gives (action xs.0, xs.1))) h
      (λ xs. beside_behind limit (st xs.1) (before ++ counts xs.0) (up_to (action_counts levels) before) now (expected mark) (λ m. gives (action xs.0, xs.1)) (λ m. gives (action xs.0, xs.1))
      (λ m. beside_gives limit (st xs.1) (before ++ counts xs.0) (up_to (action_counts levels) before) now (action xs.0, xs.1) (ap (λ z. before ++ z) (same xs.0)) refl))

  -- an action in which nothing is counted
  basic_beside : {A : Type 0} (n : ℕ) (before : List Passed) (r : Reader A) (action : A → Action) → ((x : A) → [] ≡ action_counts levels (action x)) → Besides limit (st n) before (up_to (action_counts levels) before) now (then_reads r (λ x. gives (action x, n))) (then_reads r (λ x. gives (action x, n)))
  basic_beside n before r action same =
      beside_behind limit (st n) before (up_to (action_counts levels) before) now r (λ x. gives (action x, n)) (λ x. gives (action x, n)) (λ x. beside_gives limit (st n) before (up_to (action_counts levels) before) now (action x, n) (nothing_in before ∙ ap (λ z. before ++ z) (same x)) refl)

  -- "(" targets ")" := "(" values ")"
  abbrev Yields : {A : Type 0} → Reader A → (A → Type 0) → Type 0
  Yields {A} r P = (s : Stream) (x : A) (rest : Stream) → r s ≡ Ok (x, rest) → P x

  yields_behind : {A B : Type 0} (P : B → Type 0) (r : Reader A) (q : A → Reader B) → ((x : A) → Yields (q x) P) → Yields (then_reads r q) P
  yields_behind P r q h s y rest e = let k = split r q s y rest e in h k.value k.middle y rest k.second

  yields_given : {A : Type 0} (P : A → Type 0) (y : A) → P y → Yields (gives y) P
  yields_given P y h s x rest e = subst P (values {X = Passed} (gives y s) y x s rest refl e).0 h

  abbrev IsBasic : Action → Type 0
  IsBasic a = [] ≡ action_counts levels a

  all_assigned_yields : Yields (all_assigned_of value) IsBasic
  unfolding all_assigned_of
  all_assigned_yields =
      yields_behind IsBasic (listed_of named) (λ targets. then_reads (expected marks.Becomes) (λ m. then_reads (expected marks.Open) (λ list. then_reads (listed_of value) (λ vs. gives (assign_all targets list vs)))))
      (λ targets. yields_behind IsBasic (expected marks.Becomes) (λ m. then_reads (expected marks.Open) (λ list. then_reads (listed_of value) (λ vs. gives (assign_all targets list vs))))
      (λ m. yields_behind IsBasic (expected marks.Open) (λ list. then_reads (listed_of value) (λ vs. gives (assign_all targets list vs)))
      (λ list. yields_behind IsBasic (listed_of value) (λ vs. gives (assign_all targets list vs)) (λ vs. yields_given IsBasic (assign_all targets list vs) refl))))

  all_assigned_beside : (n : ℕ) (before : List Passed) → Besides limit (st n) before (up_to (action_counts levels) before) now (counted n (all_assigned_of value)) (counted n (all_assigned_of value))
  all_assigned_beside n before = beside_known limit (st n) before (up_to (action_counts levels) before) now (counted n (all_assigned_of value)) known
    where
      known : (s : Stream) (x : Counted Action) (rest : Stream) → counted n (all_assigned_of value) s ≡ Ok (x, rest) → (before ≡ before ++ action_counts levels x.0) × (totals p v n ≡ totals p v x.1)
      known s x rest h =
          let k = split (all_assigned_of value) (λ (a : Action). gives (a, n)) s x rest h in
          let w = (values {X = Passed} (gives (k.value, n) k.middle) (k.value, n) x k.middle rest refl k.second).0 in
          (sym (append-nil before) ∙ ap (λ z. before ++ z) (all_assigned_yields s k.value k.middle k.first ∙ ap (λ (y : Counted Action). action_counts levels y.0) w), ap (λ (y : Counted Action). totals p v y.1) w)

  action_beside : (inner : Bool) (n : ℕ) (l : Label) (x : Start) (before : List Passed) → Besides limit (st n) before (up_to (action_counts levels) before) now (action_of value lower inner n l x) (action_of value lower2 inner n l x)
  unfolding action_of
  action_beside inner n l starts.Named before s = basic_beside n before (right_side_of value) (λ e. assign l e) (λ e. refl) s
  action_beside inner n l starts.Listed before s = all_assigned_beside n before s
  action_beside inner n l starts.Skip before s = beside_value limit (st n) before (up_to (action_counts levels) before) now (skip, n) s (nothing_in before) refl
  action_beside inner n l starts.Critical before s = beside_value limit (st n) before (up_to (action_counts levels) before) now (critical, n) s (nothing_in before) refl
  action_beside inner n l starts.Noncritical before s = beside_value limit (st n) before (up_to (action_counts levels) before) now (noncritical, n) s (nothing_in before) refl
  action_beside inner n l starts.Await before s = basic_beside n before value (λ e. await e) (λ e. refl) s
  action_beside inner n l starts.Request before s = basic_beside n before named (λ m. request m) (λ m. refl) s
  action_beside inner n l starts.Release before s = basic_beside n before named (λ m. release m) (λ m. refl) s
  action_beside inner n l starts.If before s = conditional_beside inner n before s
  action_beside inner n l starts.While before s = beside_behind limit (st n) before (up_to (action_counts levels) before) now value (λ e. doing value lower (while_do e) n) (λ e. doing value lower2 (while_do e) n) (λ e. doing_beside (while_do e) (λ x. refl) n before) s
  action_beside inner n l starts.Loop before s = beside_behind limit (st n) before (up_to (action_counts levels) before) now (expected marks.Forever) (λ m. doing value lower forever n) (λ m. doing value lower2 forever n) (λ m. doing_beside forever (λ x. refl) n before) s
  action_beside inner n l starts.Block before s =
      enclosed_beside of_list (λ xs. block (statements xs)) (λ xs. sym (statements_all levels xs)) marks.CloseBlock (sequence_of value lower inner n) (sequence_of value lower2 inner n) n before (sequence_beside inner n before) s
  action_beside inner n l starts.Select before s =
      beside_behind limit (st n) before (up_to (action_counts levels) before) now (expected marks.OpenBlock) (λ m. enclosed (λ xs. select (statements xs)) marks.CloseBlock (selection_of value lower n)) (λ m. enclosed (λ xs. select (statements xs)) marks.CloseBlock (selection_of value lower2 n))
      (λ m. enclosed_beside of_list (λ xs. select (statements xs)) (λ xs. sym (statements_all levels xs)) marks.CloseBlock (selection_of value lower n) (selection_of value lower2 n) n before (selection_beside n before)) s
  action_beside inner n l starts.Cooperate before s =
      enclosed_beside (λ bs. all_counts (body_counts levels) bs) (λ xs. cooperate (bodies xs)) (λ xs. sym (bodies_all levels xs)) marks.Coend (children_of value lower n) (children_of value lower2 n) n before (children_beside n before) s
  action_beside inner n l starts.Group before s =
      enclosed_beside of_list (λ xs. group (statements xs)) (λ xs. sym (statements_all levels xs)) marks.CloseGroup (sequence_of value lower true n) (sequence_of value lower2 true n) n before (sequence_beside true n before) s

  -- STATEMENTS, behind what is counted of themselves
  bare_beside : (inner : Bool) (label : Option Label) (n : ℕ) (before : List Passed) → Besides limit (st n) before (up_to (inner_counts levels) before) now (bare_of value lower inner label n) (bare_of value lower2 inner label n)
  unfolding bare_of
  bare_beside inner label n before s =
      beside_operator limit (st n) before (up_to (inner_counts levels) before) now (start (ahead s)) (Err (refusal s)) (Err (refusal s)) (λ x. then_reads (action_of value lower inner n (name_of s) x) (λ a. gives (standing label (place_of s) a)) (behind s)) (λ x. then_reads (action_of value lower2 inner n (name_of s) x) (λ a. gives (standing label (place_of s) a)) (behind s))
      (beside_fault limit (st n) before (up_to (inner_counts levels) before) now (Err (refusal s)) (refusal s))
      (λ x. beside_map limit (st n) before (up_to (action_counts levels) before) now (up_to (inner_counts levels) before) now (standing label (place_of s)) (action_of value lower inner n (name_of s) x) (action_of value lower2 inner n (name_of s) x) (λ a. refl) (λ a. refl) (action_beside inner n (name_of s) x before) (behind s))

  assigned_beside : (l : Label) (n : ℕ) (before : List Passed) → Besides limit (st n) before (up_to (inner_counts levels) before) now (assigned_of value l n) (assigned_of value l n)
  unfolding assigned_of
  assigned_beside l n before =
      beside_behind limit (st n) before (up_to (inner_counts levels) before) now (right_side_of value) (λ e. gives (stated None l.place (assign l e), n)) (λ e. gives (stated None l.place (assign l e), n))
      (λ e. beside_gives limit (st n) before (up_to (inner_counts levels) before) now (stated None l.place (assign l e), n) (nothing_in before) refl)

  named_statement_beside : (l : Label) (n : ℕ) (before : List Passed) → Besides limit (st n) before (up_to (inner_counts levels) before) now (named_of value lower l n) (named_of value lower2 l n)
  unfolding named_of
  named_statement_beside l n before s =
      beside_cond limit (st n) before (up_to (inner_counts levels) before) now (is (ahead s) marks.Colon) (bare_of value lower false (Some l) n (behind s)) (assigned_of value l n s) (bare_of value lower2 false (Some l) n (behind s)) (assigned_of value l n s)
      (bare_beside false (Some l) n before (behind s)) (assigned_beside l n before s)

  pub statement_beside : (b : Begun) (n : ℕ) (before : List Passed) → Besides limit (totals p v n) before (λ x. before ++ inner_counts levels x.0) (λ x. totals p v x.1) (statement_of value lower b n) (statement_of value lower2 b n)
  unfolding statement_of
  statement_beside (fresh true) n before s = bare_beside true None n before s
  statement_beside (fresh false) n before s =
      beside_cond limit (st n) before (up_to (inner_counts levels) before) now (is_name (ahead s)) (named_of value lower (name_of s) n (behind s)) (bare_of value lower false None n s) (named_of value lower2 (name_of s) n (behind s)) (bare_of value lower2 false None n s)
      (named_statement_beside (name_of s) n before (behind s)) (bare_beside false None n before s)
  statement_beside (after_name l) n before s = assigned_beside l n before s
  statement_beside (after_label l) n before s = bare_beside false (Some l) n before s
