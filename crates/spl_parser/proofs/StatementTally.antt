-- What the readers of statements carry on is the count, raised by the statements that were read; and each was admitted.
use Rattle.std.proofs.Common.{◌≡◌, ℕ, zero, suc, ◌+◌, Bool, true, false, cond, List, [], ◌∷◌, ◌++◌, Option, Some, None, Ok, Err, refl, sym, ap, subst, ◌∙◌, append-nil, append_assoc, arith}
use Rattle.st_tokens.specs.declared.limit.LimitKind.TheVariants as limits
use Rattle.st_tokens.specs.Stream.{Stream, behind}
use Rattle.st_reading.specs.declared.mark.Mark.{Mark}
use Rattle.st_reading.specs.declared.mark.Mark.TheVariants as marks
use Rattle.st_reading.specs.Sign.{is}
use Rattle.st_reading.specs.Faults.{Passed}
use Rattle.st_reading.specs.Reading.{◌>>=◌, Label, ahead, place_of, name_of, is_name, refusal, named, expected, gives, then_reads, turned, on_operator, chain, size, only, Counted}
use Rattle.st_reading.proofs.Soundness.{split, values}
use Rattle.st_reading.proofs.ListCompleteness.{all_after, AllFit}
use Rattle.st_reading.proofs.ListTally.{Tallies, row_tallies, row2_tallies}
use Rattle.spl_parser.specs.declared.sign.Start.{Start}
use Rattle.spl_parser.specs.declared.sign.Start.TheVariants as starts
use Rattle.spl_parser.specs.Signs.{start}
use Rattle.expression_parser.specs.ExpressionTree.{Expr}
use Rattle.spl_parser.specs.ProgramTree.{Statement, stated, statements, Branch, no_branch, branch, conditional, Action, skip, critical, noncritical, assign, assign_all, await, request, release, while_do, forever, block, select, cooperate, group, Body, body, bodies}
use Rattle.spl_parser.specs.Item.{Item, last, item}
use Rattle.spl_parser.specs.Begun.{Begun, fresh, after_name, after_label}
use Rattle.expression_parser.specs.Reading.{Reader}
use Rattle.spl_parser.specs.Statements.{Lower, goes_on, limited, counted, listed_of, right_side_of, all_assigned_of, assigned_of, sequence_of, selection_of, an_item, labelled_item, named_item, item_of, turned_by, continuing, closed_body, rest_of_body, body_of, child_of, children_of, branch_of, conditional_of, doing, enclosed, action_of, standing, bare_of, named_of, statement_of, inside}
use Rattle.spl_parser.proofs.Tally.{statement_after, action_after, branch_after, statements_after, body_after, bodies_after, Range, Fits, BodyFits, statements_all, bodies_all, joined_parts, nothing_begins, one_begins, all_begin}

-- the count behind x is that of x, and each statement of it may begin
abbrev pub Told : {A : Type 0} → (ℕ → Bool) → (A → ℕ → ℕ) → ℕ → Counted A → Type 0
Told may go n y = (y.1 ≡ go y.0 n) × Range may n (go y.0 n)

module _ {A : Type 0} (may : ℕ → Bool) (go : A → ℕ → ℕ) (n : ℕ) where
  told_as : (x y : Counted A) (s rest : Stream) → gives {X = Passed} x s ≡ Ok (y, rest) → Told may go n x → Told may go n y
  told_as x y s rest h t = subst (Told may go n) (values {X = Passed} (gives x s) x y s rest refl h).0 t

  -- nothing was counted
  told_none : (x : A) (y : Counted A) (s rest : Stream) → gives {X = Passed} (x, n) s ≡ Ok (y, rest) → go x n ≡ n → Told may go n y
  told_none x y s rest h e = told_as (x, n) y s rest h (sym e, nothing_begins may n (go x n) (omega (arith, e)))

  -- a value without count
  told_plain : {B : Type 0} (f : B → A) → ((x : B) → go (f x) n ≡ n) → (r : Reader B) (s : Stream) (y : Counted A) (rest : Stream) → then_reads {B = Counted A} r (λ x. gives (f x, n)) s ≡ Ok (y, rest) → Told may go n y
  told_plain f same r s y rest h = let p = split r (λ x. gives (f x, n)) s y rest h in told_none (f p.value) y p.middle rest p.second (same p.value)

-- the same count, for what is made of it
told_map : {A B : Type 0} (may : ℕ → Bool) (go : A → ℕ → ℕ) (go2 : B → ℕ → ℕ) (f : A → B) → ((x : A) (n : ℕ) → go2 (f x) n ≡ go x n) → (n : ℕ) (x : Counted A) → Told may go n x → Told may go2 n (f x.0, x.1)
told_map may go go2 f same n x t = (t.0 ∙ sym (same x.0 n), subst (Range may n) (sym (same x.0 n)) t.1)

abbrev statement_list : List Statement → ℕ → ℕ
statement_list xs n = statements_after (statements xs) n

abbrev body_list : List Body → ℕ → ℕ
body_list bs n = bodies_after (bodies bs) n

-- behind an item of a body
abbrev item_after : Item → ℕ → ℕ
item_after (last l) n = n
item_after (item x) n = statement_after x n

-- behind the count of the statement itself
abbrev within_after : Statement → ℕ → ℕ
within_after (stated label place a) n = action_after a n

module _ (value : Reader Expr) (may : ℕ → Bool) (lower : Lower) (tl : (b : Begun) → Tallies (lower b) statement_after (Fits may)) where
  listed_told : (n : ℕ) (xs : Counted (List Statement)) → (xs.1 ≡ all_after statement_after xs.0 n) × AllFit statement_after (Fits may) xs.0 n → Told may statement_list n xs
  listed_told n xs t = (t.0 ∙ sym (statements_all xs.0 n), subst (Range may n) (sym (statements_all xs.0 n)) (all_begin statement_after may (Fits may) (λ x n f. f) xs.0 n t.1))

  sequence_told : (inner : Bool) (n : ℕ) (s : Stream) (y : Counted (List Statement)) (rest : Stream) → sequence_of value lower inner n s ≡ Ok (y, rest) → Told may statement_list n y
  unfolding sequence_of
  sequence_told inner n s y rest h = listed_told n y (row_tallies marks.Semicolon (lower (fresh inner)) statement_after (Fits may) (tl (fresh inner)) n s y rest h)

  selection_told : (n : ℕ) (s : Stream) (y : Counted (List Statement)) (rest : Stream) → selection_of value lower n s ≡ Ok (y, rest) → Told may statement_list n y
  unfolding selection_of
  selection_told n s y rest h = listed_told n y (row2_tallies marks.Either (lower (fresh false)) statement_after (Fits may) (tl (fresh false)) n s y rest h)

  -- ITEMS OF A BODY
  plain_told : (b : Begun) (n : ℕ) (s : Stream) (y : Counted Item) (rest : Stream) → then_reads (lower b n) (λ x. gives (an_item x)) s ≡ Ok (y, rest) → Told may item_after n y
  plain_told b n s y rest h =
      let p = split (lower b n) (λ x. gives (an_item x)) s y rest h in
      told_as may item_after n (an_item p.value) y p.middle rest p.second (tl b n s p.value p.middle p.first)

  labelled_told : (n : ℕ) (l : Label) (s : Stream) (y : Counted Item) (rest : Stream) (c : Bool) → cond c (gives {X = Passed} (last l, n) (behind s)) (then_reads (lower (after_label l) n) (λ x. gives (an_item x)) s) ≡ Ok (y, rest) → Told may item_after n y
  labelled_told n l s y rest true h = told_none may item_after n (last l) y (behind s) rest h refl
  labelled_told n l s y rest false h = plain_told (after_label l) n s y rest h

  named_told : (n : ℕ) (l : Label) (s : Stream) (y : Counted Item) (rest : Stream) (c : Bool) → cond c (labelled_item value lower n l (behind s)) (then_reads (lower (after_name l) n) (λ x. gives (an_item x)) s) ≡ Ok (y, rest) → Told may item_after n y
  named_told n l s y rest true h = labelled_told n l (behind s) y rest (is (ahead (behind s)) marks.CloseBlock) h
  named_told n l s y rest false h = plain_told (after_name l) n s y rest h

  item_at : (n : ℕ) (s : Stream) (y : Counted Item) (rest : Stream) (c : Bool) → cond c (named_item value lower n (name_of s) (behind s)) (then_reads (lower (fresh false) n) (λ x. gives (an_item x)) s) ≡ Ok (y, rest) → Told may item_after n y
  item_at n s y rest true h = named_told n (name_of s) (behind s) y rest (is (ahead (behind s)) marks.Colon) h
  item_at n s y rest false h = plain_told (fresh false) n s y rest h

  item_told : (n : ℕ) (s : Stream) (y : Counted Item) (rest : Stream) → item_of value lower n s ≡ Ok (y, rest) → Told may item_after n y
  unfolding item_of
  item_told n s y rest h = item_at n s y rest (is_name (ahead s)) h

  -- BODIES
  -- further statements behind those that were read, up to the end
  record Further (xs : Counted (List Statement)) (y : Counted Body) : Type 0 where
    more_items : List Statement
    end : Option Label
    is : y.0 ≡ body (statements (xs.0 ++ more_items)) end
    count : y.1 ≡ all_after statement_after more_items xs.1
    fits : AllFit statement_after (Fits may) more_items xs.1

  ends_here : (xs : Counted (List Statement)) (label : Option Label) (m : ℕ) → m ≡ xs.1 → (y : Counted Body) (s rest : Stream) → gives {X = Passed} (body (statements xs.0) label, m) s ≡ Ok (y, rest) → Further xs y
  ends_here xs label m same y s rest h =
      let e = (values {X = Passed} (gives (body (statements xs.0) label, m) s) (body (statements xs.0) label, m) y s rest refl h).0 in
      record {
        more_items = [];
        end = label;
        is = ap (λ (z : Counted Body). z.0) (sym e) ∙ ap (λ zs. body (statements zs) label) (sym (append-nil xs.0));
        count = ap (λ (z : Counted Body). z.1) (sym e) ∙ same;
        fits = tt;
      }

  closed_told : (xs : Counted (List Statement)) (s : Stream) (y : Counted Body) (rest : Stream) → closed_body xs s ≡ Ok (y, rest) → Further xs y
  closed_told xs s y rest h =
      let p = split (expected marks.CloseBlock) (λ m. gives (body (statements xs.0) None, xs.1)) s y rest h in
      ends_here xs None xs.1 refl y p.middle rest p.second

  one_more : (xs : Counted (List Statement)) (x : Statement) (m : ℕ) (y : Counted Body) → m ≡ statement_after x xs.1 → Fits may x xs.1 → Further (xs.0 ++ x ∷ [], m) y → Further xs y
  one_more xs x m y e f d = record {
    more_items = x ∷ d.more_items;
    end = d.end;
    is = d.is ∙ ap (λ zs. body (statements zs) d.end) (append_assoc xs.0 (x ∷ []) d.more_items);
    count = d.count ∙ ap (all_after statement_after d.more_items) e;
    fits = (f, subst (AllFit statement_after (Fits may) d.more_items) e d.fits);
  }

  module _ (k : ℕ) (again : (xs : Counted (List Statement)) (s : Stream) (y : Counted Body) (rest : Stream) → chain (only marks.Semicolon) (continuing value lower) closed_body k xs s ≡ Ok (y, rest) → Further xs y) where
    by_item : (xs : Counted (List Statement)) (i : Counted Item) → Told may item_after xs.1 i → (s : Stream) (y : Counted Body) (rest : Stream) → turned (λ w r. chain (only marks.Semicolon) (continuing value lower) closed_body k w r) (turned_by xs.0 i) s ≡ Ok (y, rest) → Further xs y
    by_item xs (last l, m) t s y rest h = ends_here xs (Some l) m t.0 y s rest h
    by_item xs (item x, m) t s y rest h = one_more xs x m y t.0 t.1 (again (xs.0 ++ x ∷ [], m) s y rest h)

    at_mark : (xs : Counted (List Statement)) (s : Stream) (y : Counted Body) (rest : Stream) (p : Option (Unit {0}))
        → on_operator p (closed_body xs s) (λ o. continuing value lower o (place_of s) xs (behind s) >>= λ y. turned (λ w r. chain (only marks.Semicolon) (continuing value lower) closed_body k w r) y.0 y.1) ≡ Ok (y, rest) → Further xs y
    at_mark xs s y rest None h = closed_told xs s y rest h
    at_mark xs s y rest (Some o) h =
        let p = split (continuing value lower o (place_of s) xs) (turned (λ w r. chain (only marks.Semicolon) (continuing value lower) closed_body k w r)) (behind s) y rest h in
        let q = split (item_of value lower xs.1) (λ x. gives (turned_by xs.0 x)) (behind s) p.value p.middle p.first in
        let v = values {X = Passed} (gives (turned_by xs.0 q.value) q.middle) (turned_by xs.0 q.value) p.value q.middle p.middle refl q.second in
        by_item xs q.value (item_told xs.1 (behind s) q.value q.middle q.first) p.middle y rest (ap (λ z. turned (λ w r. chain (only marks.Semicolon) (continuing value lower) closed_body k w r) z p.middle) v.0 ∙ p.second)

  further_told : (k : ℕ) (xs : Counted (List Statement)) (s : Stream) (y : Counted Body) (rest : Stream) → chain (only marks.Semicolon) (continuing value lower) closed_body k xs s ≡ Ok (y, rest) → Further xs y
  unfolding chain
  further_told zero xs s y rest h = closed_told xs s y rest h
  further_told (suc k) xs s y rest h = at_mark k (λ xs s y rest h. further_told k xs s y rest h) xs s y rest (only marks.Semicolon (ahead s)) h

  all_further : (n : ℕ) (y : Counted Body) → Further ([], n) y → Told may body_after n y
  all_further n y d =
      let e = statements_all d.more_items n in
      let same : body_after y.0 n ≡ all_after statement_after d.more_items n = ap (λ b. body_after b n) d.is ∙ e in
      (d.count ∙ sym same, subst (Range may n) (sym same) (all_begin statement_after may (Fits may) (λ x n f. f) d.more_items n d.fits))

  pub body_told : (n : ℕ) (s : Stream) (y : Counted Body) (rest : Stream) → body_of value lower n s ≡ Ok (y, rest) → Told may body_after n y
  unfolding body_of
  body_told n s y rest h =
      let p = split (lower (fresh false) n) (λ x. rest_of_body value lower (x.0 ∷ [], x.1)) s y rest h in
      let t = tl (fresh false) n s p.value p.middle p.first in
      all_further n y (one_more ([], n) p.value.0 p.value.1 y t.0 t.1 (further_told (size p.middle) (p.value.0 ∷ [], p.value.1) p.middle y rest p.second))

  child_told : Tallies (child_of value lower) body_after (BodyFits may)
  unfolding child_of
  child_told n s y rest h = let p = split (expected marks.OpenBlock) (λ m. body_of value lower n) s y rest h in body_told n p.middle y rest p.second

  children_told : (n : ℕ) (s : Stream) (y : Counted (List Body)) (rest : Stream) → children_of value lower n s ≡ Ok (y, rest) → Told may body_list n y
  unfolding children_of
  children_told n s y rest h =
      let t = row2_tallies marks.Bars (child_of value lower) body_after (BodyFits may) child_told n s y rest h in
      (t.0 ∙ sym (bodies_all y.0 n), subst (Range may n) (sym (bodies_all y.0 n)) (all_begin body_after may (BodyFits may) (λ x n f. f) y.0 n t.1))

  -- ACTIONS
  branch_at : (inner : Bool) (n : ℕ) (s : Stream) (y : Counted Branch) (rest : Stream) (c : Bool) → cond c (then_reads (lower (fresh inner) n) (λ x. gives (branch x.0, x.1)) (behind s)) (gives {X = Passed} (no_branch, n) s) ≡ Ok (y, rest) → Told may branch_after n y
  branch_at inner n s y rest true h =
      let p = split (lower (fresh inner) n) (λ x. gives (branch x.0, x.1)) (behind s) y rest h in
      told_as may branch_after n (branch p.value.0, p.value.1) y p.middle rest p.second (tl (fresh inner) n (behind s) p.value p.middle p.first)
  branch_at inner n s y rest false h = told_none may branch_after n no_branch y s rest h refl

  branch_told : (inner : Bool) (n : ℕ) (s : Stream) (y : Counted Branch) (rest : Stream) → branch_of value lower inner n s ≡ Ok (y, rest) → Told may branch_after n y
  unfolding branch_of
  branch_told inner n s y rest h = branch_at inner n s y rest (is (ahead s) marks.Else) h

  conditional_told : (inner : Bool) (n : ℕ) (s : Stream) (y : Counted Action) (rest : Stream) → conditional_of value lower inner n s ≡ Ok (y, rest) → Told may action_after n y
  unfolding conditional_of
  conditional_told inner n s y rest h =
      let p = split value (λ e. then_reads (expected marks.Then) (λ m. then_reads (lower (fresh inner) n) (λ x. then_reads (branch_of value lower inner x.1) (λ y. then_reads (expected marks.Fi) (λ z. gives (conditional e x.0 y.0, y.1)))))) s y rest h in
      let q = split (expected marks.Then) (λ m. then_reads (lower (fresh inner) n) (λ x. then_reads (branch_of value lower inner x.1) (λ y. then_reads (expected marks.Fi) (λ z. gives (conditional p.value x.0 y.0, y.1))))) p.middle y rest p.second in
      let u = split (lower (fresh inner) n) (λ x. then_reads (branch_of value lower inner x.1) (λ y. then_reads (expected marks.Fi) (λ z. gives (conditional p.value x.0 y.0, y.1)))) q.middle y rest q.second in
      let v = split (branch_of value lower inner u.value.1) (λ y. then_reads (expected marks.Fi) (λ z. gives (conditional p.value u.value.0 y.0, y.1))) u.middle y rest u.second in
      let w = split (expected marks.Fi) (λ z. gives (conditional p.value u.value.0 v.value.0, v.value.1)) v.middle y rest v.second in
      let first = tl (fresh inner) n q.middle u.value u.middle u.first in
      let second = subst (λ m. Told may branch_after m v.value) first.0 (branch_told inner u.value.1 u.middle v.value v.middle v.first) in
      told_as may action_after n (conditional p.value u.value.0 v.value.0, v.value.1) y w.middle rest w.second (second.0, joined_parts may n (statement_after u.value.0 n) (branch_after v.value.0 (statement_after u.value.0 n)) first.1 second.1)

  doing_told : (action : Statement → Action) → ((x : Statement) (n : ℕ) → action_after (action x) n ≡ statement_after x n) → (n : ℕ) (s : Stream) (y : Counted Action) (rest : Stream) → doing value lower action n s ≡ Ok (y, rest) → Told may action_after n y
  doing_told action same n s y rest h =
      let p = split (expected marks.Do) (λ m. then_reads (lower (fresh false) n) (λ x. gives (action x.0, x.1))) s y rest h in
      let q = split (lower (fresh false) n) (λ x. gives (action x.0, x.1)) p.middle y rest p.second in
      told_as may action_after n (action q.value.0, q.value.1) y q.middle rest q.second (told_map may statement_after action_after action same n q.value (tl (fresh false) n p.middle q.value q.middle q.first))

  enclosed_told : {A : Type 0} (go : List A → ℕ → ℕ) (action : List A → Action) → ((xs : List A) (n : ℕ) → action_after (action xs) n ≡ go xs n) → (mark : Mark) (r : Reader (Counted (List A))) (n : ℕ) → ((s : Stream) (y : Counted (List A)) (rest : Stream) → r s ≡ Ok (y, rest) → Told may go n y)
      → (s : Stream) (y : Counted Action) (rest : Stream) → enclosed action mark r s ≡ Ok (y, rest) → Told may action_after n y
  enclosed_told go action same mark r n told s y rest h =
      let p = split r (λ xs. then_reads (expected mark) (λ m. gives (action xs.0, xs.1))) s y rest h in
      let q = split (expected mark) (λ m. gives (action p.value.0, p.value.1)) p.middle y rest p.second in
      told_as may action_after n (action p.value.0, p.value.1) y q.middle rest q.second (told_map may go action_after action same n p.value (told s p.value p.middle p.first))

  uncounted : (n : ℕ) (s : Stream) (a : Action) (rest : Stream) → all_assigned_of value s ≡ Ok (a, rest) → action_after a n ≡ n
  unfolding all_assigned_of
  uncounted n s a rest h =
      let p = split (listed_of named) (λ targets. then_reads (expected marks.Becomes) (λ m. then_reads (expected marks.Open) (λ list. then_reads (listed_of value) (λ vs. gives (assign_all targets list vs))))) s a rest h in
      let q = split (expected marks.Becomes) (λ m. then_reads (expected marks.Open) (λ list. then_reads (listed_of value) (λ vs. gives (assign_all p.value list vs)))) p.middle a rest p.second in
      let u = split (expected marks.Open) (λ list. then_reads (listed_of value) (λ vs. gives (assign_all p.value list vs))) q.middle a rest q.second in
      let v = split (listed_of value) (λ vs. gives (assign_all p.value u.value vs)) u.middle a rest u.second in
      ap (λ a. action_after a n) (sym (values {X = Passed} (gives (assign_all p.value u.value v.value) v.middle) (assign_all p.value u.value v.value) a v.middle rest refl v.second).0)

  all_assigned_told : (n : ℕ) (s : Stream) (y : Counted Action) (rest : Stream) → counted n (all_assigned_of value) s ≡ Ok (y, rest) → Told may action_after n y
  all_assigned_told n s y rest h =
      let p = split (all_assigned_of value) (λ x. gives (x, n)) s y rest h in
      told_none may action_after n p.value y p.middle rest p.second (uncounted n s p.value p.middle p.first)

  action_told : (inner : Bool) (n : ℕ) (l : Label) (x : Start) (s : Stream) (y : Counted Action) (rest : Stream) → action_of value lower inner n l x s ≡ Ok (y, rest) → Told may action_after n y
  unfolding action_of
  action_told inner n l starts.Named s y rest h = told_plain may action_after n (λ e. assign l e) (λ e. refl) (right_side_of value) s y rest h
  action_told inner n l starts.Listed s y rest h = all_assigned_told n s y rest h
  action_told inner n l starts.Skip s y rest h = told_none may action_after n skip y s rest h refl
  action_told inner n l starts.Critical s y rest h = told_none may action_after n critical y s rest h refl
  action_told inner n l starts.Noncritical s y rest h = told_none may action_after n noncritical y s rest h refl
  action_told inner n l starts.Await s y rest h = told_plain may action_after n (λ e. await e) (λ e. refl) value s y rest h
  action_told inner n l starts.Request s y rest h = told_plain may action_after n (λ m. request m) (λ m. refl) named s y rest h
  action_told inner n l starts.Release s y rest h = told_plain may action_after n (λ m. release m) (λ m. refl) named s y rest h
  action_told inner n l starts.If s y rest h = conditional_told inner n s y rest h
  action_told inner n l starts.While s y rest h =
      let p = split value (λ e. doing value lower (while_do e) n) s y rest h in
      doing_told (while_do p.value) (λ x n. refl) n p.middle y rest p.second
  action_told inner n l starts.Loop s y rest h =
      let p = split (expected marks.Forever) (λ m. doing value lower forever n) s y rest h in
      doing_told (λ x. forever x) (λ x n. refl) n p.middle y rest p.second
  action_told inner n l starts.Block s y rest h = enclosed_told statement_list (λ xs. block (statements xs)) (λ xs n. refl) marks.CloseBlock (sequence_of value lower inner n) n (sequence_told inner n) s y rest h
  action_told inner n l starts.Select s y rest h =
      let p = split (expected marks.OpenBlock) (λ m. enclosed (λ xs. select (statements xs)) marks.CloseBlock (selection_of value lower n)) s y rest h in
      enclosed_told statement_list (λ xs. select (statements xs)) (λ xs n. refl) marks.CloseBlock (selection_of value lower n) n (selection_told n) p.middle y rest p.second
  action_told inner n l starts.Cooperate s y rest h = enclosed_told body_list (λ xs. cooperate (bodies xs)) (λ xs n. refl) marks.Coend (children_of value lower n) n (children_told n) s y rest h
  action_told inner n l starts.Group s y rest h = enclosed_told statement_list (λ xs. group (statements xs)) (λ xs n. refl) marks.CloseGroup (sequence_of value lower true n) n (sequence_told true n) s y rest h

  -- STATEMENTS
  bare_at : (inner : Bool) (label : Option Label) (n : ℕ) (s : Stream) (y : Counted Statement) (rest : Stream) (c : Option Start) → on_operator c (Err (refusal s)) (λ x. then_reads (action_of value lower inner n (name_of s) x) (λ a. gives (standing label (place_of s) a)) (behind s)) ≡ Ok (y, rest) → Told may within_after n y
  bare_at inner label n s y rest None h = cc
  bare_at inner label n s y rest (Some x) h =
      let p = split (action_of value lower inner n (name_of s) x) (λ a. gives (standing label (place_of s) a)) (behind s) y rest h in
      told_as may within_after n (standing label (place_of s) p.value) y p.middle rest p.second (told_map may action_after within_after (λ a. stated label (place_of s) a) (λ a n. refl) n p.value (action_told inner n (name_of s) x (behind s) p.value p.middle p.first))

  bare_told : (inner : Bool) (label : Option Label) (n : ℕ) (s : Stream) (y : Counted Statement) (rest : Stream) → bare_of value lower inner label n s ≡ Ok (y, rest) → Told may within_after n y
  unfolding bare_of
  bare_told inner label n s y rest h = bare_at inner label n s y rest (start (ahead s)) h

  assigned_told : (l : Label) (n : ℕ) (s : Stream) (y : Counted Statement) (rest : Stream) → assigned_of value l n s ≡ Ok (y, rest) → Told may within_after n y
  unfolding assigned_of
  assigned_told l n s y rest h = told_plain may within_after n (λ e. stated None l.place (assign l e)) (λ e. refl) (right_side_of value) s y rest h

  named_at : (l : Label) (n : ℕ) (s : Stream) (y : Counted Statement) (rest : Stream) (c : Bool) → cond c (bare_of value lower false (Some l) n (behind s)) (assigned_of value l n s) ≡ Ok (y, rest) → Told may within_after n y
  named_at l n s y rest true h = bare_told false (Some l) n (behind s) y rest h
  named_at l n s y rest false h = assigned_told l n s y rest h

  named_statement_told : (l : Label) (n : ℕ) (s : Stream) (y : Counted Statement) (rest : Stream) → named_of value lower l n s ≡ Ok (y, rest) → Told may within_after n y
  unfolding named_of
  named_statement_told l n s y rest h = named_at l n s y rest (is (ahead s) marks.Colon) h

  fresh_at : (n : ℕ) (s : Stream) (y : Counted Statement) (rest : Stream) (c : Bool) → cond c (named_of value lower (name_of s) n (behind s)) (bare_of value lower false None n s) ≡ Ok (y, rest) → Told may within_after n y
  fresh_at n s y rest true h = named_statement_told (name_of s) n (behind s) y rest h
  fresh_at n s y rest false h = bare_told false None n s y rest h

  statement_told : (b : Begun) (n : ℕ) (s : Stream) (y : Counted Statement) (rest : Stream) → statement_of value lower b n s ≡ Ok (y, rest) → Told may within_after n y
  unfolding statement_of
  statement_told (fresh true) n s y rest h = bare_told true None n s y rest h
  statement_told (fresh false) n s y rest h = fresh_at n s y rest (is_name (ahead s)) h
  statement_told (after_name l) n s y rest h = assigned_told l n s y rest h
  statement_told (after_label l) n s y rest h = bare_told false (Some l) n s y rest h

-- AT EVERY LEVEL
module _ (value : Reader Expr) (may : ℕ → Bool) where
  -- the statement itself is counted first
  with_itself : (n : ℕ) (y : Counted Statement) → may n ≡ true → Told may within_after (n + 1) y → (y.1 ≡ statement_after y.0 n) × Fits may y.0 n
  with_itself n (stated label place a, m) h t = (t.0, one_begins may n (action_after a (n + 1)) h t.1)

  admitted_at : (lower : Lower) (tl : (b : Begun) → Tallies (lower b) statement_after (Fits may)) (b : Begun) (n : ℕ) (s : Stream) (y : Counted Statement) (rest : Stream) (c d : Bool) → d ≡ may n
      → cond c (cond d (statement_of value lower b (n + 1) s) (limited value limits.Statements b s)) (Err (refusal s)) ≡ Ok (y, rest) → (y.1 ≡ statement_after y.0 n) × Fits may y.0 n
  admitted_at lower tl b n s y rest true true e h = with_itself n y (sym e) (statement_told value may lower tl b (n + 1) s y rest h)
  admitted_at lower tl b n s y rest true false e h = cc
  admitted_at lower tl b n s y rest false d e h = cc

  refused : (b : Begun) (n : ℕ) (s : Stream) (y : Counted Statement) (rest : Stream) (c d : Bool) → cond c (cond d (limited value limits.Nesting b s) (limited value limits.Statements b s)) (Err (refusal s)) ≡ Ok (y, rest) → ⊥
  refused b n s y rest true true h = cc
  refused b n s y rest true false h = cc
  refused b n s y rest false d h = cc

  pub inside_tallies : (room : ℕ) (b : Begun) → Tallies (inside value may room b) statement_after (Fits may)
  unfolding inside
  inside_tallies zero b n s y rest h = absurd (refused b n s y rest (goes_on b (ahead s)) (may n) h)
  inside_tallies (suc room) b n s y rest h = admitted_at (inside value may room) (inside_tallies room) b n s y rest (goes_on b (ahead s)) (may n) refl h
