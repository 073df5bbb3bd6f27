-- Statements, read within limits or within larger ones: what is read stays read, and a fault that is kept stays.
use Rattle.std.proofs.Common.{◌≡◌, ℕ, zero, suc, ◌+◌, Bool, true, false, cond, List, [], ◌∷◌, Option, Some, None, Err, ◌⊎◌, inl, inr, refl, sym, ◌∙◌, arith}
use Rattle.st_tokens.specs.declared.limit.LimitKind.{LimitKind}
use Rattle.st_tokens.specs.declared.limit.LimitKind.TheVariants as limits
use Rattle.st_tokens.specs.Stream.{Stream, behind}
use Rattle.st_reading.specs.declared.mark.Mark.{Mark}
use Rattle.st_reading.specs.declared.mark.Mark.TheVariants as marks
use Rattle.st_reading.specs.Sign.{is}
use Rattle.st_reading.specs.Faults.{Passed, passed}
use Rattle.st_reading.specs.Reading.{other, Read, Label, ahead, place_of, name_of, is_name, refusal, named, expected, gives, then_reads, size, only, Counted, further, linked}
use Rattle.st_reading.proofs.Lifting.{Lifted, Lifts, lifted_same, lifts_same, lifts_bind, lifts_behind, lifts_map, lifted_cond, lifted_operator, lifts_chain, lifts_further, lifts_linked}
use Rattle.spl_parser.specs.declared.sign.Start.{Start}
use Rattle.spl_parser.specs.declared.sign.Start.TheVariants as starts
use Rattle.spl_parser.specs.Signs.{start}
use Rattle.expression_parser.specs.ExpressionTree.{Expr}
use Rattle.spl_parser.specs.ProgramTree.{Statement, stated, statements, branch, no_branch, conditional, Action, assign, assign_all, await, while_do, forever, block, select, cooperate, group, bodies}
use Rattle.spl_parser.specs.Item.{last}
use Rattle.spl_parser.specs.Begun.{Begun, fresh, after_name, after_label}
use Rattle.expression_parser.specs.Reading.{Reader}
use Rattle.spl_parser.specs.Statements.{Lower, goes_on, front_place, limited, listed_of, right_side_of, all_assigned_of, assigned_of, sequence_of, selection_of, an_item, labelled_item, named_item, item_of, turned_by, continuing, closed_body, rest_of_body, body_of, child_of, children_of, branch_of, conditional_of, doing, enclosed, action_of, standing, bare_of, named_of, statement_of, inside}
use Rattle.expression_parser.proofs.ExpressionLifting.{AsDeep, one_less}

module _ (Keep : Passed → Type 0) where
  listed_lifts : {A : Type 0} (r q : Reader A) → Lifts Keep r q → Lifts Keep (listed_of r) (listed_of q)
  unfolding listed_of
  listed_lifts r q h =
      lifts_bind Keep r q (λ x. then_reads (expected marks.Comma) (λ m. then_reads r (λ y. then_reads (further marks.Comma r (x ∷ y ∷ [])) (λ xs. then_reads (expected marks.Close) (λ m. gives xs))))) (λ x. then_reads (expected marks.Comma) (λ m. then_reads q (λ y. then_reads (further marks.Comma q (x ∷ y ∷ [])) (λ xs. then_reads (expected marks.Close) (λ m. gives xs))))) h
      (λ x. lifts_behind Keep (expected marks.Comma) (λ m. then_reads r (λ y. then_reads (further marks.Comma r (x ∷ y ∷ [])) (λ xs. then_reads (expected marks.Close) (λ m. gives xs)))) (λ m. then_reads q (λ y. then_reads (further marks.Comma q (x ∷ y ∷ [])) (λ xs. then_reads (expected marks.Close) (λ m. gives xs))))
      (λ m. lifts_bind Keep r q (λ y. then_reads (further marks.Comma r (x ∷ y ∷ [])) (λ xs. then_reads (expected marks.Close) (λ m. gives xs))) (λ y. then_reads (further marks.Comma q (x ∷ y ∷ [])) (λ xs. then_reads (expected marks.Close) (λ m. gives xs))) h
      (λ y. lifts_bind Keep (further marks.Comma r (x ∷ y ∷ [])) (further marks.Comma q (x ∷ y ∷ [])) (λ xs. then_reads (expected marks.Close) (λ m. gives xs)) (λ xs. then_reads (expected marks.Close) (λ m. gives xs)) (lifts_further Keep marks.Comma r q h (x ∷ y ∷ []))
      (λ xs. lifts_same Keep (then_reads (expected marks.Close) (λ m. gives xs))))))

  module _ (value value2 : Reader Expr) (vl : Lifts Keep value value2) where
    right_side_lifts : Lifts Keep (right_side_of value) (right_side_of value2)
    unfolding right_side_of
    right_side_lifts = lifts_behind Keep (expected marks.Becomes) (λ m. value) (λ m. value2) (λ m. vl)

    assigned_lifts : (l : Label) (n : ℕ) → Lifts Keep (assigned_of value l n) (assigned_of value2 l n)
    unfolding assigned_of
    assigned_lifts l n = lifts_map Keep (λ e. (stated None l.place (assign l e), n)) (right_side_of value) (right_side_of value2) right_side_lifts

    all_assigned_lifts : Lifts Keep (all_assigned_of value) (all_assigned_of value2)
    unfolding all_assigned_of
    all_assigned_lifts =
        lifts_behind Keep (listed_of named) (λ targets. then_reads (expected marks.Becomes) (λ m. then_reads (expected marks.Open) (λ list. then_reads (listed_of value) (λ vs. gives (assign_all targets list vs))))) (λ targets. then_reads (expected marks.Becomes) (λ m. then_reads (expected marks.Open) (λ list. then_reads (listed_of value2) (λ vs. gives (assign_all targets list vs)))))
        (λ targets. lifts_behind Keep (expected marks.Becomes) (λ m. then_reads (expected marks.Open) (λ list. then_reads (listed_of value) (λ vs. gives (assign_all targets list vs)))) (λ m. then_reads (expected marks.Open) (λ list. then_reads (listed_of value2) (λ vs. gives (assign_all targets list vs))))
        (λ m. lifts_behind Keep (expected marks.Open) (λ list. then_reads (listed_of value) (λ vs. gives (assign_all targets list vs))) (λ list. then_reads (listed_of value2) (λ vs. gives (assign_all targets list vs)))
        (λ list. lifts_map Keep (λ vs. assign_all targets list vs) (listed_of value) (listed_of value2) (listed_lifts value value2 vl))))

    module _ (lower lower2 : Lower) (ll : (b : Begun) (n : ℕ) → Lifts Keep (lower b n) (lower2 b n)) where
      sequence_lifts : (inner : Bool) (n : ℕ) → Lifts Keep (sequence_of value lower inner n) (sequence_of value2 lower2 inner n)
      unfolding sequence_of
      sequence_lifts inner n =
          lifts_bind Keep (lower (fresh inner) n) (lower2 (fresh inner) n) (λ x. linked marks.Semicolon (lower (fresh inner)) (x.0 ∷ [], x.1)) (λ x. linked marks.Semicolon (lower2 (fresh inner)) (x.0 ∷ [], x.1)) (ll (fresh inner) n)
          (λ x. lifts_linked Keep marks.Semicolon (lower (fresh inner)) (lower2 (fresh inner)) (ll (fresh inner)) (x.0 ∷ [], x.1))

      selection_lifts : (n : ℕ) → Lifts Keep (selection_of value lower n) (selection_of value2 lower2 n)
      unfolding selection_of
      selection_lifts n =
          lifts_bind Keep (lower (fresh false) n) (lower2 (fresh false) n) (λ x. then_reads (expected marks.Either) (λ m. then_reads (lower (fresh false) x.1) (λ y. linked marks.Either (lower (fresh false)) (x.0 ∷ y.0 ∷ [], y.1)))) (λ x. then_reads (expected marks.Either) (λ m. then_reads (lower2 (fresh false) x.1) (λ y. linked marks.Either (lower2 (fresh false)) (x.0 ∷ y.0 ∷ [], y.1)))) (ll (fresh false) n)
          (λ x. lifts_behind Keep (expected marks.Either) (λ m. then_reads (lower (fresh false) x.1) (λ y. linked marks.Either (lower (fresh false)) (x.0 ∷ y.0 ∷ [], y.1))) (λ m. then_reads (lower2 (fresh false) x.1) (λ y. linked marks.Either (lower2 (fresh false)) (x.0 ∷ y.0 ∷ [], y.1)))
          (λ m. lifts_bind Keep (lower (fresh false) x.1) (lower2 (fresh false) x.1) (λ y. linked marks.Either (lower (fresh false)) (x.0 ∷ y.0 ∷ [], y.1)) (λ y. linked marks.Either (lower2 (fresh false)) (x.0 ∷ y.0 ∷ [], y.1)) (ll (fresh false) x.1)
          (λ y. lifts_linked Keep marks.Either (lower (fresh false)) (lower2 (fresh false)) (ll (fresh false)) (x.0 ∷ y.0 ∷ [], y.1))))

      -- BODIES
      plain_lifts : (b : Begun) (n : ℕ) → Lifts Keep (then_reads (lower b n) (λ x. gives (an_item x))) (then_reads (lower2 b n) (λ x. gives (an_item x)))
      plain_lifts b n = lifts_map Keep an_item (lower b n) (lower2 b n) (ll b n)

      labelled_lifts : (n : ℕ) (l : Label) → Lifts Keep (labelled_item value lower n l) (labelled_item value2 lower2 n l)
      labelled_lifts n l s =
          lifted_cond Keep (is (ahead s) marks.CloseBlock) (gives (last l, n) (behind s)) (then_reads (lower (after_label l) n) (λ x. gives (an_item x)) s) (gives (last l, n) (behind s)) (then_reads (lower2 (after_label l) n) (λ x. gives (an_item x)) s) refl (plain_lifts (after_label l) n s)

      named_lifts : (n : ℕ) (l : Label) → Lifts Keep (named_item value lower n l) (named_item value2 lower2 n l)
      named_lifts n l s =
          lifted_cond Keep (is (ahead s) marks.Colon) (labelled_item value lower n l (behind s)) (then_reads (lower (after_name l) n) (λ x. gives (an_item x)) s) (labelled_item value2 lower2 n l (behind s)) (then_reads (lower2 (after_name l) n) (λ x. gives (an_item x)) s) (labelled_lifts n l (behind s)) (plain_lifts (after_name l) n s)

      item_lifts : (n : ℕ) → Lifts Keep (item_of value lower n) (item_of value2 lower2 n)
      unfolding item_of
      item_lifts n s =
          lifted_cond Keep (is_name (ahead s)) (named_item value lower n (name_of s) (behind s)) (then_reads (lower (fresh false) n) (λ x. gives (an_item x)) s) (named_item value2 lower2 n (name_of s) (behind s)) (then_reads (lower2 (fresh false) n) (λ x. gives (an_item x)) s) (named_lifts n (name_of s) (behind s)) (plain_lifts (fresh false) n s)

      rest_lifts : (xs : Counted (List Statement)) → Lifts Keep (rest_of_body value lower xs) (rest_of_body value2 lower2 xs)
      rest_lifts xs s =
          lifts_chain Keep (only marks.Semicolon) (continuing value lower) (continuing value2 lower2) closed_body closed_body (λ o place ys. lifts_map Keep (turned_by ys.0) (item_of value lower ys.1) (item_of value2 lower2 ys.1) (item_lifts ys.1)) (λ ys. lifts_same Keep (closed_body ys)) (size s) xs s

      pub body_lifts : (n : ℕ) → Lifts Keep (body_of value lower n) (body_of value2 lower2 n)
      unfolding body_of
      body_lifts n = lifts_bind Keep (lower (fresh false) n) (lower2 (fresh false) n) (λ x. rest_of_body value lower (x.0 ∷ [], x.1)) (λ x. rest_of_body value2 lower2 (x.0 ∷ [], x.1)) (ll (fresh false) n) (λ x. rest_lifts (x.0 ∷ [], x.1))

      child_lifts : (n : ℕ) → Lifts Keep (child_of value lower n) (child_of value2 lower2 n)
      unfolding child_of
      child_lifts n = lifts_behind Keep (expected marks.OpenBlock) (λ m. body_of value lower n) (λ m. body_of value2 lower2 n) (λ m. body_lifts n)

      children_lifts : (n : ℕ) → Lifts Keep (children_of value lower n) (children_of value2 lower2 n)
      unfolding children_of
      children_lifts n =
          lifts_bind Keep (child_of value lower n) (child_of value2 lower2 n) (λ x. then_reads (expected marks.Bars) (λ m. then_reads (child_of value lower x.1) (λ y. linked marks.Bars (child_of value lower) (x.0 ∷ y.0 ∷ [], y.1)))) (λ x. then_reads (expected marks.Bars) (λ m. then_reads (child_of value2 lower2 x.1) (λ y. linked marks.Bars (child_of value2 lower2) (x.0 ∷ y.0 ∷ [], y.1)))) (child_lifts n)
          (λ x. lifts_behind Keep (expected marks.Bars) (λ m. then_reads (child_of value lower x.1) (λ y. linked marks.Bars (child_of value lower) (x.0 ∷ y.0 ∷ [], y.1))) (λ m. then_reads (child_of value2 lower2 x.1) (λ y. linked marks.Bars (child_of value2 lower2) (x.0 ∷ y.0 ∷ [], y.1)))
          (λ m. lifts_bind Keep (child_of value lower x.1) (child_of value2 lower2 x.1) (λ y. linked marks.Bars (child_of value lower) (x.0 ∷ y.0 ∷ [], y.1)) (λ y. linked marks.Bars (child_of value2 lower2) (x.0 ∷ y.0 ∷ [], y.1)) (child_lifts x.1)
          (λ y. lifts_linked Keep marks.Bars (child_of value lower) (child_of value2 lower2) child_lifts (x.0 ∷ y.0 ∷ [], y.1))))

      -- ACTIONS
      branch_lifts : (inner : Bool) (n : ℕ) → Lifts Keep (branch_of value lower inner n) (branch_of value2 lower2 inner n)
      unfolding branch_of
      branch_lifts inner n s =
          lifted_cond Keep (is (ahead s) marks.Else) (then_reads (lower (fresh inner) n) (λ x. gives (branch x.0, x.1)) (behind s)) (gives (no_branch, n) s) (then_reads (lower2 (fresh inner) n) (λ x. gives (branch x.0, x.1)) (behind s)) (gives (no_branch, n) s)
          (lifts_map Keep (λ (x : Counted Statement). (branch x.0, x.1)) (lower (fresh inner) n) (lower2 (fresh inner) n) (ll (fresh inner) n) (behind s)) refl

      conditional_lifts : (inner : Bool) (n : ℕ) → Lifts Keep (conditional_of value lower inner n) (conditional_of value2 lower2 inner n)
      unfolding conditional_of
      conditional_lifts inner n =
          lifts_bind Keep value value2 (λ e. then_reads (expected marks.Then) (λ m. then_reads (lower (fresh inner) n) (λ x. then_reads (branch_of value lower inner x.1) (λ y. then_reads (expected marks.Fi) (λ z. gives (conditional e x.0 y.0, y.1)))))) (λ e. then_reads (expected marks.Then) (λ m. then_reads (lower2 (fresh inner) n) (λ x. then_reads (branch_of value2 lower2 inner x.1) (λ y. then_reads (expected marks.Fi) (λ z. gives (conditional e x.0 y.0, y.1)))))) vl
          (λ e. lifts_behind Keep (expected marks.Then) (λ m. then_reads (lower (fresh inner) n) (λ x. then_reads (branch_of value lower inner x.1) (λ y. then_reads (expected marks.Fi) (λ z. gives (conditional e x.0 y.0, y.1))))) (λ m. then_reads (lower2 (fresh inner) n) (λ x. then_reads (branch_of value2 lower2 inner x.1) (λ y. then_reads (expected marks.Fi) (λ z. gives (conditional e x.0 y.0, y.1)))))
          (λ m. lifts_bind Keep (lower (fresh inner) n) (lower2 (fresh inner) n) (λ x. then_reads (branch_of value lower inner x.1) (λ y. then_reads (expected marks.Fi) (λ z. gives (conditional e x.0 y.0, y.1)))) (λ x. then_reads (branch_of value2 lower2 inner x.1) (λ y. then_reads (expected marks.Fi) (λ z. gives (conditional e x.0 y.0, y.1)))) (ll (fresh inner) n)
          (λ x. lifts_bind Keep (branch_of value lower inner x.1) (branch_of value2 lower2 inner x.1) (λ y. then_reads (expected marks.Fi) (λ z. gives (conditional e x.0 y.0, y.1))) (λ y. then_reads (expected marks.Fi) (λ z. gives (conditional e x.0 y.0, y.1))) (branch_lifts inner x.1)
          (λ y. lifts_same Keep (then_reads (expected marks.Fi) (λ z. gives (conditional e x.0 y.0, y.1)))))))

      doing_lifts : (action : Statement → Action) (n : ℕ) → Lifts Keep (doing value lower action n) (doing value2 lower2 action n)
      doing_lifts action n = lifts_behind Keep (expected marks.Do) (λ m. then_reads (lower (fresh false) n) (λ x. gives (action x.0, x.1))) (λ m. then_reads (lower2 (fresh false) n) (λ x. gives (action x.0, x.1))) (λ m. lifts_map Keep (λ (x : Counted Statement). (action x.0, x.1)) (lower (fresh false) n) (lower2 (fresh false) n) (ll (fresh false) n))

      enclosed_lifts : {A : Type 0} (action : List A → Action) (mark : Mark) (r q : Reader (Counted (List A))) → Lifts Keep r q → Lifts Keep (enclosed action mark r) (enclosed action mark q)
      enclosed_lifts action mark r q h =
          lifts_bind Keep r q (λ xs. then_reads (expected mark) (λ m. gives (action xs.0, xs.1))) (λ xs. then_reads (expected mark) (λ m. gives (action xs.0, xs.1))) h (λ xs. lifts_same Keep (then_reads (expected mark) (λ m. gives (action xs.0, xs.1))))

      action_lifts : (inner : Bool) (n : ℕ) (l : Label) (x : Start) → Lifts Keep (action_of value lower inner n l x) (action_of value2 lower2 inner n l x)
      unfolding action_of
      action_lifts inner n l starts.Named s = lifts_map Keep (λ e. (assign l e, n)) (right_side_of value) (right_side_of value2) right_side_lifts s
      action_lifts inner n l starts.Listed s = lifts_map Keep (λ (a : Action). (a, n)) (all_assigned_of value) (all_assigned_of value2) all_assigned_lifts s
      action_lifts inner n l starts.Skip s = refl
      action_lifts inner n l starts.Critical s = refl
      action_lifts inner n l starts.Noncritical s = refl
      action_lifts inner n l starts.Await s = lifts_map Keep (λ e. (await e, n)) value value2 vl s
      action_lifts inner n l starts.Request s = lifted_same Keep (action_of value lower inner n l starts.Request s)
      action_lifts inner n l starts.Release s = lifted_same Keep (action_of value lower inner n l starts.Release s)
      action_lifts inner n l starts.If s = conditional_lifts inner n s
      action_lifts inner n l starts.While s = lifts_bind Keep value value2 (λ e. doing value lower (while_do e) n) (λ e. doing value2 lower2 (while_do e) n) vl (λ e. doing_lifts (while_do e) n) s
      action_lifts inner n l starts.Loop s = lifts_behind Keep (expected marks.Forever) (λ m. doing value lower forever n) (λ m. doing value2 lower2 forever n) (λ m. doing_lifts forever n) s
      action_lifts inner n l starts.Block s = enclosed_lifts (λ xs. block (statements xs)) marks.CloseBlock (sequence_of value lower inner n) (sequence_of value2 lower2 inner n) (sequence_lifts inner n) s
      action_lifts inner n l starts.Select s =
          lifts_behind Keep (expected marks.OpenBlock) (λ m. enclosed (λ xs. select (statements xs)) marks.CloseBlock (selection_of value lower n)) (λ m. enclosed (λ xs. select (statements xs)) marks.CloseBlock (selection_of value2 lower2 n))
          (λ m. enclosed_lifts (λ xs. select (statements xs)) marks.CloseBlock (selection_of value lower n) (selection_of value2 lower2 n) (selection_lifts n)) s
      action_lifts inner n l starts.Cooperate s = enclosed_lifts (λ xs. cooperate (bodies xs)) marks.Coend (children_of value lower n) (children_of value2 lower2 n) (children_lifts n) s
      action_lifts inner n l starts.Group s = enclosed_lifts (λ xs. group (statements xs)) marks.CloseGroup (sequence_of value lower true n) (sequence_of value2 lower2 true n) (sequence_lifts true n) s

      -- STATEMENTS
      bare_lifts : (inner : Bool) (label : Option Label) (n : ℕ) → Lifts Keep (bare_of value lower inner label n) (bare_of value2 lower2 inner label n)
      unfolding bare_of
      bare_lifts inner label n s =
          lifted_operator Keep (start (ahead s)) (Err (refusal s)) (Err (refusal s)) (λ x. then_reads (action_of value lower inner n (name_of s) x) (λ a. gives (standing label (place_of s) a)) (behind s)) (λ x. then_reads (action_of value2 lower2 inner n (name_of s) x) (λ a. gives (standing label (place_of s) a)) (behind s)) (λ k. refl)
          (λ x. lifts_map Keep (standing label (place_of s)) (action_of value lower inner n (name_of s) x) (action_of value2 lower2 inner n (name_of s) x) (action_lifts inner n (name_of s) x) (behind s))

      named_statement_lifts : (l : Label) (n : ℕ) → Lifts Keep (named_of value lower l n) (named_of value2 lower2 l n)
      unfolding named_of
      named_statement_lifts l n s = lifted_cond Keep (is (ahead s) marks.Colon) (bare_of value lower false (Some l) n (behind s)) (assigned_of value l n s) (bare_of value2 lower2 false (Some l) n (behind s)) (assigned_of value2 l n s) (bare_lifts false (Some l) n (behind s)) (assigned_lifts l n s)

      statement_lifts : (b : Begun) (n : ℕ) → Lifts Keep (statement_of value lower b n) (statement_of value2 lower2 b n)
      unfolding statement_of
      statement_lifts (fresh true) n s = bare_lifts true None n s
      statement_lifts (fresh false) n s = lifted_cond Keep (is_name (ahead s)) (named_of value lower (name_of s) n (behind s)) (bare_of value lower false None n s) (named_of value2 lower2 (name_of s) n (behind s)) (bare_of value2 lower2 false None n s) (named_statement_lifts (name_of s) n (behind s)) (bare_lifts false None n s)
      statement_lifts (after_name l) n s = assigned_lifts l n s
      statement_lifts (after_label l) n s = bare_lifts false (Some l) n s

  -- as many may begin, or more where a passed limit on their number isn't kept
  abbrev pub AsMany : LimitKind → (ℕ → Bool) → (ℕ → Bool) → Type 0
  AsMany kind may may2 = ((k : ℕ) → may k ≡ may2 k) ⊎ (((k : ℕ) → may k ≡ true → may2 k ≡ true) × ((place : ℕ) → Keep (passed kind place) → ⊥))

  -- a test of the number
  pub lifted_test : {A : Type 0} (kind : LimitKind) (may may2 : ℕ → Bool) → AsMany kind may may2 → (n place : ℕ) (o p : Read Passed A) → Lifted Keep o p → Lifted Keep (cond (may n) o (Err (other (passed kind place)))) (cond (may2 n) p (Err (other (passed kind place))))
  lifted_test {A} kind may may2 h n place o p l = at_test (may n) (may2 n) refl refl h
    where
      at_test : (b c : Bool) → b ≡ may n → c ≡ may2 n → AsMany kind may may2 → Lifted Keep (cond b o (Err (other (passed kind place)))) (cond c p (Err (other (passed kind place))))
      at_test true true e f h = l
      at_test true false e f (inl h) = let k : true ≡ false = e ∙ h n ∙ sym f in cc
      at_test true false e f (inr h) = let k : true ≡ false = sym (h.0 n (sym e)) ∙ sym f in cc
      at_test false true e f (inl h) = let k : false ≡ true = e ∙ h n ∙ sym f in cc
      at_test false true e f (inr h) = λ k. absurd (h.1 place k)
      at_test false false e f h = λ k. refl

  module _ (value value2 : Reader Expr) (vl : Lifts Keep value value2) (may may2 : ℕ → Bool) (many : AsMany limits.Statements may may2) where
    admitted_lifts : (r q : Lower) → ((b : Begun) (n : ℕ) → Lifts Keep (r b n) (q b n)) → (b : Begun) (n : ℕ) (s : Stream)
        → Lifted Keep (cond (goes_on b (ahead s)) (cond (may n) (r b n s) (limited value limits.Statements b s)) (Err (refusal s))) (cond (goes_on b (ahead s)) (cond (may2 n) (q b n s) (limited value2 limits.Statements b s)) (Err (refusal s)))
    admitted_lifts r q h b n s =
        lifted_cond Keep (goes_on b (ahead s)) (cond (may n) (r b n s) (limited value limits.Statements b s)) (Err (refusal s)) (cond (may2 n) (q b n s) (limited value2 limits.Statements b s)) (Err (refusal s))
        (lifted_test limits.Statements may may2 many n (front_place b (place_of s)) (r b n s) (q b n s) (h b n s)) (λ k. refl)

    deep_lifts : (m : ℕ) → ((place : ℕ) → Keep (passed limits.Nesting place) → ⊥) → (b : Begun) (n : ℕ) → Lifts Keep (limited value limits.Nesting b) (λ s. statement_of value2 (inside value2 may2 m) b (n + 1) s)
    deep_lifts m h b n s = λ k. absurd (h (front_place b (place_of s)) k)

    pub inside_lifts : (room room2 : ℕ) → AsDeep Keep room room2 → (b : Begun) (n : ℕ) → Lifts Keep (inside value may room b n) (inside value2 may2 room2 b n)
    unfolding inside
    inside_lifts zero zero h b n s = admitted_lifts (λ c m. limited value limits.Nesting c) (λ c m. limited value2 limits.Nesting c) (λ b n s k. refl) b n s
    inside_lifts zero (suc m) (inl h) b n s = absurd (omega arith)
    inside_lifts zero (suc m) (inr h) b n s = admitted_lifts (λ c k. limited value limits.Nesting c) (λ c k. statement_of value2 (inside value2 may2 m) c (k + 1)) (deep_lifts m h.1) b n s
    inside_lifts (suc r) zero (inl h) b n s = absurd (omega arith)
    inside_lifts (suc r) zero (inr h) b n s = let le = h.0 in absurd (omega arith)
    inside_lifts (suc r) (suc m) h b n s =
        admitted_lifts (λ c k. statement_of value (inside value may r) c (k + 1)) (λ c k. statement_of value2 (inside value2 may2 m) c (k + 1)) (λ b n. statement_lifts value value2 vl (inside value may r) (inside value2 may2 m) (inside_lifts r m (one_less Keep r m h)) b (n + 1)) b n s
