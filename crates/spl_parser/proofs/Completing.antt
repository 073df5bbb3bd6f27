-- What completes a statement, where inner statements can be completed.
use Rattle.std.proofs.Common.{◌≡◌, ℕ, Bool, true, false, List, [], ◌∷◌, None, refl, sym, ◌∙◌}
use Rattle.st_tokens.specs.Stream.{◌++>◌}
use Rattle.st_reading.specs.declared.mark.Mark.{Mark}
use Rattle.st_reading.specs.declared.mark.Mark.TheVariants as marks
use Rattle.st_reading.specs.declared.sign.Sign.{Sign}
use Rattle.st_reading.specs.declared.sign.Sign.TheVariants as signs
use Rattle.st_reading.specs.Mark.{number}
use Rattle.st_reading.specs.Faults.{Passed}
use Rattle.st_reading.specs.Reading.{Label, ahead, expected, named, gives, then_reads, size, only, listing, Counted, counting, further, linked}
use Rattle.st_reading.specs.Steady.{Viable, anything}
use Rattle.st_reading.proofs.Steadiness.{viable_named}
use Rattle.st_reading.proofs.Chains.{chain_none}
use Rattle.st_reading.proofs.Spelled.{none_spelled}
use Rattle.st_reading.proofs.Branches.{completes_calmer, completes_gives, completes_bind, completes_map}
use Rattle.spl_parser.specs.declared.sign.Start.{Start}
use Rattle.spl_parser.specs.declared.sign.Start.TheVariants as starts
use Rattle.expression_parser.specs.ExpressionTree.{Expr}
use Rattle.spl_parser.specs.ProgramTree.{Statement, statements, no_branch, conditional, Action, skip, critical, noncritical, assign, assign_all, await, request, release, while_do, forever, block, select, cooperate, group, Body, body, bodies}
use Rattle.spl_parser.specs.Begun.{Begun, fresh}
use Rattle.expression_parser.specs.Calm.{calm, calm_but, calm_but2}
use Rattle.expression_parser.specs.Reading.{Reader}
use Rattle.spl_parser.specs.Statements.{Lower, listed_of, right_side_of, all_assigned_of, sequence_of, selection_of, continuing, closed_body, rest_of_body, body_of, child_of, children_of, branch_of, conditional_of, doing, enclosed, action_of}
use Rattle.expression_parser.proofs.Quiet.{but_calm, but_none, but_false, but2_other, but2_none, name_token, name_spelled}
use Rattle.spl_parser.proofs.Witnesses.{Witness, completes_mark, becomes_mark, comma_mark, open_mark, close_mark, close_block_mark, close_group_mark, open_block_mark, then_mark, fi_mark, do_mark, forever_mark, either_mark, bars_mark, coend_mark}
use Rattle.spl_parser.proofs.ListLaw.{any_of, same}
use Rattle.spl_parser.proofs.BodyLaw.{in_body, apart, name_is, name_calm}

name_completes : Viable {X = Passed} calm calm named []
name_completes = viable_named calm calm name_token name_spelled name_is name_calm

-- A LIST ENDS AT ONCE
further_completes : {A : Type 0} (mark : Mark) (r : Reader A) (xs : List A) → Viable (calm_but mark) (calm_but mark) (further mark r xs) []
further_completes mark r xs = record { others = []; spelled = none_spelled; value = xs; begins = λ n after h. h; reads = λ after h. chain_none (only mark) (listing r) gives (size after) xs after (sym (but_none mark (ahead after) h)) }

linked_completes : {A : Type 0} (mark : Mark) (r : ℕ → Reader (Counted A)) (xs : Counted (List A)) → Viable (calm_but mark) (calm_but mark) (linked mark r xs) []
linked_completes mark r xs = record { others = []; spelled = none_spelled; value = xs; begins = λ n after h. h; reads = λ after h. chain_none (only mark) (counting (λ o. r)) gives (size after) xs after (sym (but_none mark (ahead after) h)) }

-- LISTS WITH COMMAS
listed_completes : {A : Type 0} (r : Reader A) → Viable calm calm r [] → Viable calm anything (listed_of r) []
unfolding listed_of number calm calm_but
listed_completes r v =
    completes_bind calm calm calm anything (same calm) r (λ x. then_reads (expected marks.Comma) (λ m. then_reads r (λ y. then_reads (further marks.Comma r (x ∷ y ∷ [])) (λ xs. then_reads (expected marks.Close) (λ m. gives xs))))) v
    (λ x. completes_bind calm anything calm anything (any_of calm) (expected marks.Comma) (λ m. then_reads r (λ y. then_reads (further marks.Comma r (x ∷ y ∷ [])) (λ xs. then_reads (expected marks.Close) (λ m. gives xs)))) (completes_mark marks.Comma comma_mark calm anything refl)
    (λ m. completes_bind calm calm (calm_but marks.Comma) anything (but_calm marks.Comma) r (λ y. then_reads (further marks.Comma r (x ∷ y ∷ [])) (λ xs. then_reads (expected marks.Close) (λ m. gives xs))) v
    (λ y. completes_bind (calm_but marks.Comma) (calm_but marks.Comma) (calm_but marks.Comma) anything (same (calm_but marks.Comma)) (further marks.Comma r (x ∷ y ∷ [])) (λ xs. then_reads (expected marks.Close) (λ m. gives xs)) (further_completes marks.Comma r (x ∷ y ∷ []))
    (λ xs. completes_bind (calm_but marks.Comma) anything anything anything (same anything) (expected marks.Close) (λ m. gives xs) (completes_mark marks.Close close_mark (calm_but marks.Comma) anything refl) (λ m. completes_gives anything anything (same anything) xs)))))

-- behind a mark that is wanted
wanted : {A : Type 0} (front front2 calm2 : Sign → Bool) (m : Mark) (w : Witness m) → front (signs.Marked m) ≡ true → (u : ℕ → Reader A) → ((k : ℕ) → Viable front2 calm2 (u k) []) → Viable front calm2 (then_reads (expected m) u) []
wanted front front2 calm2 m w h u v = completes_bind front anything front2 calm2 (any_of front2) (expected m) u (completes_mark m w front anything h) v

module _ (value : Reader Expr) (vv : Viable calm calm value []) where
  right_side_completes : Viable calm calm (right_side_of value) []
  unfolding right_side_of number calm
  right_side_completes = wanted calm calm calm marks.Becomes becomes_mark refl (λ m. value) (λ m. vv)

  all_assigned_completes : Viable calm calm (all_assigned_of value) []
  unfolding all_assigned_of
  all_assigned_completes =
      completes_calmer calm anything calm (any_of calm) (all_assigned_of value)
      (completes_bind calm anything anything anything (same anything) (listed_of named) (λ targets. then_reads (expected marks.Becomes) (λ m. then_reads (expected marks.Open) (λ list. then_reads (listed_of value) (λ vs. gives (assign_all targets list vs))))) (listed_completes named name_completes)
      (λ targets. wanted anything anything anything marks.Becomes becomes_mark refl (λ m. then_reads (expected marks.Open) (λ list. then_reads (listed_of value) (λ vs. gives (assign_all targets list vs))))
      (λ m. wanted anything calm anything marks.Open open_mark refl (λ list. then_reads (listed_of value) (λ vs. gives (assign_all targets list vs)))
      (λ list. completes_bind calm anything anything anything (same anything) (listed_of value) (λ vs. gives (assign_all targets list vs)) (listed_completes value vv) (λ vs. completes_gives anything anything (same anything) (assign_all targets list vs))))))

  module _ (lower : Lower) (vl : (b : Begun) (n : ℕ) → Viable calm calm (lower b n) []) where
    sequence_completes : (inner : Bool) (n : ℕ) → Viable calm in_body (sequence_of value lower inner n) []
    unfolding sequence_of
    sequence_completes inner n =
        completes_bind calm calm in_body in_body (but_calm marks.Semicolon) (lower (fresh inner) n) (λ x. linked marks.Semicolon (lower (fresh inner)) (x.0 ∷ [], x.1)) (vl (fresh inner) n) (λ x. linked_completes marks.Semicolon (lower (fresh inner)) (x.0 ∷ [], x.1))

    selection_completes : (n : ℕ) → Viable calm (calm_but marks.Either) (selection_of value lower n) []
    unfolding selection_of number calm
    selection_completes n =
        completes_bind calm calm calm (calm_but marks.Either) (same calm) (lower (fresh false) n) (λ x. then_reads (expected marks.Either) (λ m. then_reads (lower (fresh false) x.1) (λ y. linked marks.Either (lower (fresh false)) (x.0 ∷ y.0 ∷ [], y.1)))) (vl (fresh false) n)
        (λ x. wanted calm calm (calm_but marks.Either) marks.Either either_mark refl (λ m. then_reads (lower (fresh false) x.1) (λ y. linked marks.Either (lower (fresh false)) (x.0 ∷ y.0 ∷ [], y.1)))
        (λ m. completes_bind calm calm (calm_but marks.Either) (calm_but marks.Either) (but_calm marks.Either) (lower (fresh false) x.1) (λ y. linked marks.Either (lower (fresh false)) (x.0 ∷ y.0 ∷ [], y.1)) (vl (fresh false) x.1)
        (λ y. linked_completes marks.Either (lower (fresh false)) (x.0 ∷ y.0 ∷ [], y.1))))

    body_completes : (n : ℕ) → Viable calm in_body (body_of value lower n) []
    unfolding body_of number calm calm_but
    body_completes n = completes_bind calm calm in_body in_body (but_calm marks.Semicolon) (lower (fresh false) n) (λ x. rest_of_body value lower (x.0 ∷ [], x.1)) (vl (fresh false) n) (λ x. ended (x.0 ∷ [], x.1))
      where
        closes : (xs : Counted (List Statement)) → Viable in_body in_body (closed_body xs) []
        closes xs = wanted in_body in_body in_body marks.CloseBlock close_block_mark refl (λ m. gives (body (statements xs.0) None, xs.1)) (λ m. completes_gives in_body in_body (same in_body) (body (statements xs.0) None, xs.1))

        ended : (xs : Counted (List Statement)) → Viable in_body in_body (rest_of_body value lower xs) []
        ended xs = record {
          others = (closes xs).others;
          spelled = (closes xs).spelled;
          value = (closes xs).value;
          begins = (closes xs).begins;
          reads = λ after h. chain_none (only marks.Semicolon) (continuing value lower) closed_body (size ((closes xs).others ++> after)) xs ((closes xs).others ++> after) (sym (but_none marks.Semicolon (ahead ((closes xs).others ++> after)) ((closes xs).begins refl after h))) ∙ (closes xs).reads after h;
        }

    child_completes : (n : ℕ) → Viable calm in_body (child_of value lower n) []
    unfolding child_of number calm
    child_completes n = wanted calm calm in_body marks.OpenBlock open_block_mark refl (λ m. body_of value lower n) (λ m. body_completes n)

    children_completes : (n : ℕ) → Viable calm apart (children_of value lower n) []
    unfolding children_of number calm calm_but
    children_completes n =
        completes_bind calm in_body in_body apart (same in_body) (child_of value lower n) (λ x. then_reads (expected marks.Bars) (λ m. then_reads (child_of value lower x.1) (λ y. linked marks.Bars (child_of value lower) (x.0 ∷ y.0 ∷ [], y.1)))) (child_completes n)
        (λ x. wanted in_body calm apart marks.Bars bars_mark refl (λ m. then_reads (child_of value lower x.1) (λ y. linked marks.Bars (child_of value lower) (x.0 ∷ y.0 ∷ [], y.1)))
        (λ m. completes_bind calm in_body apart apart (but2_other marks.Bars marks.Semicolon) (child_of value lower x.1) (λ y. linked marks.Bars (child_of value lower) (x.0 ∷ y.0 ∷ [], y.1)) (child_completes x.1) (λ y. no_further (x.0 ∷ y.0 ∷ [], y.1))))
      where
        no_further : (xs : Counted (List Body)) → Viable apart apart (linked marks.Bars (child_of value lower) xs) []
        no_further xs = record { others = []; spelled = none_spelled; value = xs; begins = λ n after h. h; reads = λ after h. chain_none (only marks.Bars) (counting (λ o. child_of value lower)) gives (size after) xs after (sym (but2_none marks.Bars marks.Semicolon (ahead after) h)) }

    conditional_completes : (inner : Bool) (n : ℕ) → Viable calm calm (conditional_of value lower inner n) []
    unfolding conditional_of branch_of number calm calm_but
    conditional_completes inner n =
        completes_bind calm calm calm calm (same calm) value (λ e. then_reads (expected marks.Then) (λ m. then_reads (lower (fresh inner) n) (λ x. then_reads (branch_of value lower inner x.1) (λ y. then_reads (expected marks.Fi) (λ z. gives (conditional e x.0 y.0, y.1)))))) vv
        (λ e. wanted calm calm calm marks.Then then_mark refl (λ m. then_reads (lower (fresh inner) n) (λ x. then_reads (branch_of value lower inner x.1) (λ y. then_reads (expected marks.Fi) (λ z. gives (conditional e x.0 y.0, y.1)))))
        (λ m. completes_bind calm calm (calm_but marks.Else) calm (but_calm marks.Else) (lower (fresh inner) n) (λ x. then_reads (branch_of value lower inner x.1) (λ y. then_reads (expected marks.Fi) (λ z. gives (conditional e x.0 y.0, y.1)))) (vl (fresh inner) n)
        (λ x. completes_bind (calm_but marks.Else) (calm_but marks.Else) (calm_but marks.Else) calm (same (calm_but marks.Else)) (branch_of value lower inner x.1) (λ y. then_reads (expected marks.Fi) (λ z. gives (conditional e x.0 y.0, y.1))) (no_else x.1)
        (λ y. wanted (calm_but marks.Else) calm calm marks.Fi fi_mark refl (λ z. gives (conditional e x.0 y.0, y.1)) (λ z. completes_gives calm calm (same calm) (conditional e x.0 y.0, y.1))))))
      where
        no_else : (m : ℕ) → Viable (calm_but marks.Else) (calm_but marks.Else) (branch_of value lower inner m) []
        no_else m = record { others = []; spelled = none_spelled; value = (no_branch, m); begins = λ n after h. h; reads = λ after h. let e = but_false marks.Else (ahead after) h in rw e refl }

    enclosed_completes : {A : Type 0} (set : Sign → Bool) (r : Reader (Counted (List A))) (action : List A → Action) (mark : Mark) (w : Witness mark) → set (signs.Marked mark) ≡ true → Viable calm set r [] → Viable calm calm (enclosed action mark r) []
    enclosed_completes set r action mark w h v =
        completes_bind calm set set calm (same set) r (λ xs. then_reads (expected mark) (λ m. gives (action xs.0, xs.1))) v (λ xs. wanted set calm calm mark w h (λ m. gives (action xs.0, xs.1)) (λ m. completes_gives calm calm (same calm) (action xs.0, xs.1)))

    doing_completes : (action : Statement → Action) (n : ℕ) → Viable calm calm (doing value lower action n) []
    unfolding number calm
    doing_completes action n = wanted calm calm calm marks.Do do_mark refl (λ m. then_reads (lower (fresh false) n) (λ x. gives (action x.0, x.1))) (λ m. completes_map calm calm (λ (x : Counted Statement). (action x.0, x.1)) (lower (fresh false) n) (vl (fresh false) n))

    pub action_completes : (inner : Bool) (n : ℕ) (l : Label) (x : Start) → Viable calm calm (action_of value lower inner n l x) []
    unfolding action_of number calm calm_but calm_but2
    action_completes inner n l starts.Named = completes_map calm calm (λ e. (assign l e, n)) (right_side_of value) right_side_completes
    action_completes inner n l starts.Listed = completes_map calm calm (λ (a : Action). (a, n)) (all_assigned_of value) all_assigned_completes
    action_completes inner n l starts.Skip = completes_gives calm calm (same calm) (skip, n)
    action_completes inner n l starts.Critical = completes_gives calm calm (same calm) (critical, n)
    action_completes inner n l starts.Noncritical = completes_gives calm calm (same calm) (noncritical, n)
    action_completes inner n l starts.Await = completes_map calm calm (λ e. (await e, n)) value vv
    action_completes inner n l starts.Request = completes_map calm calm (λ m. (request m, n)) named name_completes
    action_completes inner n l starts.Release = completes_map calm calm (λ m. (release m, n)) named name_completes
    action_completes inner n l starts.If = conditional_completes inner n
    action_completes inner n l starts.While = completes_bind calm calm calm calm (same calm) value (λ e. doing value lower (while_do e) n) vv (λ e. doing_completes (while_do e) n)
    action_completes inner n l starts.Loop = wanted calm calm calm marks.Forever forever_mark refl (λ m. doing value lower forever n) (λ m. doing_completes forever n)
    action_completes inner n l starts.Block = enclosed_completes in_body (sequence_of value lower inner n) (λ xs. block (statements xs)) marks.CloseBlock close_block_mark refl (sequence_completes inner n)
    action_completes inner n l starts.Select =
        wanted calm calm calm marks.OpenBlock open_block_mark refl (λ m. enclosed (λ xs. select (statements xs)) marks.CloseBlock (selection_of value lower n)) (λ m. enclosed_completes (calm_but marks.Either) (selection_of value lower n) (λ xs. select (statements xs)) marks.CloseBlock close_block_mark refl (selection_completes n))
    action_completes inner n l starts.Cooperate = enclosed_completes apart (children_of value lower n) (λ xs. cooperate (bodies xs)) marks.Coend coend_mark refl (children_completes n)
    action_completes inner n l starts.Group = enclosed_completes in_body (sequence_of value lower true n) (λ xs. group (statements xs)) marks.CloseGroup close_group_mark refl (sequence_completes true n)
