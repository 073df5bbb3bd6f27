-- The law of whole statements, for any readers of values and of inner statements that have it.
use Rattle.std.proofs.Common.{◌≡◌, ℕ, Bool, true, false, List, [], Option, Some, None, Err, refl, ap}
use Rattle.st_tokens.specs.Stream.{ends}
use Rattle.st_reading.specs.declared.mark.Mark.{Mark}
use Rattle.st_reading.specs.declared.mark.Mark.TheVariants as marks
use Rattle.st_reading.specs.declared.sign.Sign.{Sign}
use Rattle.st_reading.specs.declared.sign.Sign.TheVariants as signs
use Rattle.st_reading.specs.Mark.{number}
use Rattle.st_reading.specs.Sign.{sign_of, is}
use Rattle.st_reading.specs.Faults.{Passed}
use Rattle.st_reading.specs.Reading.{Label, label_of, expected, named, is_name, gives, then_reads, syntax, Counted}
use Rattle.st_reading.specs.Steady.{Viable, calmer, wider, anything}
use Rattle.st_reading.proofs.Lawful.{Lawful, lawful_bind, lawful_gives, lawful_map, lawful_weak}
use Rattle.st_reading.proofs.Branches.{lawful_calmer, completes_gives, completes_map, lawful_fork, fork_completes, lawful_pick, pick_completes}
use Rattle.spl_parser.specs.declared.sign.Start.{Start}
use Rattle.spl_parser.specs.declared.sign.Start.TheVariants as starts
use Rattle.spl_parser.specs.Signs.{start}
use Rattle.expression_parser.specs.ExpressionTree.{Expr}
use Rattle.spl_parser.specs.ProgramTree.{Statement, stated, statements, Action, skip, critical, noncritical, assign, await, request, release, while_do, forever, block, select, cooperate, group, Body, bodies}
use Rattle.spl_parser.specs.Begun.{Begun, fresh, after_name, after_label}
use Rattle.expression_parser.specs.Calm.{calm, calm_but, calm_but2}
use Rattle.expression_parser.specs.Reading.{Reader}
use Rattle.spl_parser.specs.Statements.{Lower, right_side_of, all_assigned_of, assigned_of, sequence_of, selection_of, children_of, conditional_of, doing, enclosed, action_of, standing, bare_of, named_of, statement_of}
use Rattle.expression_parser.proofs.Quiet.{but_calm, name_token, name_spelled}
use Rattle.spl_parser.proofs.Witnesses.{Witness, witness_is, witness_in, lawful_mark, close_block_mark, close_group_mark, open_block_mark, colon_mark, do_mark, forever_mark, coend_mark, skip_mark}
use Rattle.spl_parser.proofs.ListLaw.{any_of, same, lawful_name, lawful_right_side, lawful_all_assigned}
use Rattle.spl_parser.proofs.StatementLaw.{lawful_sequence, lawful_selection, lawful_enclosed, lawful_conditional}
use Rattle.spl_parser.proofs.BodyLaw.{in_body, apart, apart_calm, lawful_children, name_is, name_calm, colon_calm}
use Rattle.expression_parser.proofs.FormulaTheorems.{quiet}

pub skip_starts : start (sign_of skip_mark.token) ≡ Some starts.Skip
unfolding number
skip_starts = ap start skip_mark.sign

pub skip_calm : calm (sign_of skip_mark.token) ≡ true
unfolding number calm
skip_calm = witness_in marks.Skip skip_mark calm refl

module _ {I : Type 0} (value : Reader Expr) (values : I → Reader Expr) (lawful : Lawful calm calm value values) (none : value (ends 0) ≡ Err (syntax 0))
    (lower : Lower) (lowers : I → Lower) (ll : (b : Begun) (n : ℕ) → Lawful calm calm (lower b n) (λ i. lowers i b n)) (refuses : (b : Begun) (n : ℕ) → lower b n (ends 0) ≡ Err (syntax 0)) where
  do_it : Lawful {I = I} {X = Passed} calm anything (expected marks.Do) (λ i. expected marks.Do)
  unfolding number calm
  do_it = lawful_mark marks.Do do_mark calm refl

  lawful_doing : (action : Statement → Action) (n : ℕ) → Lawful calm calm (doing value lower action n) (λ i. doing (values i) (lowers i) action n)
  lawful_doing action n =
      lawful_bind calm anything calm calm (any_of calm) (expected marks.Do) (λ i. expected marks.Do) (λ m. then_reads (lower (fresh false) n) (λ x. gives (action x.0, x.1))) (λ i m. then_reads (lowers i (fresh false) n) (λ x. gives (action x.0, x.1)))
      (λ m. wider (same calm)) (wider (same calm)) (calmer (any_of calm)) do_it (λ m. lawful_map calm calm (same calm) (λ (x : Counted Statement). (action x.0, x.1)) (lower (fresh false) n) (λ i. lowers i (fresh false) n) (ll (fresh false) n))

  -- behind a mark that is wanted
  lawful_behind : {A : Type 0} (m : Mark) (w : Witness m) → calm (signs.Marked m) ≡ true → (r : Reader A) (p : I → Reader A) → Lawful calm calm r p → Lawful calm calm (then_reads (expected m) (λ k. r)) (λ i. then_reads (expected m) (λ k. p i))
  lawful_behind m w h r p l =
      lawful_bind calm anything calm calm (any_of calm) (expected m) (λ i. expected m) (λ k. r) (λ i k. p i) (λ k. wider (same calm)) (wider (same calm)) (calmer (any_of calm)) (lawful_mark m w calm h) (λ k. l)

  lawful_sequenced : (inner grouped : Bool) (n : ℕ) (action : List Statement → Action) (mark : Mark) (w : Witness mark) → in_body (signs.Marked mark) ≡ true
      → Lawful calm calm (enclosed action mark (sequence_of value lower inner n)) (λ i. enclosed action mark (sequence_of (values i) (lowers i) inner n))
  lawful_sequenced inner grouped n action mark w h =
      lawful_calmer calm anything calm (any_of calm) (enclosed action mark (sequence_of value lower inner n)) (λ i. enclosed action mark (sequence_of (values i) (lowers i) inner n))
      (lawful_enclosed value values lawful none lower lowers ll refuses in_body (but_calm marks.Semicolon) (sequence_of value lower inner n) (λ i. sequence_of (values i) (lowers i) inner n) (lawful_sequence value values lawful none lower lowers ll refuses inner n) action mark w h)

  chosen : (n : ℕ) → Lawful calm calm (enclosed (λ xs. select (statements xs)) marks.CloseBlock (selection_of value lower n)) (λ i. enclosed (λ xs. select (statements xs)) marks.CloseBlock (selection_of (values i) (lowers i) n))
  unfolding number calm calm_but
  chosen n =
      lawful_calmer calm anything calm (any_of calm) (enclosed (λ xs. select (statements xs)) marks.CloseBlock (selection_of value lower n)) (λ i. enclosed (λ xs. select (statements xs)) marks.CloseBlock (selection_of (values i) (lowers i) n))
      (lawful_enclosed value values lawful none lower lowers ll refuses (calm_but marks.Either) (but_calm marks.Either) (selection_of value lower n) (λ i. selection_of (values i) (lowers i) n) (lawful_selection value values lawful none lower lowers ll refuses n)
      (λ xs. select (statements xs)) marks.CloseBlock close_block_mark refl)

  abbrev joined : List Body → Action
  joined xs = cooperate (bodies xs)

  cooperating : (n : ℕ) → Lawful calm calm (enclosed joined marks.Coend (children_of value lower n)) (λ i. enclosed joined marks.Coend (children_of (values i) (lowers i) n))
  unfolding number calm calm_but calm_but2
  cooperating n =
      lawful_calmer calm anything calm (any_of calm) (enclosed joined marks.Coend (children_of value lower n)) (λ i. enclosed joined marks.Coend (children_of (values i) (lowers i) n))
      (lawful_enclosed value values lawful none lower lowers ll refuses apart apart_calm (children_of value lower n) (λ i. children_of (values i) (lowers i) n) (lawful_children value values lower lowers ll refuses n) joined marks.Coend coend_mark refl)

  pub lawful_action : (inner : Bool) (n : ℕ) (l : Label) (x : Start) → Lawful calm calm (action_of value lower inner n l x) (λ i. action_of (values i) (lowers i) inner n l x)
  unfolding action_of number calm calm_but
  lawful_action inner n l starts.Named = lawful_map calm calm (same calm) (λ e. (assign l e, n)) (right_side_of value) (λ i. right_side_of (values i)) (lawful_right_side value values lawful none)
  lawful_action inner n l starts.Listed =
      lawful_map calm calm (same calm) (λ (a : Action). (a, n)) (all_assigned_of value) (λ i. all_assigned_of (values i)) (lawful_calmer calm anything calm (any_of calm) (all_assigned_of value) (λ i. all_assigned_of (values i)) (lawful_all_assigned value values lawful none))
  lawful_action inner n l starts.Skip = lawful_gives calm calm (skip, n)
  lawful_action inner n l starts.Critical = lawful_gives calm calm (critical, n)
  lawful_action inner n l starts.Noncritical = lawful_gives calm calm (noncritical, n)
  lawful_action inner n l starts.Await = lawful_map calm calm (same calm) (λ e. (await e, n)) value values lawful
  lawful_action inner n l starts.Request = lawful_map calm calm (same calm) (λ m. (request m, n)) named (λ i. named) lawful_name
  lawful_action inner n l starts.Release = lawful_map calm calm (same calm) (λ m. (release m, n)) named (λ i. named) lawful_name
  lawful_action inner n l starts.If = lawful_calmer calm anything calm (any_of calm) (conditional_of value lower inner n) (λ i. conditional_of (values i) (lowers i) inner n) (lawful_conditional value values lawful none lower lowers ll refuses inner n)
  lawful_action inner n l starts.While =
      lawful_bind calm calm calm calm (same calm) value values (λ e. doing value lower (while_do e) n) (λ i e. doing (values i) (lowers i) (while_do e) n) (λ e. wider (same calm)) (wider (same calm)) (calmer (same calm)) lawful (λ e. lawful_doing (while_do e) n)
  lawful_action inner n l starts.Loop = lawful_behind marks.Forever forever_mark refl (doing value lower forever n) (λ i. doing (values i) (lowers i) forever n) (lawful_doing forever n)
  lawful_action inner n l starts.Block = lawful_sequenced inner inner n (λ xs. block (statements xs)) marks.CloseBlock close_block_mark refl
  lawful_action inner n l starts.Select =
      lawful_behind marks.OpenBlock open_block_mark refl (enclosed (λ xs. select (statements xs)) marks.CloseBlock (selection_of value lower n)) (λ i. enclosed (λ xs. select (statements xs)) marks.CloseBlock (selection_of (values i) (lowers i) n)) (chosen n)
  lawful_action inner n l starts.Cooperate = cooperating n
  lawful_action inner n l starts.Group = lawful_sequenced true true n (λ xs. group (statements xs)) marks.CloseGroup close_group_mark refl

  -- behind the label
  abbrev behind_first : Bool → Option Label → ℕ → Start → ℕ → Label → Reader (Counted Statement)
  behind_first inner label n x place l = then_reads (action_of value lower inner n l x) (λ a. gives (standing label place a))

  abbrev behind_firsts : I → Bool → Option Label → ℕ → Start → ℕ → Label → Reader (Counted Statement)
  behind_firsts i inner label n x place l = then_reads (action_of (values i) (lowers i) inner n l x) (λ a. gives (standing label place a))

  lawful_behind_first : (inner : Bool) (label : Option Label) (n : ℕ) (x : Start) (place : ℕ) (l : Label) → Lawful calm calm (behind_first inner label n x place l) (λ i. behind_firsts i inner label n x place l)
  lawful_behind_first inner label n x place l = lawful_map calm calm (same calm) (λ (a : Counted Action). (stated label place a.0, a.1)) (action_of value lower inner n l x) (λ i. action_of (values i) (lowers i) inner n l x) (lawful_action inner n l x)

  skips : (i : I) (inner : Bool) (label : Option Label) (n place : ℕ) (l : Label) → Viable anything calm (behind_firsts i inner label n starts.Skip place l) []
  unfolding action_of
  skips i inner label n place l = completes_map anything calm (λ (a : Counted Action). (stated label place a.0, a.1)) (gives (skip, n)) (completes_gives anything calm (any_of calm) (skip, n))

  pub lawful_bare : (inner : Bool) (label : Option Label) (n : ℕ) → Lawful calm calm (bare_of value lower inner label n) (λ i. bare_of (values i) (lowers i) inner label n)
  unfolding bare_of
  lawful_bare inner label n =
      lawful_pick calm calm start refl (behind_first inner label n) (λ i. behind_firsts i inner label n) skip_mark.token skip_mark.spelled starts.Skip skip_starts skip_calm (λ i. skips i inner label n skip_mark.token.start (label_of skip_mark.token))
      (λ x place l. lawful_weak calm anything calm (any_of calm) (behind_first inner label n x place l) (λ i. behind_firsts i inner label n x place l) (lawful_behind_first inner label n x place l))

  pub bare_completes : (set : Sign → Bool) → set (sign_of skip_mark.token) ≡ true → (inner : Bool) (label : Option Label) (n : ℕ) (i : I) → Viable set calm (bare_of (values i) (lowers i) inner label n) []
  unfolding bare_of
  bare_completes set h inner label n i = pick_completes set calm start refl (behind_first inner label n) (λ i. behind_firsts i inner label n) skip_mark.token skip_mark.spelled starts.Skip skip_starts h i (skips i inner label n skip_mark.token.start (label_of skip_mark.token))

  lawful_assigned : (l : Label) (n : ℕ) → Lawful calm calm (assigned_of value l n) (λ i. assigned_of (values i) l n)
  unfolding assigned_of
  lawful_assigned l n = lawful_map calm calm (same calm) (λ e. (stated None l.place (assign l e), n)) (right_side_of value) (λ i. right_side_of (values i)) (lawful_right_side value values lawful none)

  assigned_ends : (l : Label) (n : ℕ) → assigned_of value l n (ends 0) ≡ Err (syntax 0)
  unfolding assigned_of right_side_of
  assigned_ends l n = refl

  abbrev colon : Sign → Bool
  colon g = is g marks.Colon

  pub lawful_named_statement : (l : Label) (n : ℕ) → Lawful calm calm (named_of value lower l n) (λ i. named_of (values i) (lowers i) l n)
  unfolding named_of
  lawful_named_statement l n =
      lawful_fork calm calm calm quiet colon refl (λ place m. bare_of value lower false (Some l) n) (λ i place m. bare_of (values i) (lowers i) false (Some l) n) (assigned_of value l n) (λ i. assigned_of (values i) l n) colon_mark.token colon_mark.spelled (witness_is marks.Colon colon_mark) colon_calm
      (bare_completes anything refl false (Some l) n) (λ place m. lawful_weak calm anything calm (any_of calm) (bare_of value lower false (Some l) n) (λ i. bare_of (values i) (lowers i) false (Some l) n) (lawful_bare false (Some l) n))
      (syntax 0) (assigned_ends l n) (lawful_assigned l n)

  named_completes : (l : Label) (n : ℕ) (i : I) → Viable anything calm (named_of (values i) (lowers i) l n) []
  unfolding named_of
  named_completes l n i =
      fork_completes anything calm calm quiet colon refl (λ place m. bare_of value lower false (Some l) n) (λ i place m. bare_of (values i) (lowers i) false (Some l) n) (assigned_of value l n) (λ i. assigned_of (values i) l n) colon_mark.token colon_mark.spelled (witness_is marks.Colon colon_mark) refl
      i (bare_completes anything refl false (Some l) n i)

  pub bare_ends : (inner : Bool) (label : Option Label) (n : ℕ) → bare_of value lower inner label n (ends 0) ≡ Err (syntax 0)
  unfolding bare_of
  bare_ends inner label n = refl

  pub lawful_statement : (b : Begun) (n : ℕ) → Lawful calm calm (statement_of value lower b n) (λ i. statement_of (values i) (lowers i) b n)
  unfolding statement_of
  lawful_statement (fresh true) n = lawful_bare true None n
  lawful_statement (fresh false) n =
      lawful_fork calm calm calm quiet is_name refl (λ place l. named_of value lower l n) (λ i place l. named_of (values i) (lowers i) l n) (bare_of value lower false None n) (λ i. bare_of (values i) (lowers i) false None n) name_token name_spelled name_is name_calm
      (named_completes (label_of name_token) n) (λ place l. lawful_weak calm anything calm (any_of calm) (named_of value lower l n) (λ i. named_of (values i) (lowers i) l n) (lawful_named_statement l n)) (syntax 0) (bare_ends false None n) (lawful_bare false None n)
  lawful_statement (after_name l) n = lawful_assigned l n
  lawful_statement (after_label l) n = lawful_bare false (Some l) n

  pub statement_ends : (b : Begun) (n : ℕ) → statement_of value lower b n (ends 0) ≡ Err (syntax 0)
  unfolding statement_of
  statement_ends (fresh true) n = bare_ends true None n
  statement_ends (fresh false) n = bare_ends false None n
  statement_ends (after_name l) n = assigned_ends l n
  statement_ends (after_label l) n = bare_ends false (Some l) n
