-- The law of the readers of statements, for any readers of values and of inner statements that have it.
use Rattle.std.proofs.Common.{◌≡◌, ℕ, Bool, true, false, List, [], ◌∷◌, ◌++◌, None, Err, refl}
use Rattle.st_tokens.specs.Stream.{ends}
use Rattle.st_reading.specs.declared.mark.Mark.{Mark}
use Rattle.st_reading.specs.declared.mark.Mark.TheVariants as marks
use Rattle.st_reading.specs.declared.sign.Sign.{Sign}
use Rattle.st_reading.specs.declared.sign.Sign.TheVariants as signs
use Rattle.st_reading.specs.Mark.{number}
use Rattle.st_reading.specs.Sign.{is}
use Rattle.st_reading.specs.Faults.{Passed}
use Rattle.st_reading.specs.Reading.{goes, expected, gives, then_reads, syntax, only, Counted, counting, linked}
use Rattle.st_reading.specs.Steady.{Within, calmer, takes, wider, moves, anything}
use Rattle.st_reading.proofs.Lawful.{Lawful, lawful_bind, lawful_gives, lawful_map, lawful_chain, lawful_weak, lawful_if}
use Rattle.expression_parser.specs.ExpressionTree.{Expr}
use Rattle.spl_parser.specs.ProgramTree.{Branch, no_branch, branch, conditional, Statement, Action}
use Rattle.spl_parser.specs.Begun.{Begun, fresh}
use Rattle.expression_parser.specs.Calm.{calm, calm_but}
use Rattle.expression_parser.specs.Reading.{Reader}
use Rattle.spl_parser.specs.Statements.{Lower, sequence_of, selection_of, branch_of, conditional_of}
use Rattle.expression_parser.proofs.Quiet.{but_calm, but_none, but_false}
use Rattle.spl_parser.proofs.Witnesses.{Witness, lawful_mark, then_mark, fi_mark, either_mark}
use Rattle.spl_parser.proofs.ListLaw.{any_of, same}

no_else : Sign → Bool
no_else = calm_but marks.Else

fi : {I : Type 0} → Lawful {I = I} {X = Passed} (calm_but marks.Else) anything (expected marks.Fi) (λ i. expected marks.Fi)
unfolding number calm calm_but
fi = lawful_mark marks.Fi fi_mark (calm_but marks.Else) refl

module _ {I : Type 0} (value : Reader Expr) (values : I → Reader Expr) (lawful : Lawful calm calm value values) (none : value (ends 0) ≡ Err (syntax 0))
    (lower : Lower) (lowers : I → Lower) (ll : (b : Begun) (n : ℕ) → Lawful calm calm (lower b n) (λ i. lowers i b n)) (refuses : (b : Begun) (n : ℕ) → lower b n (ends 0) ≡ Err (syntax 0)) where
  -- STATEMENTS BEHIND ONE ANOTHER
  lawful_linked : (mark : Mark) (inner : Bool) (xs : Counted (List Statement)) → None ≡ only mark signs.Nothing → Lawful (calm_but mark) (calm_but mark) (linked mark (lower (fresh inner)) xs) (λ i. linked mark (lowers i (fresh inner)) xs)
  lawful_linked mark inner xs nothing =
      lawful_chain (calm_but mark) (calm_but mark) calm (same (calm_but mark)) (but_calm mark) (only mark) (but_none mark) nothing (counting (λ o. lower (fresh inner))) (λ i. counting (λ o. lowers i (fresh inner))) gives (λ i. gives)
      (λ o place ys. lawful_weak calm anything calm (any_of calm) (counting (λ o. lower (fresh inner)) o place ys) (λ i. counting (λ o. lowers i (fresh inner)) o place ys)
      (lawful_map calm calm (same calm) (λ (x : Counted Statement). goes (ys.0 ++ x.0 ∷ [], x.1)) (lower (fresh inner) ys.1) (λ i. lowers i (fresh inner) ys.1) (ll (fresh inner) ys.1)))
      (λ ys. lawful_gives (calm_but mark) (calm_but mark) ys) xs

  -- a statement, and further ones behind a mark
  lawful_run : (mark : Mark) (inner : Bool) (n : ℕ) (f : Counted Statement → Counted (List Statement)) → None ≡ only mark signs.Nothing
      → Lawful calm (calm_but mark) (then_reads (lower (fresh inner) n) (λ x. linked mark (lower (fresh inner)) (f x))) (λ i. then_reads (lowers i (fresh inner) n) (λ x. linked mark (lowers i (fresh inner)) (f x)))
  lawful_run mark inner n f nothing =
      lawful_bind calm calm (calm_but mark) (calm_but mark) (but_calm mark) (lower (fresh inner) n) (λ i. lowers i (fresh inner) n) (λ x. linked mark (lower (fresh inner)) (f x)) (λ i x. linked mark (lowers i (fresh inner)) (f x))
      (λ x. wider (same (calm_but mark))) (wider (but_calm mark)) (calmer (but_calm mark)) (ll (fresh inner) n) (λ x. lawful_linked mark inner (f x) nothing)

  pub lawful_sequence : (inner : Bool) (n : ℕ) → Lawful calm (calm_but marks.Semicolon) (sequence_of value lower inner n) (λ i. sequence_of (values i) (lowers i) inner n)
  unfolding sequence_of
  lawful_sequence inner n = lawful_run marks.Semicolon inner n (λ x. (x.0 ∷ [], x.1)) refl

  either : Lawful {I = I} {X = Passed} calm anything (expected marks.Either) (λ i. expected marks.Either)
  unfolding number calm
  either = lawful_mark marks.Either either_mark calm refl

  abbrev others : Counted Statement → Reader (Counted (List Statement))
  others x = then_reads (lower (fresh false) x.1) (λ y. linked marks.Either (lower (fresh false)) (x.0 ∷ y.0 ∷ [], y.1))

  abbrev otherss : I → Counted Statement → Reader (Counted (List Statement))
  otherss i x = then_reads (lowers i (fresh false) x.1) (λ y. linked marks.Either (lowers i (fresh false)) (x.0 ∷ y.0 ∷ [], y.1))

  pub lawful_selection : (n : ℕ) → Lawful calm (calm_but marks.Either) (selection_of value lower n) (λ i. selection_of (values i) (lowers i) n)
  unfolding selection_of
  lawful_selection n =
      lawful_bind calm calm calm (calm_but marks.Either) (same calm) (lower (fresh false) n) (λ i. lowers i (fresh false) n) (λ x. then_reads (expected marks.Either) (λ m. others x)) (λ i x. then_reads (expected marks.Either) (λ m. otherss i x))
      (λ x. wider (but_calm marks.Either)) (wider (same calm)) (calmer (but_calm marks.Either)) (ll (fresh false) n)
      (λ x. lawful_bind calm anything calm (calm_but marks.Either) (any_of calm) (expected marks.Either) (λ i. expected marks.Either) (λ m. others x) (λ i m. otherss i x)
      (λ m. wider (but_calm marks.Either)) (wider (same calm)) (calmer (any_of (calm_but marks.Either))) either (λ m. lawful_run marks.Either false x.1 (λ y. (x.0 ∷ y.0 ∷ [], y.1)) refl))

  -- up to a mark, whatever follows it
  module _ {A : Type 0} (set : Sign → Bool) (inside : Within set calm) (r : Reader (Counted A)) (p : I → Reader (Counted A)) (l : Lawful calm set r p) (action : A → Action) (mark : Mark) (w : Witness mark) (w_in : set (signs.Marked mark) ≡ true) where
    abbrev up_to : Counted A → Reader (Counted Action)
    up_to xs = then_reads (expected mark) (λ m. gives (action xs.0, xs.1))

    lawful_up_to : (xs : Counted A) → Lawful {I = I} set anything (up_to xs) (λ i. up_to xs)
    lawful_up_to xs =
        lawful_bind set anything anything anything (same anything) (expected mark) (λ i. expected mark) (λ m. gives (action xs.0, xs.1)) (λ i m. gives (action xs.0, xs.1))
        (λ m. wider (same anything)) (moves refl (syntax 0) refl) (calmer (same anything)) (lawful_mark mark w set w_in) (λ m. lawful_gives anything anything (action xs.0, xs.1))

    pub lawful_enclosed : Lawful calm anything (then_reads r up_to) (λ i. then_reads (p i) up_to)
    lawful_enclosed =
        lawful_bind calm set set anything (same set) r p up_to (λ i. up_to) (λ xs. moves refl (syntax 0) refl) (wider inside) (takes refl (λ xs. syntax 0) (λ xs. refl)) l lawful_up_to

  -- CONDITIONALS
  lawful_branch : (inner : Bool) (n : ℕ) → Lawful no_else no_else (branch_of value lower inner n) (λ i. branch_of (values i) (lowers i) inner n)
  unfolding branch_of no_else
  lawful_branch inner n =
      lawful_if no_else no_else (same no_else) (λ g. is g marks.Else) refl (λ place l. then_reads (lower (fresh inner) n) (λ x. gives (branch x.0, x.1))) (λ i place l. then_reads (lowers i (fresh inner) n) (λ x. gives (branch x.0, x.1))) (gives (no_branch, n)) (λ i. gives (no_branch, n))
      (λ place l. lawful_weak calm anything no_else (any_of calm) (then_reads (lower (fresh inner) n) (λ x. gives (branch x.0, x.1))) (λ i. then_reads (lowers i (fresh inner) n) (λ x. gives (branch x.0, x.1)))
      (lawful_bind calm calm no_else no_else (but_calm marks.Else) (lower (fresh inner) n) (λ i. lowers i (fresh inner) n) (λ x. gives (branch x.0, x.1)) (λ i x. gives (branch x.0, x.1)) (λ x. wider (same no_else)) (wider (but_calm marks.Else)) (calmer (but_calm marks.Else)) (ll (fresh inner) n)
      (λ x. lawful_gives no_else no_else (branch x.0, x.1))))
      (lawful_gives no_else no_else (no_branch, n)) (but_false marks.Else)

  module _ (e : Expr) where
    abbrev closing : Statement → Counted Branch → Reader (Counted Action)
    closing x y = then_reads (expected marks.Fi) (λ z. gives (conditional e x y.0, y.1))

    lawful_closing : (x : Statement) (y : Counted Branch) → Lawful {I = I} no_else anything (closing x y) (λ i. closing x y)
    unfolding no_else
    lawful_closing x y =
        lawful_bind no_else anything anything anything (same anything) (expected marks.Fi) (λ i. expected marks.Fi) (λ z. gives (conditional e x y.0, y.1)) (λ i z. gives (conditional e x y.0, y.1))
        (λ z. wider (same anything)) (moves refl (syntax 0) refl) (calmer (same anything)) fi (λ z. lawful_gives anything anything (conditional e x y.0, y.1))

    else_ends : (inner : Bool) (x : Counted Statement) → then_reads (branch_of value lower inner x.1) (closing x.0) (ends 0) ≡ Err (syntax 0)
    unfolding branch_of
    else_ends inner x = refl

    lawful_else : (inner : Bool) (x : Counted Statement) → Lawful no_else anything (then_reads (branch_of value lower inner x.1) (closing x.0)) (λ i. then_reads (branch_of (values i) (lowers i) inner x.1) (closing x.0))
    lawful_else inner x =
        lawful_bind no_else no_else no_else anything (same no_else) (branch_of value lower inner x.1) (λ i. branch_of (values i) (lowers i) inner x.1) (closing x.0) (λ i. closing x.0)
        (λ y. moves refl (syntax 0) refl) (wider (same no_else)) (takes refl (λ y. syntax 0) (λ y. refl)) (lawful_branch inner x.1) (lawful_closing x.0)

    then_it : Lawful {I = I} {X = Passed} calm anything (expected marks.Then) (λ i. expected marks.Then)
    unfolding number calm
    then_it = lawful_mark marks.Then then_mark calm refl

    -- from "then" on
    lawful_then : (inner : Bool) (n : ℕ)
        → Lawful calm anything (then_reads (expected marks.Then) (λ m. then_reads (lower (fresh inner) n) (λ x. then_reads (branch_of value lower inner x.1) (closing x.0)))) (λ i. then_reads (expected marks.Then) (λ m. then_reads (lowers i (fresh inner) n) (λ x. then_reads (branch_of (values i) (lowers i) inner x.1) (closing x.0))))
    unfolding no_else
    lawful_then inner n =
        lawful_bind calm anything calm anything (any_of calm) (expected marks.Then) (λ i. expected marks.Then)
        (λ m. then_reads (lower (fresh inner) n) (λ x. then_reads (branch_of value lower inner x.1) (closing x.0))) (λ i m. then_reads (lowers i (fresh inner) n) (λ x. then_reads (branch_of (values i) (lowers i) inner x.1) (closing x.0)))
        (λ m. moves refl (syntax 0) (rw (refuses (fresh inner) n) refl)) (wider (same calm)) (calmer (same anything)) then_it
        (λ m. lawful_bind calm calm no_else anything (but_calm marks.Else) (lower (fresh inner) n) (λ i. lowers i (fresh inner) n) (λ x. then_reads (branch_of value lower inner x.1) (closing x.0)) (λ i x. then_reads (branch_of (values i) (lowers i) inner x.1) (closing x.0))
        (λ x. moves refl (syntax 0) (else_ends inner x)) (wider (but_calm marks.Else)) (takes refl (λ x. syntax 0) (else_ends inner)) (ll (fresh inner) n) (lawful_else inner))

  pub lawful_conditional : (inner : Bool) (n : ℕ) → Lawful calm anything (conditional_of value lower inner n) (λ i. conditional_of (values i) (lowers i) inner n)
  unfolding conditional_of
  lawful_conditional inner n =
      lawful_bind calm calm calm anything (same calm) value values
      (λ e. then_reads (expected marks.Then) (λ m. then_reads (lower (fresh inner) n) (λ x. then_reads (branch_of value lower inner x.1) (closing e x.0)))) (λ i e. then_reads (expected marks.Then) (λ m. then_reads (lowers i (fresh inner) n) (λ x. then_reads (branch_of (values i) (lowers i) inner x.1) (closing e x.0))))
      (λ e. moves refl (syntax 0) refl) (wider (same calm)) (takes refl (λ e. syntax 0) (λ e. refl)) lawful (λ e. lawful_then e inner n)
