-- The law of lists with commas, and of what stands behind the left side of an assignment.
use Rattle.std.proofs.Common.{◌≡◌, ℕ, Bool, List, [], ◌∷◌, ◌++◌, Err, refl}
use Rattle.st_tokens.specs.Stream.{ends}
use Rattle.st_reading.specs.declared.mark.Mark.TheVariants as marks
use Rattle.st_reading.specs.declared.sign.Sign.{Sign}
use Rattle.st_reading.specs.Mark.{number}
use Rattle.st_reading.specs.Faults.{Passed}
use Rattle.st_reading.specs.Reading.{Label, goes, expected, named, gives, then_reads, chain, syntax, only, listing, further}
use Rattle.st_reading.specs.Steady.{Within, calmer, takes, wider, moves, anything}
use Rattle.st_reading.proofs.Lawful.{Lawful, lawful_bind, lawful_gives, lawful_map, lawful_named, lawful_chain, lawful_weak}
use Rattle.expression_parser.specs.ExpressionTree.{Expr}
use Rattle.spl_parser.specs.ProgramTree.{Action, assign_all}
use Rattle.expression_parser.specs.Calm.{calm, calm_but}
use Rattle.expression_parser.specs.Reading.{Reader}
use Rattle.spl_parser.specs.Statements.{listed_of, right_side_of, all_assigned_of}
use Rattle.expression_parser.proofs.Quiet.{but_calm, but_none, name_token, name_spelled}
use Rattle.spl_parser.proofs.Witnesses.{lawful_mark, becomes_mark, comma_mark, close_mark, open_mark}

pub any_of : (f : Sign → Bool) → Within f anything
any_of f g h = refl

pub same : (f : Sign → Bool) → Within f f
same f g h = h

pub becomes : {I : Type 0} → Lawful {I = I} {X = Passed} calm anything (expected marks.Becomes) (λ i. expected marks.Becomes)
unfolding number calm
becomes = lawful_mark marks.Becomes becomes_mark calm refl

comma : {I : Type 0} → Lawful {I = I} {X = Passed} calm anything (expected marks.Comma) (λ i. expected marks.Comma)
unfolding number calm
comma = lawful_mark marks.Comma comma_mark calm refl

close : {I : Type 0} → Lawful {I = I} {X = Passed} (calm_but marks.Comma) anything (expected marks.Close) (λ i. expected marks.Close)
unfolding number calm calm_but
close = lawful_mark marks.Close close_mark (calm_but marks.Comma) refl

opening : {I : Type 0} → Lawful {I = I} {X = Passed} anything anything (expected marks.Open) (λ i. expected marks.Open)
opening = lawful_mark marks.Open open_mark anything refl

pub lawful_name : {I : Type 0} → Lawful {I = I} {X = Passed} calm calm named (λ i. named)
unfolding name_token calm
lawful_name = lawful_named calm calm name_token name_spelled refl refl

module _ {I A : Type 0} (item : Reader A) (items : I → Reader A) (li : Lawful calm calm item items) where
  abbrev but : Sign → Bool
  but = calm_but marks.Comma

  -- whatever follows the ")"
  lawful_closed : (ys : List A) → Lawful {I = I} {X = Passed} but anything (then_reads (expected marks.Close) (λ m. gives ys)) (λ i. then_reads (expected marks.Close) (λ m. gives ys))
  lawful_closed ys =
      lawful_bind but anything anything anything (same anything) (expected marks.Close) (λ i. expected marks.Close) (λ m. gives ys) (λ i m. gives ys) (λ m. wider (same anything)) (moves refl (syntax 0) refl) (calmer (same anything)) close (λ m. lawful_gives anything anything ys)

  lawful_further : (xs : List A) → Lawful but but (further marks.Comma item xs) (λ i. further marks.Comma (items i) xs)
  lawful_further xs =
      lawful_chain but but calm (same but) (but_calm marks.Comma) (only marks.Comma) (but_none marks.Comma) refl (listing item) (λ i. listing (items i)) gives (λ i. gives)
      (λ o place ys. lawful_weak calm anything calm (any_of calm) (listing item o place ys) (λ i. listing (items i) o place ys) (lawful_map calm calm (same calm) (λ y. goes (ys ++ y ∷ [])) item items li))
      (λ ys. lawful_gives but but ys) xs

  abbrev rest : List A → Reader (List A)
  rest xs = then_reads (further marks.Comma item xs) (λ ys. then_reads (expected marks.Close) (λ m. gives ys))

  abbrev rests : I → List A → Reader (List A)
  rests i xs = then_reads (further marks.Comma (items i) xs) (λ ys. then_reads (expected marks.Close) (λ m. gives ys))

  lawful_rest : (xs : List A) → Lawful but anything (rest xs) (λ i. rests i xs)
  lawful_rest xs =
      lawful_bind but but but anything (same but) (further marks.Comma item xs) (λ i. further marks.Comma (items i) xs) (λ ys. then_reads (expected marks.Close) (λ m. gives ys)) (λ i ys. then_reads (expected marks.Close) (λ m. gives ys))
      (λ ys. moves refl (syntax 0) refl) (wider (same but)) (takes refl (λ ys. syntax 0) (λ ys. refl)) (lawful_further xs) lawful_closed

  no_rest : (xs : List A) → rest xs (ends 0) ≡ Err (syntax 0)
  unfolding chain
  no_rest xs = refl

  lawful_second : (x : A) → Lawful calm anything (then_reads item (λ y. rest (x ∷ y ∷ []))) (λ i. then_reads (items i) (λ y. rests i (x ∷ y ∷ [])))
  lawful_second x =
      lawful_bind calm calm but anything (but_calm marks.Comma) item items (λ y. rest (x ∷ y ∷ [])) (λ i y. rests i (x ∷ y ∷ []))
      (λ y. moves refl (syntax 0) (no_rest (x ∷ y ∷ []))) (wider (but_calm marks.Comma)) (takes refl (λ y. syntax 0) (λ y. no_rest (x ∷ y ∷ []))) li (λ y. lawful_rest (x ∷ y ∷ []))

  -- at least two items with commas between them, up to a ")"
  pub lawful_listed : item (ends 0) ≡ Err (syntax 0) → Lawful calm anything (listed_of item) (λ i. listed_of (items i))
  unfolding listed_of
  lawful_listed none =
      lawful_bind calm calm calm anything (same calm) item items (λ x. then_reads (expected marks.Comma) (λ m. then_reads item (λ y. rest (x ∷ y ∷ [])))) (λ i x. then_reads (expected marks.Comma) (λ m. then_reads (items i) (λ y. rests i (x ∷ y ∷ []))))
      (λ x. moves refl (syntax 0) refl) (wider (same calm)) (takes refl (λ x. syntax 0) (λ x. refl)) li
      (λ x. lawful_bind calm anything calm anything (any_of calm) (expected marks.Comma) (λ i. expected marks.Comma) (λ m. then_reads item (λ y. rest (x ∷ y ∷ []))) (λ i m. then_reads (items i) (λ y. rests i (x ∷ y ∷ [])))
      (λ m. moves refl (syntax 0) (rw none refl)) (wider (same calm)) (calmer (any_of anything)) comma (λ m. lawful_second x))

no_list : {A : Type 0} (item : Reader A) → item (ends 0) ≡ Err (syntax 0) → listed_of item (ends 0) ≡ Err (syntax 0)
unfolding listed_of
no_list item none = rw none refl

module _ {I : Type 0} (value : Reader Expr) (values : I → Reader Expr) (lawful : Lawful calm calm value values) (none : value (ends 0) ≡ Err (syntax 0)) where
  pub lawful_right_side : Lawful calm calm (right_side_of value) (λ i. right_side_of (values i))
  unfolding right_side_of
  lawful_right_side =
      lawful_bind calm anything calm calm (any_of calm) (expected marks.Becomes) (λ i. expected marks.Becomes) (λ m. value) (λ i m. values i)
      (λ m. wider (same calm)) (wider (same calm)) (calmer (any_of calm)) becomes (λ m. lawful)

  -- the right list, up to its ")"
  abbrev right_list : List Label → ℕ → Reader Action
  right_list targets list = then_reads (listed_of value) (λ vs. gives (assign_all targets list vs))

  abbrev right_lists : I → List Label → ℕ → Reader Action
  right_lists i targets list = then_reads (listed_of (values i)) (λ vs. gives (assign_all targets list vs))

  lawful_right_list : (targets : List Label) → Lawful anything anything (then_reads (expected marks.Open) (right_list targets)) (λ i. then_reads (expected marks.Open) (right_lists i targets))
  lawful_right_list targets =
      lawful_bind anything anything calm anything (any_of calm) (expected marks.Open) (λ i. expected marks.Open) (right_list targets) (λ i. right_lists i targets)
      (λ list. moves refl (syntax 0) (rw (no_list value none) refl)) (wider (any_of calm)) (calmer (same anything)) opening
      (λ list. lawful_bind calm anything anything anything (same anything) (listed_of value) (λ i. listed_of (values i)) (λ vs. gives (assign_all targets list vs)) (λ i vs. gives (assign_all targets list vs))
      (λ vs. wider (same anything)) (moves refl (syntax 0) (no_list value none)) (calmer (same anything)) (lawful_listed value values lawful none) (λ vs. lawful_gives anything anything (assign_all targets list vs)))

  -- behind the "(" of a list of targets
  pub lawful_all_assigned : Lawful calm anything (all_assigned_of value) (λ i. all_assigned_of (values i))
  unfolding all_assigned_of
  lawful_all_assigned =
      lawful_bind calm anything anything anything (same anything) (listed_of named) (λ i. listed_of named)
      (λ targets. then_reads (expected marks.Becomes) (λ m. then_reads (expected marks.Open) (right_list targets))) (λ i targets. then_reads (expected marks.Becomes) (λ m. then_reads (expected marks.Open) (right_lists i targets)))
      (λ targets. wider (same anything)) (moves refl (syntax 0) (no_list named refl)) (calmer (same anything)) (lawful_listed named (λ i. named) lawful_name refl)
      (λ targets. lawful_bind anything anything anything anything (same anything) (expected marks.Becomes) (λ i. expected marks.Becomes) (λ m. then_reads (expected marks.Open) (right_list targets)) (λ i m. then_reads (expected marks.Open) (right_lists i targets))
      (λ m. wider (same anything)) (wider (same anything)) (calmer (same anything)) (lawful_weak calm anything anything (any_of calm) (expected marks.Becomes) (λ i. expected marks.Becomes) becomes) (λ m. lawful_right_list targets))
