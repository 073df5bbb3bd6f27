-- What the readers of statements read is in the grammar.
use Rattle.std.proofs.Common.{◌≡◌, ℕ, zero, suc, Bool, true, false, cond, List, [], ◌∷◌, ◌++◌, Option, Some, None, Ok, Err, refl, sym, ap, subst, ◌∙◌, append-nil, append_assoc}
use Rattle.st_tokens.specs.Stream.{◌++>◌, Lexeme, Stream, ends, breaks, more, behind}
use Rattle.st_reading.specs.declared.mark.Mark.{Mark}
use Rattle.st_reading.specs.declared.mark.Mark.TheVariants as marks
use Rattle.st_reading.specs.declared.sign.Sign.{Sign}
use Rattle.st_reading.specs.declared.sign.Sign.TheVariants as signs
use Rattle.st_reading.specs.Sign.{sign_of, is}
use Rattle.st_reading.specs.Faults.{Passed}
use Rattle.st_reading.specs.Reading.{Read, ◌>>=◌, Label, ahead, place_of, name_of, label_of, is_name, refusal, named, expected, gives, then_reads, turned, on_operator, chain, size, only, Counted}
use Rattle.st_reading.specs.Spelling.{Cut, Sound, Both, behind_it, Is, IsName, OneName, one_name, Items, no_items, item_more, Row, row, Row2}
use Rattle.st_reading.proofs.Streams.{append_stream}
use Rattle.st_reading.proofs.Soundness.{split, taken, sound_bind}
use Rattle.st_reading.proofs.ListSoundness.{OneMark, one_mark, Given, given, sound_as, sound_gives, sound_expected, sound_named, only_is, row_sound, row2_sound, row2_then_sound}
use Rattle.spl_parser.specs.declared.sign.Start.{Start}
use Rattle.spl_parser.specs.declared.sign.Start.TheVariants as starts
use Rattle.spl_parser.specs.Signs.{start, begins}
use Rattle.expression_parser.specs.ExpressionTree.{Expr}
use Rattle.spl_parser.specs.ProgramTree.{Statement, stated, statements, Branch, no_branch, branch, conditional, Action, skip, critical, noncritical, assign, assign_all, await, request, release, while_do, forever, block, select, cooperate, group, Body, body, bodies}
use Rattle.spl_parser.specs.Item.{Item, last, item}
use Rattle.spl_parser.specs.Begun.{Begun, fresh, after_name, after_label}
use Rattle.expression_parser.specs.Reading.{Reader}
use Rattle.spl_parser.specs.Statements.{Lower, goes_on, listed_of, right_side_of, all_assigned_of, assigned_of, sequence_of, selection_of, an_item, labelled_item, named_item, item_of, turned_by, continuing, closed_body, rest_of_body, body_of, child_of, children_of, branch_of, conditional_of, doing, enclosed, action_of, standing, bare_of, named_of, statement_of}
use Rattle.spl_parser.specs.Grammar.{IsRightSide, right_side, IsBranch, without, with_else, IsBody, unnamed, ended, IsChild, child, IsBare, s_assign, s_assign_all, s_skip, s_critical, s_noncritical, s_await, s_request, s_release, s_if, s_while, s_loop, s_block, s_select, s_cooperate, s_group, IsStatement, unlabelled, labelled}

-- behind a token
pub behind_token : {A : Type 0} (t : Lexeme) (s : Stream) (K M : List Lexeme → A → Type 0) (x : A) (rest : Stream) → ((ts : List Lexeme) (y : A) → K ts y → M (t ∷ ts) y) → Cut K s x rest → Cut M (more t s) x rest
behind_token t s K M x rest turn c = record { text = t ∷ c.text; is = ap (more t) c.is; spells = turn c.text x c.spells }

-- item "," item { "," item } ")"
Listed : {A : Type 0} → (List Lexeme → A → Type 0) → List Lexeme → List A → Type 0
Listed L = Both (Row2 marks.Comma L) (λ xs. Both (OneMark marks.Close) (λ m. Given xs))

listed_sound : {A : Type 0} (r : Reader A) (L : List Lexeme → A → Type 0) → Sound r L → Sound (listed_of r) (Listed L)
unfolding listed_of Listed
listed_sound r L sound s xs rest h =
    row2_then_sound marks.Comma r L sound (λ xs. then_reads (expected marks.Close) (λ m. gives xs)) (λ xs. Both (OneMark marks.Close) (λ m. Given xs))
    (λ xs. sound_bind (expected marks.Close) (λ m. gives xs) (OneMark marks.Close) (λ m. Given xs) (sound_expected marks.Close) (λ m. sound_gives xs)) s xs rest h

module _ (value : Reader Expr) (V : List Lexeme → Expr → Type 0) (sv : Sound value V) where
  from_right_side : (ts : List Lexeme) (e : Expr) → Both (OneMark marks.Becomes) (λ m. V) ts e → IsRightSide V ts e
  from_right_side ts e (behind_it a b m x (one_mark t h) v) = right_side t b x h v

  pub right_side_sound : Sound (right_side_of value) (IsRightSide V)
  unfolding right_side_of
  right_side_sound = sound_as (then_reads (expected marks.Becomes) (λ m. value)) (Both (OneMark marks.Becomes) (λ m. V)) (IsRightSide V) from_right_side (sound_bind (expected marks.Becomes) (λ m. value) (OneMark marks.Becomes) (λ m. V) (sound_expected marks.Becomes) (λ m. sv))

  AllAssigned : List Lexeme → Action → Type 0
  AllAssigned = Both (Listed OneName) (λ targets. Both (OneMark marks.Becomes) (λ m. Both (OneMark marks.Open) (λ list. Both (Listed V) (λ vs. Given (assign_all targets list vs)))))

  all_assigned_sound : Sound (all_assigned_of value) AllAssigned
  unfolding all_assigned_of AllAssigned
  all_assigned_sound =
      sound_bind (listed_of named) (λ targets. then_reads (expected marks.Becomes) (λ m. then_reads (expected marks.Open) (λ list. then_reads (listed_of value) (λ vs. gives (assign_all targets list vs)))))
      (Listed OneName) (λ targets. Both (OneMark marks.Becomes) (λ m. Both (OneMark marks.Open) (λ list. Both (Listed V) (λ vs. Given (assign_all targets list vs))))) (listed_sound named OneName sound_named)
      (λ targets. sound_bind (expected marks.Becomes) (λ m. then_reads (expected marks.Open) (λ list. then_reads (listed_of value) (λ vs. gives (assign_all targets list vs)))) (OneMark marks.Becomes) (λ m. Both (OneMark marks.Open) (λ list. Both (Listed V) (λ vs. Given (assign_all targets list vs)))) (sound_expected marks.Becomes)
      (λ m. sound_bind (expected marks.Open) (λ list. then_reads (listed_of value) (λ vs. gives (assign_all targets list vs))) (OneMark marks.Open) (λ list. Both (Listed V) (λ vs. Given (assign_all targets list vs))) (sound_expected marks.Open)
      (λ list. sound_bind (listed_of value) (λ vs. gives (assign_all targets list vs)) (Listed V) (λ vs. Given (assign_all targets list vs)) (listed_sound value V sv) (λ vs. sound_gives (assign_all targets list vs)))))

  from_all_assigned : {low : Bool → List Lexeme → Statement → Type 0} (inner : Bool) (t : Lexeme) → start (sign_of t) ≡ Some starts.Listed → (ts : List Lexeme) (a : Action) → AllAssigned ts a → IsBare V low inner t.start (t ∷ ts) a
  unfolding AllAssigned Listed
  from_all_assigned {low} inner t h ts a (behind_it a1 b1 targets a2 (behind_it a3 b3 xs x3 rows1 (behind_it a4 b4 m4 x4 (one_mark u h4) given)) (behind_it a5 b5 m5 x5 (one_mark v h5) (behind_it a6 b6 list x6 (one_mark w h6) (behind_it a7 b7 vs x7 (behind_it a8 b8 ys x8 rows2 (behind_it a9 b9 m9 x9 (one_mark z h9) given)) given)))) =
      simp (append_assoc, append-nil) (s_assign_all inner t u v w z a3 a8 targets vs h rows1 h4 h5 h6 rows2 h9)

-- A statement of which something was read before, where `low` is what may stand inside it.
abbrev pub Rest : (List Lexeme → Expr → Type 0) → (Bool → List Lexeme → Statement → Type 0) → Begun → List Lexeme → Statement → Type 0
Rest V low (fresh inner) ts x = IsStatement V low inner ts x
Rest V low (after_name l) ts x = (e : Expr) × IsRightSide V ts e × (x ≡ stated None l.place (assign l e))
Rest V low (after_label l) ts x = (place : ℕ) × (a : Action) × IsBare V low false place ts a × (x ≡ stated (Some l) place a)

-- What is said of the readers of inner statements: LL is what each reads, and a name or a label may stand before it.
pub record Inner (V : List Lexeme → Expr → Type 0) (lower : Lower) (LL : Begun → List Lexeme → Statement → Type 0) : Type 0 where
  pub sound : (b : Begun) (n : ℕ) → Sound (lower b n) (λ ts x. LL b ts x.0)
  pub named : (t : Lexeme) (ts : List Lexeme) (x : Statement) → IsName t → LL (after_name (label_of t)) ts x → LL (fresh false) (t ∷ ts) x
  pub labels : (t u : Lexeme) (ts : List Lexeme) (x : Statement) → IsName t → Is marks.Colon u → LL (after_label (label_of t)) ts x → LL (fresh false) (t ∷ u ∷ ts) x

-- one item more at the end
item_behind : {A : Type 0} {mark : Mark} {L : List Lexeme → A → Type 0} (b : List Lexeme) (ys : List A) → Items mark L b ys → (t : Lexeme) (p : List Lexeme) (y : A) → Is mark t → L p y → Items mark L (b ++ t ∷ p) (ys ++ y ∷ [])
item_behind {A} {mark} {L} b ys no_items t p y f g = subst (λ (v : List Lexeme). Items mark L v (y ∷ [])) (append-nil (t ∷ p)) (item_more t p [] y [] f g no_items)
item_behind {A} {mark} {L} b ys (item_more u a c x zs e l rest) t p y f g =
    subst (λ (v : List Lexeme). Items mark L v (x ∷ zs ++ y ∷ [])) (ap (λ v. u ∷ v) (sym (append_assoc a c (t ∷ p)))) (item_more u a (c ++ t ∷ p) x (zs ++ y ∷ []) e l (item_behind c zs rest t p y f g))

module _ (V : List Lexeme → Expr → Type 0) (low : Bool → List Lexeme → Statement → Type 0) where
  abbrev pub Bare : Bool → Option Label → List Lexeme → Statement → Type 0
  Bare inner label ts y = (place : ℕ) × (a : Action) × IsBare V low inner place ts a × (y ≡ stated label place a)

  abbrev pub Assigned : Label → List Lexeme → Statement → Type 0
  Assigned l ts x = (e : Expr) × IsRightSide V ts e × (x ≡ stated None l.place (assign l e))

  pub unlabelled_from : (inner : Bool) (ts : List Lexeme) (y : Statement) → Bare inner None ts y → IsStatement V low inner ts y
  unlabelled_from inner ts y b = subst (IsStatement V low inner ts) (sym b.3) (unlabelled inner b.0 ts b.1 b.2)

  pub labelled_from : (t u : Lexeme) → IsName t → Is marks.Colon u → (ts : List Lexeme) (y : Statement) → Bare false (Some (label_of t)) ts y → IsStatement V low false (t ∷ u ∷ ts) y
  labelled_from t u e f ts y b = subst (IsStatement V low false (t ∷ u ∷ ts)) (sym b.3) (labelled t u b.0 ts b.1 e f b.2)

  pub named_starts : (t : Lexeme) → IsName t → start (sign_of t) ≡ Some starts.Named
  named_starts t e = by_sign (sign_of t) e
    where
      by_sign : (g : Sign) → is_name g ≡ true → start g ≡ Some starts.Named
      by_sign signs.Name e = refl
      by_sign _ e = cc

  pub assigned_from : (t : Lexeme) → IsName t → (ts : List Lexeme) (y : Statement) → Assigned (label_of t) ts y → IsStatement V low false (t ∷ ts) y
  assigned_from t e ts y a = subst (IsStatement V low false (t ∷ ts)) (sym a.2) (unlabelled false t.start (t ∷ ts) (assign (label_of t) a.0) (s_assign false t ts a.0 (named_starts t e) a.1))

module _ (value : Reader Expr) (V : List Lexeme → Expr → Type 0) (sv : Sound value V) (lower : Lower) (LL : Begun → List Lexeme → Statement → Type 0) (sl : Inner V lower LL) where
  abbrev low : Bool → List Lexeme → Statement → Type 0
  low inner = LL (fresh inner)

  pub sequence_sound : (inner : Bool) (n : ℕ) → Sound (sequence_of value lower inner n) (λ ts xs. Row marks.Semicolon (low inner) ts xs.0)
  unfolding sequence_of
  sequence_sound inner n s xs rest h = row_sound marks.Semicolon (lower (fresh inner)) (low inner) (sl.sound (fresh inner)) n s xs rest h

  pub selection_sound : (n : ℕ) → Sound (selection_of value lower n) (λ ts xs. Row2 marks.Either (low false) ts xs.0)
  unfolding selection_of
  selection_sound n s xs rest h = row2_sound marks.Either (lower (fresh false)) (low false) (sl.sound (fresh false)) n s xs rest h

  -- ITEMS OF A BODY
  -- the label of its end, with the "]", or a statement
  pub data IsItem : List Lexeme → Item → Type 0 where
    the_end : (l c u : Lexeme) → IsName l → Is marks.Colon c → Is marks.CloseBlock u → IsItem (l ∷ c ∷ u ∷ []) (last (label_of l))
    the_statement : (ts : List Lexeme) (x : Statement) → low false ts x → IsItem ts (item x)

  abbrev Plain : Begun → List Lexeme → Counted Item → Type 0
  Plain b = Both (λ ts (x : Counted Statement). LL b ts x.0) (λ x. Given (an_item x))

  plain_item : (b : Begun) (n : ℕ) → Sound (then_reads (lower b n) (λ x. gives (an_item x))) (Plain b)
  plain_item b n = sound_bind (lower b n) (λ x. gives (an_item x)) (λ ts x. LL b ts x.0) (λ x. Given (an_item x)) (sl.sound b n) (λ x. sound_gives (an_item x))

  from_plain : (ts : List Lexeme) (y : Counted Item) → Plain (fresh false) ts y → IsItem ts y.0
  from_plain ts y (behind_it a b x z l given) = rw append-nil (the_statement a x.0 l)

  from_name : (t : Lexeme) → IsName t → (ts : List Lexeme) (y : Counted Item) → Plain (after_name (label_of t)) ts y → IsItem (t ∷ ts) y.0
  from_name t e ts y (behind_it a b x z l given) = rw append-nil (the_statement (t ∷ a) x.0 (sl.named t a x.0 e l))

  from_label : (t u : Lexeme) → IsName t → Is marks.Colon u → (ts : List Lexeme) (y : Counted Item) → Plain (after_label (label_of t)) ts y → IsItem (t ∷ u ∷ ts) y.0
  from_label t u e f ts y (behind_it a b x z l given) = rw append-nil (the_statement (t ∷ u ∷ a) x.0 (sl.labels t u a x.0 e f l))

  labelled_at : (t u : Lexeme) → IsName t → Is marks.Colon u → (n : ℕ) (s : Stream) (y : Counted Item) (rest : Stream) (b : Bool) → b ≡ is (ahead s) marks.CloseBlock
      → cond b (gives {X = Passed} (last (label_of t), n) (behind s)) (then_reads (lower (after_label (label_of t)) n) (λ x. gives (an_item x)) s) ≡ Ok (y, rest) → Cut (λ ts z. IsItem ts z.0) (more t (more u s)) y rest
  labelled_at t u e f n s y rest false g h =
      let c = plain_item (after_label (label_of t)) n s y rest h in
      record { text = t ∷ u ∷ c.text; is = ap (λ m. more t (more u m)) c.is; spells = from_label t u e f c.text y c.spells }
  labelled_at t u e f n (ends p) y rest true g h = cc
  labelled_at t u e f n (breaks p) y rest true g h = cc
  labelled_at t u e f n (more w s) y rest true g h =
      taken {X = Passed} (λ ts (z : Counted Item). IsItem ts z.0) (t ∷ u ∷ w ∷ []) (gives (last (label_of t), n) s) (last (label_of t), n) y s rest refl h (the_end t u w e f (sym g))

  named_at : (t : Lexeme) → IsName t → (n : ℕ) (s : Stream) (y : Counted Item) (rest : Stream) (b : Bool) → b ≡ is (ahead s) marks.Colon
      → cond b (labelled_item value lower n (label_of t) (behind s)) (then_reads (lower (after_name (label_of t)) n) (λ x. gives (an_item x)) s) ≡ Ok (y, rest) → Cut (λ ts z. IsItem ts z.0) (more t s) y rest
  named_at t e n s y rest false g h =
      let c = plain_item (after_name (label_of t)) n s y rest h in
      record { text = t ∷ c.text; is = ap (more t) c.is; spells = from_name t e c.text y c.spells }
  named_at t e n (ends p) y rest true g h = cc
  named_at t e n (breaks p) y rest true g h = cc
  named_at t e n (more u s) y rest true g h = labelled_at t u e (sym g) n s y rest (is (ahead s) marks.CloseBlock) refl h

  item_at : (n : ℕ) (s : Stream) (y : Counted Item) (rest : Stream) (b : Bool) → b ≡ is_name (ahead s)
      → cond b (named_item value lower n (name_of s) (behind s)) (then_reads (lower (fresh false) n) (λ x. gives (an_item x)) s) ≡ Ok (y, rest) → Cut (λ ts z. IsItem ts z.0) s y rest
  item_at n s y rest false g h =
      let c = plain_item (fresh false) n s y rest h in
      record { text = c.text; is = c.is; spells = from_plain c.text y c.spells }
  item_at n (ends p) y rest true g h = cc
  item_at n (breaks p) y rest true g h = cc
  item_at n (more t s) y rest true g h = named_at t (sym g) n s y rest (is (ahead s) marks.Colon) refl h

  pub item_sound : (n : ℕ) → Sound (item_of value lower n) (λ ts y. IsItem ts y.0)
  unfolding item_of
  item_sound n s y rest h = item_at n s y rest (is_name (ahead s)) refl h

  -- BODIES
  -- the items behind those that were read, up to the "]"
  pub data IsRest : List Statement → List Lexeme → Body → Type 0 where
    closes : (xs : List Statement) (u : Lexeme) → Is marks.CloseBlock u → IsRest xs (u ∷ []) (body (statements xs) None)
    is_ended : (xs : List Statement) (s l c u : Lexeme) → Is marks.Semicolon s → IsName l → Is marks.Colon c → Is marks.CloseBlock u → IsRest xs (s ∷ l ∷ c ∷ u ∷ []) (body (statements xs) (Some (label_of l)))
    goes_on_with : (xs : List Statement) (t : Lexeme) (a b : List Lexeme) (x : Statement) (z : Body) → Is marks.Semicolon t → low false a x → IsRest (xs ++ x ∷ []) b z → IsRest xs (t ∷ a ++ b) z

  from_closed : (xs : List Statement) (n : ℕ) (ts : List Lexeme) (y : Counted Body) → Both (OneMark marks.CloseBlock) (λ m. Given (body (statements xs) None, n)) ts y → IsRest xs ts y.0
  from_closed xs n ts y (behind_it a b m z (one_mark u h) given) = closes xs u h

  closed_sound : (xs : Counted (List Statement)) → Sound (closed_body xs) (λ ts y. IsRest xs.0 ts y.0)
  closed_sound xs =
      sound_as (closed_body xs) (Both (OneMark marks.CloseBlock) (λ m. Given (body (statements xs.0) None, xs.1))) (λ ts y. IsRest xs.0 ts y.0) (from_closed xs.0 xs.1)
      (sound_bind (expected marks.CloseBlock) (λ m. gives (body (statements xs.0) None, xs.1)) (OneMark marks.CloseBlock) (λ m. Given (body (statements xs.0) None, xs.1)) (sound_expected marks.CloseBlock) (λ m. sound_gives (body (statements xs.0) None, xs.1)))

  module _ (k : ℕ) (again : (xs : Counted (List Statement)) (s : Stream) (y : Counted Body) (rest : Stream) → chain (only marks.Semicolon) (continuing value lower) closed_body k xs s ≡ Ok (y, rest) → Cut (λ ts z. IsRest xs.0 ts z.0) s y rest) where
    -- behind the items that an item turns into
    turned_item : (xs : List Statement) (t : Lexeme) → Is marks.Semicolon t → (a : List Lexeme) (i : Item) → IsItem a i → (n : ℕ) (m : Stream) (y : Counted Body) (rest : Stream) → turned (λ w r. chain (only marks.Semicolon) (continuing value lower) closed_body k w r) (turned_by xs (i, n)) m ≡ Ok (y, rest)
        → Cut (λ ts z. IsRest xs ts z.0) (more t (a ++> m)) y rest
    turned_item xs t e a i (the_end l c u f g h) n m y rest is =
        taken {X = Passed} (λ ts (z : Counted Body). IsRest xs ts z.0) (t ∷ l ∷ c ∷ u ∷ []) (gives (body (statements xs) (Some (label_of l)), n) m) (body (statements xs) (Some (label_of l)), n) y m rest refl is (is_ended xs t l c u e f g h)
    turned_item xs t e a i (the_statement ts x l) n m y rest is =
        let d = again (xs ++ x ∷ [], n) m y rest is in
        record { text = t ∷ ts ++ d.text; is = ap (more t) (ap (λ z. ts ++> z) d.is ∙ sym (append_stream ts d.text rest)); spells = goes_on_with xs t ts d.text x y.0 e l d.spells }

    continued : (xs : Counted (List Statement)) (t : Lexeme) → Is marks.Semicolon t → (s : Stream) (y : Counted Body) (rest : Stream) → then_reads (item_of value lower xs.1) (λ i. turned (λ w r. chain (only marks.Semicolon) (continuing value lower) closed_body k w r) (turned_by xs.0 i)) s ≡ Ok (y, rest) → Cut (λ ts z. IsRest xs.0 ts z.0) (more t s) y rest
    continued xs t e s y rest h =
        let p = split (item_of value lower xs.1) (λ i. turned (λ w r. chain (only marks.Semicolon) (continuing value lower) closed_body k w r) (turned_by xs.0 i)) s y rest h in
        let c = item_sound xs.1 s p.value p.middle p.first in
        let d = turned_item xs.0 t e c.text p.value.0 c.spells p.value.1 p.middle y rest p.second in
        record { text = d.text; is = ap (more t) c.is ∙ d.is; spells = d.spells }

    at_semicolon : (xs : Counted (List Statement)) (s : Stream) (y : Counted Body) (rest : Stream) (p : Option (Unit {0})) → p ≡ only marks.Semicolon (ahead s)
        → on_operator p (closed_body xs s) (λ o. continuing value lower o (place_of s) xs (behind s) >>= λ y. turned (λ w r. chain (only marks.Semicolon) (continuing value lower) closed_body k w r) y.0 y.1) ≡ Ok (y, rest) → Cut (λ ts z. IsRest xs.0 ts z.0) s y rest
    at_semicolon xs s y rest None e h = closed_sound xs s y rest h
    at_semicolon xs (ends p) y rest (Some o) e h = cc
    at_semicolon xs (breaks f) y rest (Some o) e h = cc
    at_semicolon xs (more t s) y rest (Some o) e h = continued xs t (only_is marks.Semicolon (sign_of t) o (sym e)) s y rest (through (item_of value lower xs.1 s) h)
      where
        through : (q : Read Passed (Counted Item)) → ((q >>= λ i. gives {X = Passed} (turned_by xs.0 i.0) i.1) >>= λ y. turned (λ w r. chain (only marks.Semicolon) (continuing value lower) closed_body k w r) y.0 y.1) ≡ Ok (y, rest)
            → (q >>= λ i. turned (λ w r. chain (only marks.Semicolon) (continuing value lower) closed_body k w r) (turned_by xs.0 i.0) i.1) ≡ Ok (y, rest)
        through (Ok i) h = h
        through (Err f) h = cc

  rest_sound : (k : ℕ) (xs : Counted (List Statement)) → Sound (chain (only marks.Semicolon) (continuing value lower) closed_body k xs) (λ ts y. IsRest xs.0 ts y.0)
  unfolding chain
  rest_sound zero xs s y rest h = closed_sound xs s y rest h
  rest_sound (suc k) xs s y rest h = at_semicolon k (λ xs s y rest h. rest_sound k xs s y rest h) xs s y rest (only marks.Semicolon (ahead s)) refl h

  -- the rest of a body, seen from its front: `a` is the text so far, of the first item and further ones
  from_rest : (a : List Lexeme) (x : Statement) → low false a x → (b : List Lexeme) (ys : List Statement) → Items marks.Semicolon (low false) b ys → (xs : List Statement) → xs ≡ x ∷ ys → (c : List Lexeme) (z : Body) → IsRest xs c z → IsBody V low ((a ++ b) ++ c) z
  from_rest a x l b ys items xs e c z (closes ws u h) = subst (λ (v : List Statement). IsBody V low ((a ++ b) ++ u ∷ []) (body (statements v) None)) (sym e) (unnamed (a ++ b) u (x ∷ ys) (row a b x ys l items) h)
  from_rest a x l b ys items xs e c z (is_ended ws s k d u f g h i) =
      subst (λ (v : List Statement). IsBody V low ((a ++ b) ++ s ∷ k ∷ d ∷ u ∷ []) (body (statements v) (Some (label_of k)))) (sym e) (ended (a ++ b) s k d u (x ∷ ys) (row a b x ys l items) f g h i)
  from_rest a x l b ys items xs e c z (goes_on_with ws t p q y w f g rest) =
      let more_of : IsBody V low ((a ++ (b ++ t ∷ p)) ++ q) w = from_rest a x l (b ++ t ∷ p) (ys ++ y ∷ []) (item_behind b ys items t p y f g) (ws ++ y ∷ []) (ap (λ v. v ++ y ∷ []) e) q w rest in
      let same : (a ++ (b ++ t ∷ p)) ++ q ≡ (a ++ b) ++ (t ∷ p ++ q) = simp append_assoc in
      subst (λ (v : List Lexeme). IsBody V low v w) same more_of

  pub body_sound : (n : ℕ) → Sound (body_of value lower n) (λ ts y. IsBody V low ts y.0)
  unfolding body_of
  body_sound n s y rest h =
      let p = split (lower (fresh false) n) (λ x. rest_of_body value lower (x.0 ∷ [], x.1)) s y rest h in
      let c = sl.sound (fresh false) n s p.value p.middle p.first in
      let d = rest_sound (size p.middle) (p.value.0 ∷ [], p.value.1) p.middle y rest p.second in
      record {
        text = c.text ++ d.text;
        is = c.is ∙ ap (λ m. c.text ++> m) d.is ∙ sym (append_stream c.text d.text rest);
        spells = subst (λ (v : List Lexeme). IsBody V low (v ++ d.text) y.0) (append-nil c.text) (from_rest c.text p.value.0 c.spells [] [] no_items (p.value.0 ∷ []) refl d.text y.0 d.spells);
      }

  from_child : (ts : List Lexeme) (y : Counted Body) → Both (OneMark marks.OpenBlock) (λ m ts (y : Counted Body). IsBody V low ts y.0) ts y → IsChild V low ts y.0
  from_child ts y (behind_it a b m z (one_mark t h) l) = child t b z.0 h l

  pub child_sound : (n : ℕ) → Sound (child_of value lower n) (λ ts y. IsChild V low ts y.0)
  unfolding child_of
  child_sound n =
      sound_as (then_reads (expected marks.OpenBlock) (λ m. body_of value lower n)) (Both (OneMark marks.OpenBlock) (λ m ts (y : Counted Body). IsBody V low ts y.0)) (λ ts y. IsChild V low ts y.0) from_child
      (sound_bind (expected marks.OpenBlock) (λ m. body_of value lower n) (OneMark marks.OpenBlock) (λ m ts y. IsBody V low ts y.0) (sound_expected marks.OpenBlock) (λ m. body_sound n))

  pub children_sound : (n : ℕ) → Sound (children_of value lower n) (λ ts ys. Row2 marks.Bars (IsChild V low) ts ys.0)
  unfolding children_of
  children_sound n s ys rest h = row2_sound marks.Bars (child_of value lower) (IsChild V low) child_sound n s ys rest h

  -- CONDITIONALS
  abbrev Else : Bool → List Lexeme → Counted Branch → Type 0
  Else inner = Both (λ ts (x : Counted Statement). low inner ts x.0) (λ x. Given (branch x.0, x.1))

  from_else : (inner : Bool) (t : Lexeme) → Is marks.Else t → (ts : List Lexeme) (y : Counted Branch) → Else inner ts y → IsBranch V low inner (t ∷ ts) y.0
  from_else inner t e ts y (behind_it a b x z l given) = rw append-nil (with_else t a x.0 e l)

  branch_at : (inner : Bool) (n : ℕ) (s : Stream) (y : Counted Branch) (rest : Stream) (b : Bool) → b ≡ is (ahead s) marks.Else → cond b (then_reads (lower (fresh inner) n) (λ x. gives (branch x.0, x.1)) (behind s)) (gives {X = Passed} (no_branch, n) s) ≡ Ok (y, rest) → Cut (λ ts y. IsBranch V low inner ts y.0) s y rest
  branch_at inner n s y rest false e h = taken {X = Passed} (λ ts (y : Counted Branch). IsBranch V low inner ts y.0) [] (gives (no_branch, n) s) (no_branch, n) y s rest refl h without
  branch_at inner n (ends p) y rest true e h = cc
  branch_at inner n (breaks f) y rest true e h = cc
  branch_at inner n (more t s) y rest true e h =
      behind_token t s (Else inner) (λ ts y. IsBranch V low inner ts y.0) y rest (from_else inner t (sym e))
      (sound_bind (lower (fresh inner) n) (λ x. gives (branch x.0, x.1)) (λ ts x. low inner ts x.0) (λ x. Given (branch x.0, x.1)) (sl.sound (fresh inner) n) (λ x. sound_gives (branch x.0, x.1)) s y rest h)

  pub branch_sound : (inner : Bool) (n : ℕ) → Sound (branch_of value lower inner n) (λ ts y. IsBranch V low inner ts y.0)
  unfolding branch_of
  branch_sound inner n s y rest h = branch_at inner n s y rest (is (ahead s) marks.Else) refl h

  abbrev Closing : Expr → Statement → Counted Branch → List Lexeme → Counted Action → Type 0
  Closing e x y = Both (OneMark marks.Fi) (λ m. Given (conditional e x y.0, y.1))

  abbrev Chosen : Bool → List Lexeme → Counted Action → Type 0
  Chosen inner = Both V (λ e. Both (OneMark marks.Then) (λ m. Both (λ ts (x : Counted Statement). low inner ts x.0) (λ x. Both (λ ts (y : Counted Branch). IsBranch V low inner ts y.0) (Closing e x.0))))

  chosen_sound : (inner : Bool) (n : ℕ) → Sound (conditional_of value lower inner n) (Chosen inner)
  unfolding conditional_of
  chosen_sound inner n =
      sound_bind value (λ e. then_reads (expected marks.Then) (λ m. then_reads (lower (fresh inner) n) (λ x. then_reads (branch_of value lower inner x.1) (λ y. then_reads (expected marks.Fi) (λ z. gives (conditional e x.0 y.0, y.1)))))) V (λ e. Both (OneMark marks.Then) (λ m. Both (λ ts x. low inner ts x.0) (λ x. Both (λ ts y. IsBranch V low inner ts y.0) (Closing e x.0)))) sv
      (λ e. sound_bind (expected marks.Then) (λ m. then_reads (lower (fresh inner) n) (λ x. then_reads (branch_of value lower inner x.1) (λ y. then_reads (expected marks.Fi) (λ z. gives (conditional e x.0 y.0, y.1))))) (OneMark marks.Then) (λ m. Both (λ ts x. low inner ts x.0) (λ x. Both (λ ts y. IsBranch V low inner ts y.0) (Closing e x.0))) (sound_expected marks.Then)
      (λ m. sound_bind (lower (fresh inner) n) (λ x. then_reads (branch_of value lower inner x.1) (λ y. then_reads (expected marks.Fi) (λ z. gives (conditional e x.0 y.0, y.1)))) (λ ts x. low inner ts x.0) (λ x. Both (λ ts y. IsBranch V low inner ts y.0) (Closing e x.0)) (sl.sound (fresh inner) n)
      (λ x. sound_bind (branch_of value lower inner x.1) (λ y. then_reads (expected marks.Fi) (λ z. gives (conditional e x.0 y.0, y.1))) (λ ts y. IsBranch V low inner ts y.0) (Closing e x.0) (branch_sound inner x.1)
      (λ y. sound_bind (expected marks.Fi) (λ z. gives (conditional e x.0 y.0, y.1)) (OneMark marks.Fi) (λ z. Given (conditional e x.0 y.0, y.1)) (sound_expected marks.Fi) (λ z. sound_gives (conditional e x.0 y.0, y.1))))))

  -- A STATEMENT BEHIND ITS FIRST TOKEN
  abbrev Doing : (Statement → Action) → List Lexeme → Counted Action → Type 0
  Doing action = Both (OneMark marks.Do) (λ m. Both (λ ts (x : Counted Statement). low false ts x.0) (λ x. Given (action x.0, x.1)))

  doing_sound : (action : Statement → Action) (n : ℕ) → Sound (doing value lower action n) (Doing action)
  doing_sound action n =
      sound_bind (expected marks.Do) (λ m. then_reads (lower (fresh false) n) (λ x. gives (action x.0, x.1))) (OneMark marks.Do) (λ m. Both (λ ts x. low false ts x.0) (λ x. Given (action x.0, x.1))) (sound_expected marks.Do)
      (λ m. sound_bind (lower (fresh false) n) (λ x. gives (action x.0, x.1)) (λ ts x. low false ts x.0) (λ x. Given (action x.0, x.1)) (sl.sound (fresh false) n) (λ x. sound_gives (action x.0, x.1)))

  abbrev Enclosed : {A : Type 0} → (List Lexeme → List A → Type 0) → (List A → Action) → Mark → List Lexeme → Counted Action → Type 0
  Enclosed {A} R action mark = Both (λ ts (xs : Counted (List A)). R ts xs.0) (λ xs. Both (OneMark mark) (λ m. Given (action xs.0, xs.1)))

  enclosed_sound : {A : Type 0} (r : Reader (Counted (List A))) (R : List Lexeme → List A → Type 0) (action : List A → Action) (mark : Mark) → Sound r (λ ts xs. R ts xs.0) → Sound (enclosed action mark r) (Enclosed R action mark)
  enclosed_sound r R action mark sound =
      sound_bind r (λ xs. then_reads (expected mark) (λ m. gives (action xs.0, xs.1))) (λ ts xs. R ts xs.0) (λ xs. Both (OneMark mark) (λ m. Given (action xs.0, xs.1))) sound
      (λ xs. sound_bind (expected mark) (λ m. gives (action xs.0, xs.1)) (OneMark mark) (λ m. Given (action xs.0, xs.1)) (sound_expected mark) (λ m. sound_gives (action xs.0, xs.1)))

  map_sound : {A B : Type 0} (f : A → B) (r : Reader A) (K : List Lexeme → A → Type 0) → Sound r K → Sound (then_reads r (λ x. gives (f x))) (Both K (λ x. Given (f x)))
  map_sound f r K sound = sound_bind r (λ x. gives (f x)) K (λ x. Given (f x)) sound (λ x. sound_gives (f x))

  -- what the tokens behind the first stand for
  abbrev Tail : Bool → ℕ → Label → Start → List Lexeme → Counted Action → Type 0
  Tail inner n l starts.Named = Both (IsRightSide V) (λ e. Given (assign l e, n))
  Tail inner n l starts.Listed = Both (AllAssigned value V sv) (λ a. Given (a, n))
  Tail inner n l starts.Skip = Given (skip, n)
  Tail inner n l starts.Critical = Given (critical, n)
  Tail inner n l starts.Noncritical = Given (noncritical, n)
  Tail inner n l starts.Await = Both V (λ e. Given (await e, n))
  Tail inner n l starts.Request = Both OneName (λ m. Given (request m, n))
  Tail inner n l starts.Release = Both OneName (λ m. Given (release m, n))
  Tail inner n l starts.If = Chosen inner
  Tail inner n l starts.While = Both V (λ e. Doing (while_do e))
  Tail inner n l starts.Loop = Both (OneMark marks.Forever) (λ m. Doing forever)
  Tail inner n l starts.Block = Enclosed (Row marks.Semicolon (low inner)) (λ xs. block (statements xs)) marks.CloseBlock
  Tail inner n l starts.Select = Both (OneMark marks.OpenBlock) (λ m. Enclosed (Row2 marks.Either (low false)) (λ xs. select (statements xs)) marks.CloseBlock)
  Tail inner n l starts.Cooperate = Enclosed (Row2 marks.Bars (IsChild V low)) (λ xs. cooperate (bodies xs)) marks.Coend
  Tail inner n l starts.Group = Enclosed (Row marks.Semicolon (low true)) (λ xs. group (statements xs)) marks.CloseGroup

  tail_sound : (inner : Bool) (n : ℕ) (l : Label) (x : Start) → Sound (action_of value lower inner n l x) (Tail inner n l x)
  unfolding action_of
  tail_sound inner n l starts.Named = map_sound (λ e. (assign l e, n)) (right_side_of value) (IsRightSide V) (right_side_sound value V sv)
  tail_sound inner n l starts.Listed = map_sound (λ (a : Action). (a, n)) (all_assigned_of value) (AllAssigned value V sv) (all_assigned_sound value V sv)
  tail_sound inner n l starts.Skip = sound_gives (skip, n)
  tail_sound inner n l starts.Critical = sound_gives (critical, n)
  tail_sound inner n l starts.Noncritical = sound_gives (noncritical, n)
  tail_sound inner n l starts.Await = map_sound (λ e. (await e, n)) value V sv
  tail_sound inner n l starts.Request = map_sound (λ m. (request m, n)) named OneName sound_named
  tail_sound inner n l starts.Release = map_sound (λ m. (release m, n)) named OneName sound_named
  tail_sound inner n l starts.If = chosen_sound inner n
  tail_sound inner n l starts.While = sound_bind value (λ e. doing value lower (while_do e) n) V (λ e. Doing (while_do e)) sv (λ e. doing_sound (while_do e) n)
  tail_sound inner n l starts.Loop = sound_bind (expected marks.Forever) (λ m. doing value lower forever n) (OneMark marks.Forever) (λ m. Doing forever) (sound_expected marks.Forever) (λ m. doing_sound forever n)
  tail_sound inner n l starts.Block = enclosed_sound (sequence_of value lower inner n) (Row marks.Semicolon (low inner)) (λ xs. block (statements xs)) marks.CloseBlock (sequence_sound inner n)
  tail_sound inner n l starts.Select =
      sound_bind (expected marks.OpenBlock) (λ m. enclosed (λ xs. select (statements xs)) marks.CloseBlock (selection_of value lower n)) (OneMark marks.OpenBlock) (λ m. Enclosed (Row2 marks.Either (low false)) (λ xs. select (statements xs)) marks.CloseBlock) (sound_expected marks.OpenBlock)
      (λ m. enclosed_sound (selection_of value lower n) (Row2 marks.Either (low false)) (λ xs. select (statements xs)) marks.CloseBlock (selection_sound n))
  tail_sound inner n l starts.Cooperate = enclosed_sound (children_of value lower n) (Row2 marks.Bars (IsChild V low)) (λ xs. cooperate (bodies xs)) marks.Coend (children_sound n)
  tail_sound inner n l starts.Group = enclosed_sound (sequence_of value lower true n) (Row marks.Semicolon (low true)) (λ xs. group (statements xs)) marks.CloseGroup (sequence_sound true n)

  from_tail : (inner : Bool) (n : ℕ) (t : Lexeme) (x : Start) → start (sign_of t) ≡ Some x → begins inner (Some x) ≡ true → (ts : List Lexeme) (a : Counted Action) → Tail inner n (label_of t) x ts a → IsBare V low inner t.start (t ∷ ts) a.0
  from_tail inner n t starts.Named e ok ts a (behind_it b c y z r given) = rw append-nil (s_assign inner t b y e r)
  from_tail inner n t starts.Listed e ok ts a (behind_it b c y z r given) = rw append-nil (from_all_assigned value V sv inner t e b y r)
  from_tail inner n t starts.Skip e ok ts a given = s_skip inner t e
  from_tail false n t starts.Critical e ok ts a given = s_critical t e
  from_tail true n t starts.Critical e ok ts a l = cc
  from_tail false n t starts.Noncritical e ok ts a given = s_noncritical t e
  from_tail true n t starts.Noncritical e ok ts a l = cc
  from_tail inner n t starts.Await e ok ts a (behind_it b c y z r given) = rw append-nil (s_await inner t b y e r)
  from_tail false n t starts.Request e ok ts a (behind_it b c y z (one_name u h) given) = s_request t u e h
  from_tail true n t starts.Request e ok ts a l = cc
  from_tail false n t starts.Release e ok ts a (behind_it b c y z (one_name u h) given) = s_release t u e h
  from_tail true n t starts.Release e ok ts a l = cc
  from_tail inner n t starts.If e ok ts a (behind_it b1 c1 v z1 lv (behind_it b2 c2 m2 z2 (one_mark u h2) (behind_it b3 c3 x z3 lx (behind_it b4 c4 y z4 ly (behind_it b5 c5 m5 z5 (one_mark w h5) given))))) =
      s_if inner t u w b1 b3 b4 v x.0 y.0 e lv h2 lx ly h5
  from_tail false n t starts.While e ok ts a (behind_it b1 c1 v z1 lv (behind_it b2 c2 m2 z2 (one_mark u h2) (behind_it b3 c3 x z3 lx given))) = rw append-nil (s_while t u b1 b3 v x.0 e lv h2 lx)
  from_tail true n t starts.While e ok ts a l = cc
  from_tail false n t starts.Loop e ok ts a (behind_it b1 c1 m1 z1 (one_mark u h1) (behind_it b2 c2 m2 z2 (one_mark v h2) (behind_it b3 c3 x z3 lx given))) = rw append-nil (s_loop t u v b3 x.0 e h1 h2 lx)
  from_tail true n t starts.Loop e ok ts a l = cc
  from_tail inner n t starts.Block e ok ts a (behind_it b c xs z rows (behind_it d f m w (one_mark u h) given)) = s_block inner t u b xs.0 e rows h
  from_tail false n t starts.Select e ok ts a (behind_it b1 c1 m1 z1 (one_mark u h1) (behind_it b c xs z rows (behind_it d f m w (one_mark v h) given))) = s_select t u v b xs.0 e h1 rows h
  from_tail true n t starts.Select e ok ts a l = cc
  from_tail false n t starts.Cooperate e ok ts a (behind_it b c xs z rows (behind_it d f m w (one_mark u h) given)) = s_cooperate t u b xs.0 e rows h
  from_tail true n t starts.Cooperate e ok ts a l = cc
  from_tail false n t starts.Group e ok ts a (behind_it b c xs z rows (behind_it d f m w (one_mark u h) given)) = s_group t u b xs.0 e rows h
  from_tail true n t starts.Group e ok ts a l = cc

  -- WHOLE STATEMENTS
  from_first : (inner : Bool) (label : Option Label) (n : ℕ) (t : Lexeme) (x : Start) → start (sign_of t) ≡ Some x → begins inner (Some x) ≡ true → (ts : List Lexeme) (y : Counted Statement) → Both (Tail inner n (label_of t) x) (λ a. Given (standing label t.start a)) ts y → Bare V low inner label (t ∷ ts) y.0
  from_first inner label n t x e ok ts y (behind_it b c a z l given) = rw append-nil (t.start, a.0, from_tail inner n t x e ok b a l, refl)

  bare_at : (inner : Bool) (label : Option Label) (n : ℕ) (s : Stream) → ((x : Start) → start (ahead s) ≡ Some x → begins inner (Some x) ≡ true) → (y : Counted Statement) (rest : Stream) (c : Option Start) → c ≡ start (ahead s)
      → on_operator c (Err (refusal s)) (λ x. then_reads (action_of value lower inner n (name_of s) x) (λ a. gives (standing label (place_of s) a)) (behind s)) ≡ Ok (y, rest) → Cut (λ ts y. Bare V low inner label ts y.0) s y rest
  bare_at inner label n s ok y rest None e h = cc
  bare_at inner label n (ends p) ok y rest (Some x) e h = cc
  bare_at inner label n (breaks f) ok y rest (Some x) e h = cc
  bare_at inner label n (more t s) ok y rest (Some x) e h =
      behind_token t s (Both (Tail inner n (label_of t) x) (λ a. Given (standing label t.start a))) (λ ts y. Bare V low inner label ts y.0) y rest (from_first inner label n t x (sym e) (ok x (sym e)))
      (map_sound (standing label t.start) (action_of value lower inner n (label_of t) x) (Tail inner n (label_of t) x) (tail_sound inner n (label_of t) x) s y rest h)

  bare_sound : (inner : Bool) (label : Option Label) (n : ℕ) (s : Stream) → ((x : Start) → start (ahead s) ≡ Some x → begins inner (Some x) ≡ true) → (y : Counted Statement) (rest : Stream) → bare_of value lower inner label n s ≡ Ok (y, rest) → Cut (λ ts y. Bare V low inner label ts y.0) s y rest
  unfolding bare_of
  bare_sound inner label n s ok y rest h = bare_at inner label n s ok y rest (start (ahead s)) refl h

  any_start : (s : Stream) (x : Start) → start (ahead s) ≡ Some x → begins false (Some x) ≡ true
  any_start s x e = refl

  from_assigned : (l : Label) (n : ℕ) (ts : List Lexeme) (y : Counted Statement) → Both (IsRightSide V) (λ e. Given (stated None l.place (assign l e), n)) ts y → Assigned V low l ts y.0
  from_assigned l n ts y (behind_it b c e z r given) = rw append-nil (e, r, refl)

  assigned_sound : (l : Label) (n : ℕ) → Sound (assigned_of value l n) (λ ts y. Assigned V low l ts y.0)
  unfolding assigned_of
  assigned_sound l n =
      sound_as (then_reads (right_side_of value) (λ e. gives (stated None l.place (assign l e), n))) (Both (IsRightSide V) (λ e. Given (stated None l.place (assign l e), n))) (λ ts y. Assigned V low l ts y.0) (from_assigned l n)
      (map_sound (λ e. (stated None l.place (assign l e), n)) (right_side_of value) (IsRightSide V) (right_side_sound value V sv))

  behind_name : (t : Lexeme) → IsName t → (n : ℕ) (s : Stream) (y : Counted Statement) (rest : Stream) (c : Bool) → c ≡ is (ahead s) marks.Colon → cond c (bare_of value lower false (Some (label_of t)) n (behind s)) (assigned_of value (label_of t) n s) ≡ Ok (y, rest) → Cut (λ ts y. IsStatement V low false ts y.0) (more t s) y rest
  behind_name t e n s y rest false f h =
      let c = assigned_sound (label_of t) n s y rest h in
      record { text = t ∷ c.text; is = ap (more t) c.is; spells = assigned_from V low t e c.text y.0 c.spells }
  behind_name t e n (ends p) y rest true f h = cc
  behind_name t e n (breaks p) y rest true f h = cc
  behind_name t e n (more u s) y rest true f h =
      let c = bare_sound false (Some (label_of t)) n s (any_start s) y rest h in
      record { text = t ∷ u ∷ c.text; is = ap (λ m. more t (more u m)) c.is; spells = labelled_from V low t u e (sym f) c.text y.0 c.spells }

  named_sound : (t : Lexeme) → IsName t → (n : ℕ) (s : Stream) (y : Counted Statement) (rest : Stream) → named_of value lower (label_of t) n s ≡ Ok (y, rest) → Cut (λ ts y. IsStatement V low false ts y.0) (more t s) y rest
  unfolding named_of
  named_sound t e n s y rest h = behind_name t e n s y rest (is (ahead s) marks.Colon) refl h

  fresh_at : (n : ℕ) (s : Stream) (y : Counted Statement) (rest : Stream) (c : Bool) → c ≡ is_name (ahead s) → cond c (named_of value lower (name_of s) n (behind s)) (bare_of value lower false None n s) ≡ Ok (y, rest) → Cut (λ ts y. IsStatement V low false ts y.0) s y rest
  fresh_at n s y rest false e h =
      let c = bare_sound false None n s (any_start s) y rest h in
      record { text = c.text; is = c.is; spells = unlabelled_from V low false c.text y.0 c.spells }
  fresh_at n (ends p) y rest true e h = cc
  fresh_at n (breaks p) y rest true e h = cc
  fresh_at n (more t s) y rest true e h = named_sound t (sym e) n s y rest h

  -- what goes on begins so
  goes_in : (s : Stream) → goes_on (fresh true) (ahead s) ≡ true → (x : Start) → start (ahead s) ≡ Some x → begins true (Some x) ≡ true
  goes_in s h x e = ap (begins true) (sym e) ∙ h

  pub statement_sound : (b : Begun) (n : ℕ) (s : Stream) → goes_on b (ahead s) ≡ true → (y : Counted Statement) (rest : Stream) → statement_of value lower b n s ≡ Ok (y, rest) → Cut (λ ts y. Rest V low b ts y.0) s y rest
  unfolding statement_of
  statement_sound (fresh true) n s g y rest h =
      let c = bare_sound true None n s (goes_in s g) y rest h in
      record { text = c.text; is = c.is; spells = unlabelled_from V low true c.text y.0 c.spells }
  statement_sound (fresh false) n s g y rest h = fresh_at n s y rest (is_name (ahead s)) refl h
  statement_sound (after_name l) n s g y rest h = assigned_sound l n s y rest h
  statement_sound (after_label l) n s g y rest h = bare_sound false (Some l) n s (any_start s) y rest h
