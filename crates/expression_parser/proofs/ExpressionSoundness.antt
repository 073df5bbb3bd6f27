-- What the readers of expressions read is in the grammar.
use Rattle.std.proofs.Common.{◌≡◌, ℕ, zero, suc, Bool, true, false, cond, List, [], ◌∷◌, ◌++◌, Option, Some, None, Ok, Err, refl, sym, ap, subst, ◌∙◌, append-nil}
use Rattle.st_tokens.specs.Stream.{◌++>◌, Lexeme, Stream, ends, breaks, more, behind}
use Rattle.st_reading.specs.declared.mark.Mark.{Mark}
use Rattle.st_reading.specs.declared.mark.Mark.TheVariants as marks
use Rattle.st_reading.specs.declared.sign.Sign.{Sign}
use Rattle.st_reading.specs.declared.sign.Sign.TheVariants as signs
use Rattle.st_reading.specs.Sign.{sign_of, is}
use Rattle.st_reading.specs.Faults.{Passed}
use Rattle.st_reading.specs.Reading.{Read, ◌>>=◌, ahead, place_of, label_of, named, expected, gives, then_reads, Turn, goes, turned, on_operator, chain, size, only, listing}
use Rattle.st_reading.specs.Spelling.{Cut, Sound, Both, behind_it, Is, OneName, one_name, Items, row2}
use Rattle.st_reading.proofs.Streams.{append_stream}
use Rattle.st_reading.proofs.Soundness.{split, values, taken, sound_bind}
use Rattle.st_reading.proofs.ListSoundness.{OneMark, one_mark, Given, given, sound_gives, sound_expected, sound_named, Continues, listing_continues, listing_mapped}
use Rattle.expression_parser.specs.declared.raw.Operator.{Operator}
use Rattle.expression_parser.specs.declared.raw.Operator.TheVariants as operators
use Rattle.expression_parser.specs.declared.sign.Front.{Front}
use Rattle.expression_parser.specs.declared.sign.Front.TheVariants as fronts
use Rattle.expression_parser.specs.Signs.{front, product_sign, sum_sign, comparison_sign}
use Rattle.expression_parser.specs.ExpressionTree.{Expr, Exprs, Kind, node, numeral, truth, name, at, negation, negative, all, any, exprs, kind_of, start_of, joined}
use Rattle.expression_parser.specs.Reading.{Reader, Down, Level, formula, negated, signed, closing, seen, atom_at, atom_of, unary_at, unary_of, grouping, grouped, product_of, sum_of, compared, comparison_of, negation_at, negation_of, chained, conjunction_of, disjunction_of, implied, expression_of, below}
use Rattle.expression_parser.specs.Grammar.{IsAtom, a_numeral, a_truth, a_name, a_place, a_group, IsUnary, minus, plain, Behind, stop, go, IsGrouped, grouping as a_grouping, IsChained, alone, chained as a_chain, IsProduct, IsSum, IsComparison, sum, compare, IsNegation, tilde, straight, IsConjunction, IsDisjunction, IsExpression, disjunction, implication, Inside}

-- OPERATORS, GROUPED FROM THE LEFT
module _ (op : Sign → Option Operator) (nothing : None ≡ op signs.Nothing) (item : Reader Expr) (L : List Lexeme → Expr → Type 0) (sound : Sound item L) where
  stopped : (x : Expr) (s : Stream) (z : Expr) (rest : Stream) → gives {X = Passed} x s ≡ Ok (z, rest) → Cut (Behind op L x) s z rest
  stopped x s z rest h = taken {X = Passed} (Behind op L x) [] (gives x s) x z s rest refl h (stop x)

  went : (x : Expr) (t : Lexeme) (o : Operator) → op (sign_of t) ≡ Some o → (s : Stream) (y : Expr) (m : Stream) (z : Expr) (rest : Stream) → Cut L s y m → Cut (Behind op L (joined o t.start x y)) m z rest → Cut (Behind op L x) (more t s) z rest
  went x t o e s y m z rest c d = record {
    text = t ∷ c.text ++ d.text;
    is = ap (more t) (c.is ∙ ap (λ n. c.text ++> n) d.is ∙ sym (append_stream c.text d.text rest));
    spells = go x t o c.text d.text y z e c.spells d.spells;
  }

  grown : Operator → ℕ → Expr → Expr → Turn Expr Expr
  grown o place x y = goes (joined o place x y)

  at_operator : (k : ℕ) → ((x : Expr) (s : Stream) (z : Expr) (rest : Stream) → chain op (grouping item) gives k x s ≡ Ok (z, rest) → Cut (Behind op L x) s z rest) → (x : Expr) (s : Stream) (z : Expr) (rest : Stream) (p : Option Operator) → p ≡ op (ahead s)
      → on_operator p (gives {X = Passed} x s) (λ o. grouping item o (place_of s) x (behind s) >>= λ y. turned (λ w n. chain op (grouping item) gives k w n) y.0 y.1) ≡ Ok (z, rest) → Cut (Behind op L x) s z rest
  unfolding grown
  at_operator k again x s z rest None e h = stopped x s z rest h
  at_operator k again x (ends p) z rest (Some o) e h = cc
  at_operator k again x (breaks f) z rest (Some o) e h = cc
  at_operator k again x (more t s) z rest (Some o) e h =
      let p = split item (λ y m. chain op (grouping item) gives k (joined o t.start x y) m) s z rest (through h) in
      went x t o (sym e) s p.value p.middle z rest (sound s p.value p.middle p.first) (again (joined o t.start x p.value) p.middle z rest p.second)
    where
      at_read : (q : Read Passed Expr) → ((q >>= λ y. gives {X = Passed} (grown o t.start x y.0) y.1) >>= λ y. turned (λ w n. chain op (grouping item) gives k w n) y.0 y.1) ≡ Ok (z, rest) → (q >>= λ y. chain op (grouping item) gives k (joined o t.start x y.0) y.1) ≡ Ok (z, rest)
      at_read (Ok y) h = h
      at_read (Err f) h = cc

      through : (grouping item o t.start x s >>= λ y. turned (λ w n. chain op (grouping item) gives k w n) y.0 y.1) ≡ Ok (z, rest) → then_reads item (λ y m. chain op (grouping item) gives k (joined o t.start x y) m) s ≡ Ok (z, rest)
      through h = at_read (item s) h

  behind_sound : (k : ℕ) (x : Expr) → Sound (chain op (grouping item) gives k x) (Behind op L x)
  unfolding chain
  behind_sound zero x s z rest h = stopped x s z rest h
  behind_sound (suc k) x s z rest h = at_operator k (λ x s z rest h. behind_sound k x s z rest h) x s z rest (op (ahead s)) refl h

  pub grouped_sound : Sound (grouped op item) (IsGrouped op L)
  grouped_sound s z rest h =
      let p = split item (λ x m. chain op (grouping item) gives (size m) x m) s z rest h in
      let c = sound s p.value p.middle p.first in
      let d = behind_sound (size p.middle) p.value p.middle z rest p.second in
      record { text = c.text ++ d.text; is = c.is ∙ ap (λ m. c.text ++> m) d.is ∙ sym (append_stream c.text d.text rest); spells = a_grouping c.text d.text p.value z c.spells d.spells }

-- CHAINS OF ONE CONNECTIVE
module _ (wrap : Exprs → Kind) (mark : Mark) (item : Reader Expr) (L : List Lexeme → Expr → Type 0) (sound : Sound item L) where
  wrapped : Expr → List Expr → Expr
  wrapped x xs = node (start_of x) (wrap (exprs xs))

  -- behind the first item
  module _ (x : Expr) (a : List Lexeme) (first : L a x) where
    listed : (s : Stream) (ys : List Expr) (m : Stream) (z : Expr) (rest : Stream) → Cut (Continues (Items mark L) (x ∷ [])) s ys m → gives {X = Passed} (wrapped x ys) m ≡ Ok (z, rest) → Cut (IsChained wrap mark L) (a ++> s) z rest
    unfolding wrapped
    listed s ys m z rest c h =
        let v = values {X = Passed} (gives (wrapped x ys) m) (wrapped x ys) z m rest refl h in
        let items : IsChained wrap mark L (a ++ c.text) (wrapped x (x ∷ c.spells.first ∷ c.spells.others)) = a_chain (a ++ c.text) x c.spells.first c.spells.others (row2 a c.text x c.spells.first c.spells.others first c.spells.spells) in
        record {
          text = a ++ c.text;
          is = ap (λ n. a ++> n) (c.is ∙ ap (λ n. c.text ++> n) v.1) ∙ sym (append_stream a c.text rest);
          spells = subst (IsChained wrap mark L (a ++ c.text)) (ap (wrapped x) (sym c.spells.joined) ∙ v.0) items;
        }

    at_test : (s : Stream) (b : Bool) → b ≡ is (ahead s) mark → (z : Expr) (rest : Stream) → cond b (chain (only mark) (listing item) (λ xs. gives (wrapped x xs)) (size s) (x ∷ []) s) (gives x s) ≡ Ok (z, rest) → Cut (IsChained wrap mark L) (a ++> s) z rest
    at_test s false e z rest h = taken {X = Passed} (IsChained wrap mark L) a (gives x s) x z s rest refl h (alone a x first)
    at_test (ends p) true e z rest h = cc
    at_test (breaks f) true e z rest h = cc
    at_test (more t s) true e z rest h =
        let p = split (chain (only mark) (listing item) gives (suc (size s)) (x ∷ [])) (λ xs. gives (wrapped x xs)) (more t s) z rest (sym (listing_mapped mark item (wrapped x) (suc (size s)) (x ∷ []) (more t s)) ∙ h) in
        listed (more t s) p.value p.middle z rest (listing_continues mark item L sound (size s) (x ∷ []) t s p.value p.middle (sym e) p.first) p.second

  pub chained_sound : Sound (then_reads item (chained wrap mark item)) (IsChained wrap mark L)
  unfolding wrapped
  chained_sound s z rest h =
      let p = split item (chained wrap mark item) s z rest h in
      let c = sound s p.value p.middle p.first in
      let d = at_test p.value c.text c.spells p.middle (is (ahead p.middle) mark) refl z rest p.second in
      record { text = d.text; is = c.is ∙ d.is; spells = d.spells }

-- THE READERS, ONE BY ONE
module _ (places : Bool) (down : Down) (D : Level → List Lexeme → Expr → Type 0) (deeper : (level : Level) (place : ℕ) → Sound (down level place) (D level)) where
  -- behind a token
  behind_token : {A : Type 0} (t : Lexeme) (s : Stream) (K M : List Lexeme → A → Type 0) (x : A) (rest : Stream) → ((ts : List Lexeme) (y : A) → K ts y → M (t ∷ ts) y) → Cut K s x rest → Cut M (more t s) x rest
  behind_token t s K M x rest turn c = record { text = t ∷ c.text; is = ap (more t) c.is; spells = turn c.text x c.spells }

  abbrev Grouped : ℕ → List Lexeme → Expr → Type 0
  Grouped place = Both (D formula) (λ x. Both (OneMark marks.Close) (λ m. Given (node place (kind_of x))))

  sound_grouped : (place : ℕ) → Sound (then_reads (down formula place) (closing place)) (Grouped place)
  sound_grouped place = sound_bind (down formula place) (closing place) (D formula) (λ x. Both (OneMark marks.Close) (λ m. Given (node place (kind_of x)))) (deeper formula place)
      (λ x. sound_bind (expected marks.Close) (λ m. gives (node place (kind_of x))) (OneMark marks.Close) (λ m. Given (node place (kind_of x))) (sound_expected marks.Close) (λ m. sound_gives (node place (kind_of x))))

  from_grouped : (t : Lexeme) → front places (sign_of t) ≡ fronts.Open → (ts : List Lexeme) (y : Expr) → Grouped t.start ts y → IsAtom places D (t ∷ ts) y
  from_grouped t e ts y (behind_it a b x z d (behind_it c f m w (one_mark u g) given)) = a_group t u a x e d g

  abbrev Placed : ℕ → List Lexeme → Expr → Type 0
  Placed place = Both OneName (λ l. Given (node place (at l)))

  from_placed : (t : Lexeme) → front places (sign_of t) ≡ fronts.At → (ts : List Lexeme) (y : Expr) → Placed t.start ts y → IsAtom places D (t ∷ ts) y
  from_placed t e ts y (behind_it a b l z (one_name u g) given) = a_place t u e g

  atom_at_front : (t : Lexeme) (s : Stream) (x : Expr) (rest : Stream) (f : Front) → f ≡ front places (sign_of t) → atom_at down (more t s) f ≡ Ok (x, rest) → Cut (IsAtom places D) (more t s) x rest
  atom_at_front t s x rest (fronts.Numeral n) e h = taken {X = Passed} (IsAtom places D) (t ∷ []) (gives (node t.start (numeral n)) s) (node t.start (numeral n)) x s rest refl h (a_numeral t n (sym e))
  atom_at_front t s x rest (fronts.Truth b) e h = taken {X = Passed} (IsAtom places D) (t ∷ []) (gives (node t.start (truth b)) s) (node t.start (truth b)) x s rest refl h (a_truth t b (sym e))
  atom_at_front t s x rest fronts.Name e h = taken {X = Passed} (IsAtom places D) (t ∷ []) (gives (node t.start (name (label_of t))) s) (node t.start (name (label_of t))) x s rest refl h (a_name t (sym e))
  atom_at_front t s x rest fronts.At e h =
      behind_token t s (Placed t.start) (IsAtom places D) x rest (from_placed t (sym e))
      (sound_bind named (λ l. gives (node t.start (at l))) OneName (λ l. Given (node t.start (at l))) sound_named (λ l. sound_gives (node t.start (at l))) s x rest h)
  atom_at_front t s x rest fronts.Open e h = behind_token t s (Grouped t.start) (IsAtom places D) x rest (from_grouped t (sym e)) (sound_grouped t.start s x rest h)
  atom_at_front t s x rest _ e h = cc

  pub atom_sound : Sound (atom_of places down) (IsAtom places D)
  unfolding atom_of
  atom_sound (ends p) x rest h = cc
  atom_sound (breaks f) x rest h = cc
  atom_sound (more t s) x rest h = atom_at_front t s x rest (front places (sign_of t)) refl h

  -- an operand, seen by f
  abbrev Seen : (Expr → Expr) → (List Lexeme → Expr → Type 0) → List Lexeme → Expr → Type 0
  Seen f K = Both K (λ x. Given (f x))

  sound_seen : (f : Expr → Expr) (r : Reader Expr) (K : List Lexeme → Expr → Type 0) → Sound r K → Sound (seen f r) (Seen f K)
  sound_seen f r K sound = sound_bind r (λ x. gives (f x)) K (λ x. Given (f x)) sound (λ x. sound_gives (f x))

  from_minus : (t : Lexeme) → front places (sign_of t) ≡ fronts.Minus → (ts : List Lexeme) (y : Expr) → Seen (λ x. node t.start (negative t.start x)) (D signed) ts y → IsUnary places D (t ∷ ts) y
  from_minus t e ts y (behind_it a b x z d given) = rw append-nil (minus t a x e d)

  unary_plain : (s : Stream) (x : Expr) (rest : Stream) → atom_of places down s ≡ Ok (x, rest) → Cut (IsUnary places D) s x rest
  unary_plain s x rest h = let c = atom_sound s x rest h in record { text = c.text; is = c.is; spells = plain c.text x c.spells }

  unary_at_front : (t : Lexeme) (s : Stream) (x : Expr) (rest : Stream) (f : Front) → f ≡ front places (sign_of t) → unary_at places down (more t s) f ≡ Ok (x, rest) → Cut (IsUnary places D) (more t s) x rest
  unary_at_front t s x rest fronts.Minus e h =
      behind_token t s (Seen (λ x. node t.start (negative t.start x)) (D signed)) (IsUnary places D) x rest (from_minus t (sym e)) (sound_seen (λ x. node t.start (negative t.start x)) (down signed t.start) (D signed) (deeper signed t.start) s x rest h)
  unary_at_front t s x rest _ e h = unary_plain (more t s) x rest h

  pub unary_sound : Sound (unary_of places down) (IsUnary places D)
  unfolding unary_of
  unary_sound (ends p) x rest h = unary_plain (ends p) x rest h
  unary_sound (breaks f) x rest h = unary_plain (breaks f) x rest h
  unary_sound (more t s) x rest h = unary_at_front t s x rest (front places (sign_of t)) refl h

  pub product_sound : Sound (product_of places down) (IsProduct places D)
  unfolding product_of
  product_sound s x rest h = grouped_sound product_sign refl (unary_of places down) (IsUnary places D) unary_sound s x rest h

  pub sum_sound : Sound (sum_of places down) (IsSum places D)
  unfolding sum_of
  sum_sound s x rest h = grouped_sound sum_sign refl (product_of places down) (IsProduct places D) product_sound s x rest h

  -- behind the left side
  compared_at : (a : List Lexeme) (x : Expr) → IsSum places D a x → (s : Stream) (z : Expr) (rest : Stream) (p : Option Operator) → p ≡ comparison_sign (ahead s) → on_operator p (gives {X = Passed} x s) (λ o. seen (λ y. joined o (place_of s) x y) (sum_of places down) (behind s)) ≡ Ok (z, rest) → Cut (IsComparison places D) (a ++> s) z rest
  compared_at a x l s z rest None e h = taken {X = Passed} (IsComparison places D) a (gives x s) x z s rest refl h (sum a x l)
  compared_at a x l (ends p) z rest (Some o) e h = cc
  compared_at a x l (breaks f) z rest (Some o) e h = cc
  compared_at a x l (more t s) z rest (Some o) e h =
      let c = sound_seen (λ y. joined o t.start x y) (sum_of places down) (IsSum places D) sum_sound s z rest h in
      record { text = a ++ t ∷ c.text; is = ap (λ n. a ++> n) (ap (more t) c.is) ∙ sym (append_stream a (t ∷ c.text) rest); spells = from_compared t o (sym e) c.text z c.spells }
    where
      from_compared : (t : Lexeme) (o : Operator) → comparison_sign (sign_of t) ≡ Some o → (ts : List Lexeme) (y : Expr) → Seen (λ y. joined o t.start x y) (IsSum places D) ts y → IsComparison places D (a ++ t ∷ ts) y
      from_compared t o e ts y (behind_it b c w v d given) = rw append-nil (compare a b t o x w l e d)

  pub comparison_sound : Sound (comparison_of places down) (IsComparison places D)
  unfolding comparison_of
  comparison_sound s z rest h =
      let p = split (sum_of places down) (compared (sum_of places down)) s z rest h in
      let c = sum_sound s p.value p.middle p.first in
      let d = compared_at c.text p.value c.spells p.middle z rest (comparison_sign (ahead p.middle)) refl p.second in
      record { text = d.text; is = c.is ∙ d.is; spells = d.spells }

  from_tilde : (t : Lexeme) → front places (sign_of t) ≡ fronts.Not → (ts : List Lexeme) (y : Expr) → Seen (λ x. node t.start (negation x)) (D negated) ts y → IsNegation places D (t ∷ ts) y
  from_tilde t e ts y (behind_it a b x z d given) = rw append-nil (tilde t a x e d)

  negation_plain : (s : Stream) (x : Expr) (rest : Stream) → comparison_of places down s ≡ Ok (x, rest) → Cut (IsNegation places D) s x rest
  negation_plain s x rest h = let c = comparison_sound s x rest h in record { text = c.text; is = c.is; spells = straight c.text x c.spells }

  negation_at_front : (t : Lexeme) (s : Stream) (x : Expr) (rest : Stream) (f : Front) → f ≡ front places (sign_of t) → negation_at places down (more t s) f ≡ Ok (x, rest) → Cut (IsNegation places D) (more t s) x rest
  negation_at_front t s x rest fronts.Not e h =
      behind_token t s (Seen (λ x. node t.start (negation x)) (D negated)) (IsNegation places D) x rest (from_tilde t (sym e)) (sound_seen (λ x. node t.start (negation x)) (down negated t.start) (D negated) (deeper negated t.start) s x rest h)
  negation_at_front t s x rest _ e h = negation_plain (more t s) x rest h

  pub negation_sound : Sound (negation_of places down) (IsNegation places D)
  unfolding negation_of
  negation_sound (ends p) x rest h = negation_plain (ends p) x rest h
  negation_sound (breaks f) x rest h = negation_plain (breaks f) x rest h
  negation_sound (more t s) x rest h = negation_at_front t s x rest (front places (sign_of t)) refl h

  pub conjunction_sound : Sound (conjunction_of places down) (IsConjunction places D)
  unfolding conjunction_of
  conjunction_sound s x rest h = chained_sound all marks.And (negation_of places down) (IsNegation places D) negation_sound s x rest h

  pub disjunction_sound : Sound (disjunction_of places down) (IsDisjunction places D)
  unfolding disjunction_of
  disjunction_sound s x rest h = chained_sound any marks.Or (conjunction_of places down) (IsConjunction places D) conjunction_sound s x rest h

  implied_at : (a : List Lexeme) (x : Expr) → IsDisjunction places D a x → (s : Stream) (z : Expr) (rest : Stream) (b : Bool) → b ≡ is (ahead s) marks.Implies → cond b (seen (λ y. joined operators.Implies (place_of s) x y) (down formula (place_of s)) (behind s)) (gives x s) ≡ Ok (z, rest) → Cut (IsExpression places D) (a ++> s) z rest
  implied_at a x l s z rest false e h = taken {X = Passed} (IsExpression places D) a (gives x s) x z s rest refl h (disjunction a x l)
  implied_at a x l (ends p) z rest true e h = cc
  implied_at a x l (breaks f) z rest true e h = cc
  implied_at a x l (more t s) z rest true e h =
      let c = sound_seen (λ y. joined operators.Implies t.start x y) (down formula t.start) (D formula) (deeper formula t.start) s z rest h in
      record { text = a ++ t ∷ c.text; is = ap (λ n. a ++> n) (ap (more t) c.is) ∙ sym (append_stream a (t ∷ c.text) rest); spells = from_implied t (sym e) c.text z c.spells }
    where
      from_implied : (t : Lexeme) → Is marks.Implies t → (ts : List Lexeme) (y : Expr) → Seen (λ y. joined operators.Implies t.start x y) (D formula) ts y → IsExpression places D (a ++ t ∷ ts) y
      from_implied t e ts y (behind_it b c w v d given) = rw append-nil (implication a b t x w l e d)

  pub expression_sound : Sound (expression_of places down) (IsExpression places D)
  unfolding expression_of
  expression_sound s z rest h =
      let p = split (disjunction_of places down) (implied down) s z rest h in
      let c = disjunction_sound s p.value p.middle p.first in
      let d = implied_at c.text p.value c.spells p.middle z rest (is (ahead p.middle) marks.Implies) refl p.second in
      record { text = d.text; is = c.is ∙ d.is; spells = d.spells }

pub below_sound : (places : Bool) (room : ℕ) (level : Level) (place : ℕ) → Sound (below places room level place) (Inside places room level)
unfolding below
below_sound places zero level place s x rest h = cc
below_sound places (suc room) formula place s x rest h = expression_sound places (below places room) (Inside places room) (below_sound places room) s x rest h
below_sound places (suc room) negated place s x rest h = negation_sound places (below places room) (Inside places room) (below_sound places room) s x rest h
below_sound places (suc room) signed place s x rest h = unary_sound places (below places room) (Inside places room) (below_sound places room) s x rest h
