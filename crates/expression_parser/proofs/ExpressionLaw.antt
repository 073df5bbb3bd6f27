-- The law of the readers of expressions.
use Rattle.std.proofs.Common.{◌≡◌, ℕ, zero, suc, ◌≤◌, Bool, true, false, cond, ◌&&◌, List, [], ◌∷◌, ◌++◌, Option, Some, None, Ok, inl, inr, refl, sym, ap, arith}
use Rattle.st_tokens.specs.declared.limit.LimitKind.TheVariants as limits
use Rattle.st_tokens.specs.Stream.{Lexeme, Stream, ends, breaks, more, behind}
use Rattle.st_reading.specs.declared.mark.Mark.{Mark}
use Rattle.st_reading.specs.declared.mark.Mark.TheVariants as marks
use Rattle.st_reading.specs.declared.sign.Sign.{Sign}
use Rattle.st_reading.specs.declared.sign.Sign.TheVariants as signs
use Rattle.st_reading.specs.Sign.{sign_of, is}
use Rattle.st_reading.specs.Faults.{Passed, passed}
use Rattle.st_reading.specs.Reading.{ahead, place_of, label_of, expected, named, gives, then_reads, Turn, leaves, goes, turned, on_operator, chain, size, only, listing}
use Rattle.st_reading.specs.Steady.{Viable, SteadyAt, Within, calmer, wider, anything}
use Rattle.st_reading.proofs.Streams.{follow_test}
use Rattle.st_reading.proofs.Spelled.{none_spelled, one_spelled}
use Rattle.st_reading.proofs.Steadiness.{at_choice, at_shift, at_stuck, at_one, at_gives}
use Rattle.st_reading.proofs.Soundness.{Shrinks}
use Rattle.st_reading.proofs.Shrinking.{left, shrinks_map}
use Rattle.st_reading.proofs.Streams.{behind_size}
use Rattle.st_reading.proofs.Chains.{chain_step}
use Rattle.st_reading.proofs.Lawful.{Lawful, Opens, opened, lawful_bind, lawful_gives, lawful_map, lawful_expected, lawful_named, lawful_chain, lawful_weak, viable_at}
use Rattle.expression_parser.specs.declared.raw.Operator.{Operator}
use Rattle.expression_parser.specs.declared.raw.Operator.TheVariants as operators
use Rattle.expression_parser.specs.declared.sign.Front.{Front}
use Rattle.expression_parser.specs.declared.sign.Front.TheVariants as fronts
use Rattle.expression_parser.specs.Signs.{front, product_sign, sum_sign, comparison_sign}
use Rattle.expression_parser.specs.ExpressionTree.{Expr, Exprs, Kind, node, numeral, truth, name, at, negation as negation_kind, negative, all, any, exprs, kind_of, start_of, joined}
use Rattle.expression_parser.specs.Calm.{calm}
use Rattle.expression_parser.specs.Reading.{Reader, Level, formula, negated, signed, Down, closing, seen, atom_of, unary_at, unary_of, grouping, grouped, product_of, sum_of, compared, comparison_of, negation_at, negation_of, chained, conjunction_of, disjunction_of, implied, expression_of, below}
use Rattle.expression_parser.proofs.Quiet.{quiet, product_calm, sum_calm, comparison_calm, zero_token, name_token, close_token, close_is, close_calm, name_calm, zero_calm, zero_spelled, name_spelled, close_spelled}
use Rattle.expression_parser.proofs.ExpressionShrinking.{unary_shrinks, negation_shrinks, implied_shrinks, below_shrinks, viable_level}

same_calm : Within calm calm
same_calm g h = h

bind_it : {I A B : Type 0} (r : Reader A) (p : I → Reader A) (q : A → Reader B) (u : I → A → Reader B) → Lawful calm calm r p → ((x : A) → Lawful calm calm (q x) (λ i. u i x)) → Lawful calm calm (then_reads r q) (λ i. then_reads (p i) (u i))
bind_it r p q u l m = lawful_bind calm calm calm calm same_calm r p q u (λ x. wider same_calm) (wider same_calm) (calmer same_calm) l m

map_it : {I A B : Type 0} (f : A → B) (r : Reader A) (p : I → Reader A) → Lawful calm calm r p → Lawful calm calm (then_reads r (λ x. gives (f x))) (λ i. then_reads (p i) (λ x. gives (f x)))
map_it f r p l = lawful_map calm calm same_calm f r p l

give_it : {I A : Type 0} (x : A) → Lawful {I = I} {X = Passed} calm calm (gives x) (λ i. gives x)
give_it x = lawful_gives calm calm x

chain_it : {I O B S : Type 0} (op : Sign → Option O) (calms : (g : Sign) → calm g ≡ true → op g ≡ None) (none : None ≡ op signs.Nothing)
    (turn : O → ℕ → S → Reader (Turn B S)) (turn2 : I → O → ℕ → S → Reader (Turn B S)) (finish : S → Reader B) (finish2 : I → S → Reader B)
    → ((o : O) (place : ℕ) (x : S) → Lawful calm calm (turn o place x) (λ i. turn2 i o place x)) → ((x : S) → Lawful calm calm (finish x) (λ i. finish2 i x))
    → (x : S) → Lawful calm calm (λ s. chain op turn finish (size s) x s) (λ i s. chain op (turn2 i) (finish2 i) (size s) x s)
chain_it op calms none turn turn2 finish finish2 l m x =
    lawful_chain calm calm calm same_calm same_calm op calms none turn turn2 finish finish2 (λ o place x. lawful_weak calm anything calm (λ g h. refl) (turn o place x) (λ i. turn2 i o place x) (l o place x)) m x

module _ {I A B : Type 0} (limit : Passed) (d : Reader A) (ds : I → Reader A) (k : A → Reader B) (k2 : I → A → Reader B) (law : (x : A) → Lawful calm calm (k x) (λ i. k2 i x)) where
  open_it : (r : Reader B) (p : I → Reader B) (t : Lexeme) (s : Stream) → ((after : Stream) → r (more t after) ≡ then_reads d k after) → ((i : I) (after : Stream) → p i (more t after) ≡ then_reads (ds i) (k2 i) after)
      → ((i : I) → Viable calm calm (p i) []) → Opens calm calm limit d ds → SteadyAt calm calm r p (more t s)
  open_it = opened calm calm calm calm calm same_calm limit d ds k k2 (λ x. wider same_calm) (wider same_calm) (calmer same_calm) law

lawful_closing : {I : Type 0} (place : ℕ) (x : Expr) → Lawful {I = I} calm calm (closing place x) (λ i. closing place x)
lawful_closing place x = map_it (λ m. node place (kind_of x)) (expected marks.Close) (λ i. expected marks.Close) (lawful_expected calm calm marks.Close close_token close_spelled close_is close_calm)

module _ {I : Type 0} (places : Bool) (down : Down) (downs : I → Down) (opens : (level : Level) (place : ℕ) → Opens calm calm (passed limits.Nesting place) (down level place) (λ i. downs i level place)) where
  atom : Reader Expr
  atom = atom_of places down

  atoms : I → Reader Expr
  atoms i = atom_of places (downs i)

  zero_read : (d : Down) (after : Stream) → atom_of places d (more zero_token after) ≡ Ok (node 0 (numeral 0), after)
  unfolding atom_of zero_token
  zero_read d after = refl

  viable_atom : (i : I) → Viable calm calm (atoms i) []
  unfolding atoms
  viable_atom i = record { others = zero_token ∷ []; spelled = one_spelled zero_token zero_spelled; value = node 0 (numeral 0); begins = λ n after h. zero_calm; reads = λ after h. zero_read (downs i) after }

  atom_front : (t : Lexeme) (s : Stream) (f : Front) → f ≡ front places (sign_of t) → SteadyAt calm calm atom atoms (more t s)
  unfolding atom atoms atom_of name_token
  atom_front t s (fronts.Numeral n) e = at_one calm calm atom atoms t (node t.start (numeral n)) s (λ after. rw (← e) refl) (λ i after. rw (← e) refl)
  atom_front t s (fronts.Truth b) e = at_one calm calm atom atoms t (node t.start (truth b)) s (λ after. rw (← e) refl) (λ i after. rw (← e) refl)
  atom_front t s fronts.Name e = at_one calm calm atom atoms t (node t.start (name (label_of t))) s (λ after. rw (← e) refl) (λ i after. rw (← e) refl)
  atom_front t s fronts.At e =
      at_shift calm calm calm atom (then_reads named (λ x. gives (node t.start (at x)))) atoms (λ i. then_reads named (λ x. gives (node t.start (at x)))) t s (λ after. rw (← e) refl) (λ i after. rw (← e) refl)
      ((map_it (λ x. node t.start (at x)) named (λ i. named) (lawful_named calm calm name_token name_spelled refl name_calm)).law s)
  atom_front t s fronts.Open e =
      open_it (passed limits.Nesting t.start) (down formula t.start) (λ i. downs i formula t.start) (closing t.start) (λ i. closing t.start) (lawful_closing t.start) atom atoms t s (λ after. rw (← e) refl) (λ i after. rw (← e) refl) viable_atom (opens formula t.start)
  atom_front t s _ e = at_stuck calm calm atom atoms (more t s) (λ after h. rw (h, ← e) refl) (λ i after h. rw (h, ← e) refl) viable_atom

  pub at_atom : (s : Stream) → SteadyAt calm calm (atom_of places down) (λ i. atom_of places (downs i)) s
  unfolding atom atoms atom_of
  at_atom (ends p) = at_stuck calm calm atom atoms (ends p) (λ after h. rw h refl) (λ i after h. rw h refl) viable_atom
  at_atom (breaks f) = at_stuck calm calm atom atoms (breaks f) (λ after h. rw h refl) (λ i after h. rw h refl) viable_atom
  at_atom (more t s) = atom_front t s (front places (sign_of t)) refl

abbrev pub minus_front : Front → Bool
minus_front fronts.Minus = true
minus_front _ = false

abbrev pub not_front : Front → Bool
not_front fronts.Not = true
not_front _ = false

minus_cases : (a b c e f : Bool) → minus_front (cond a (fronts.Truth true) (cond b (fronts.Truth false) (cond c fronts.Open (cond false fronts.Minus (cond e fronts.Not (cond f fronts.At fronts.Other)))))) ≡ false
minus_cases true b c e f = refl
minus_cases false true c e f = refl
minus_cases false false true e f = refl
minus_cases false false false true f = refl
minus_cases false false false false true = refl
minus_cases false false false false false = refl

not_cases : (a b c d f : Bool) → not_front (cond a (fronts.Truth true) (cond b (fronts.Truth false) (cond c fronts.Open (cond d fronts.Minus (cond false fronts.Not (cond f fronts.At fronts.Other)))))) ≡ false
not_cases true b c d f = refl
not_cases false true c d f = refl
not_cases false false true d f = refl
not_cases false false false true f = refl
not_cases false false false false true = refl
not_cases false false false false false = refl

minus_calm : (places : Bool) (g : Sign) → calm g ≡ true → minus_front (front places g) ≡ false
minus_calm places (signs.Numeral n) h = refl
minus_calm places signs.Name h = refl
minus_calm places signs.Other h = refl
minus_calm places signs.Nothing h = refl
minus_calm places (signs.Marked m) h =
    let e : is (signs.Marked m) marks.Minus ≡ false = quiet 2 (omega arith) (signs.Marked m) h in
    rw e (minus_cases (is (signs.Marked m) marks.True) (is (signs.Marked m) marks.False) (is (signs.Marked m) marks.Open) (is (signs.Marked m) marks.Not) (is (signs.Marked m) marks.At && places))

not_calm : (places : Bool) (g : Sign) → calm g ≡ true → not_front (front places g) ≡ false
not_calm places (signs.Numeral n) h = refl
not_calm places signs.Name h = refl
not_calm places signs.Other h = refl
not_calm places signs.Nothing h = refl
not_calm places (signs.Marked m) h =
    let e : is (signs.Marked m) marks.Not ≡ false = quiet 9 (omega arith) (signs.Marked m) h in
    rw e (not_cases (is (signs.Marked m) marks.True) (is (signs.Marked m) marks.False) (is (signs.Marked m) marks.Open) (is (signs.Marked m) marks.Minus) (is (signs.Marked m) marks.At && places))

unary_else : (places : Bool) (d : Down) (f : Front) (s : Stream) → minus_front f ≡ false → unary_at places d s f ≡ atom_of places d s
unary_else places d fronts.Minus s h = cc
unary_else places d _ s h = refl

negation_else : (places : Bool) (d : Down) (f : Front) (s : Stream) → not_front f ≡ false → negation_at places d s f ≡ comparison_of places d s
negation_else places d fronts.Not s h = cc
negation_else places d _ s h = refl

module _ {I : Type 0} (places : Bool) (down : Down) (downs : I → Down) (opens : (level : Level) (place : ℕ) → Opens calm calm (passed limits.Nesting place) (down level place) (λ i. downs i level place)) where
  unary : Reader Expr
  unary = unary_of places down

  unaries : I → Reader Expr
  unaries i = unary_of places (downs i)

  zero_unary : (d : Down) (after : Stream) → unary_of places d (more zero_token after) ≡ Ok (node 0 (numeral 0), after)
  unfolding unary_of atom_of zero_token
  zero_unary d after = refl

  viable_unary : (i : I) → Viable calm calm (unaries i) []
  unfolding unaries
  viable_unary i = record { others = zero_token ∷ []; spelled = one_spelled zero_token zero_spelled; value = node 0 (numeral 0); begins = λ n after h. zero_calm; reads = λ after h. zero_unary (downs i) after }

  unary_plain : (s : Stream) → minus_front (front places (ahead s)) ≡ false → SteadyAt calm calm unary unaries s
  unfolding unary unaries unary_of
  unary_plain s h =
      at_choice calm calm unary (atom_of places down) unaries (λ i. atom_of places (downs i)) s
      (λ after fol. unary_else places down (front places (ahead after)) after (follow_test calm (λ g. minus_front (front places g)) false (minus_calm places) s after h fol))
      (λ i after fol. unary_else places (downs i) (front places (ahead after)) after (follow_test calm (λ g. minus_front (front places g)) false (minus_calm places) s after h fol))
      (λ i after c. unary_else places (downs i) (front places (ahead after)) after (follow_test calm (λ g. minus_front (front places g)) false (minus_calm places) s after h (inr c)))
      (at_atom places down downs opens s)

  unary_front : (t : Lexeme) (s : Stream) (f : Front) → f ≡ front places (sign_of t) → SteadyAt calm calm unary unaries (more t s)
  unfolding unary unaries unary_of
  unary_front t s fronts.Minus e =
      open_it (passed limits.Nesting t.start) (down signed t.start) (λ i. downs i signed t.start) (λ x. gives (node t.start (negative t.start x))) (λ i x. gives (node t.start (negative t.start x))) (λ x. give_it (node t.start (negative t.start x)))
      unary unaries t s (λ after. rw (← e) refl) (λ i after. rw (← e) refl) viable_unary (opens signed t.start)
  unary_front t s _ e = unary_plain (more t s) (ap minus_front (sym e))

  pub at_unary : (s : Stream) → SteadyAt calm calm (unary_of places down) (λ i. unary_of places (downs i)) s
  unfolding unary unaries
  at_unary (ends p) = unary_plain (ends p) refl
  at_unary (breaks f) = unary_plain (breaks f) refl
  at_unary (more t s) = unary_front t s (front places (sign_of t)) refl

-- ITEMS AND OPERATORS
module _ {I : Type 0} (op : Sign → Option Operator) (calms : (g : Sign) → calm g ≡ true → op g ≡ None) (none : None ≡ op signs.Nothing) (item : Reader Expr) (items : I → Reader Expr) (lawful : Lawful calm calm item items) where
  pub lawful_grouped : Lawful calm calm (grouped op item) (λ i. grouped op (items i))
  lawful_grouped =
      bind_it item items (λ x s. chain op (grouping item) gives (size s) x s) (λ i x s. chain op (grouping (items i)) gives (size s) x s) lawful
      (chain_it op calms none (grouping item) (λ i. grouping (items i)) gives (λ i. gives) (λ o place x. map_it (λ y. goes (joined o place x y)) item items lawful) (λ x. give_it x))

module _ {I : Type 0} (item : Reader Expr) (items : I → Reader Expr) (lawful : Lawful calm calm item items) where
  lawful_compared : (x : Expr) → Lawful calm calm (compared item x) (λ i. compared (items i) x)
  lawful_compared x = record { law = at; one = shrinks item lawful.one; each = λ i. shrinks (items i) (lawful.each i) }
    where
      none_at : (s : Stream) → comparison_sign (ahead s) ≡ None → SteadyAt calm calm (compared item x) (λ i. compared (items i) x) s
      none_at s h =
          at_choice calm calm (compared item x) (gives x) (λ i. compared (items i) x) (λ i. gives x) s
          (λ after fol. let e = follow_test calm comparison_sign None comparison_calm s after h fol in rw e refl)
          (λ i after fol. let e = follow_test calm comparison_sign None comparison_calm s after h fol in rw e refl)
          (λ i after c. let e = follow_test calm comparison_sign None comparison_calm s after h (inr c) in rw e refl) (at_gives calm calm x s)

      at_operator : (t : Lexeme) (s : Stream) (o : Option Operator) → o ≡ comparison_sign (sign_of t) → SteadyAt calm calm (compared item x) (λ i. compared (items i) x) (more t s)
      at_operator t s None e = none_at (more t s) (sym e)
      at_operator t s (Some o) e =
          at_shift calm calm calm (compared item x) (seen (λ y. joined o t.start x y) item) (λ i. compared (items i) x) (λ i. seen (λ y. joined o t.start x y) (items i)) t s (λ after. rw (← e) refl) (λ i after. rw (← e) refl)
          ((map_it (λ y. joined o t.start x y) item items lawful).law s)

      at : (s : Stream) → SteadyAt calm calm (compared item x) (λ i. compared (items i) x) s
      at (ends p) = none_at (ends p) refl
      at (breaks f) = none_at (breaks f) refl
      at (more t s) = at_operator t s (comparison_sign (sign_of t)) refl

      shrinks_at : (r : Reader Expr) → Shrinks r → (s : Stream) (y : Expr) (rest : Stream) (o : Option Operator) → on_operator o (gives {X = Passed} x s) (λ o. seen (λ y. joined o (place_of s) x y) r (behind s)) ≡ Ok (y, rest) → size rest ≤ size s
      shrinks_at r sh s y rest None h = left {X = Passed} x y s rest h
      shrinks_at r sh s y rest (Some o) h = let k = shrinks_map (λ y. joined o (place_of s) x y) r sh (behind s) y rest h in omega (arith, k, behind_size s)

      shrinks : (r : Reader Expr) → Shrinks r → Shrinks (compared r x)
      shrinks r sh s y rest h = shrinks_at r sh s y rest (comparison_sign (ahead s)) h

-- item { mark item }
module _ {I : Type 0} (wrap : Exprs → Kind) (mark : Mark) (calms : (g : Sign) → calm g ≡ true → is g mark ≡ false) (item : Reader Expr) (items : I → Reader Expr) (lawful : Lawful calm calm item items) where
  only_none : (g : Sign) → calm g ≡ true → only mark g ≡ None
  only_none g h = let e = calms g h in rw e refl

  -- behind the first mark
  abbrev tail : Reader Expr → Expr → Reader Expr
  tail r x s = chain (only mark) (listing r) (λ xs. gives (node (start_of x) (wrap (exprs xs)))) (size s) (x ∷ []) s

  lawful_tail : (x : Expr) → Lawful calm calm (tail item x) (λ i. tail (items i) x)
  lawful_tail x =
      chain_it (only mark) only_none refl (listing item) (λ i. listing (items i)) (λ xs. gives (node (start_of x) (wrap (exprs xs)))) (λ i xs. gives (node (start_of x) (wrap (exprs xs))))
      (λ o place xs. map_it (λ y. goes (xs ++ y ∷ [])) item items lawful) (λ xs. give_it (node (start_of x) (wrap (exprs xs)))) (x ∷ [])

  module _ (x : Expr) where
    abbrev rest : Reader Expr → List Expr → Reader Expr
    rest r xs s = chain (only mark) (listing r) (λ xs. gives (node (start_of x) (wrap (exprs xs)))) (size s) xs s

    lawful_rest : (y : Turn Expr (List Expr)) → Lawful calm calm (turned (rest item) y) (λ i. turned (rest (items i)) y)
    lawful_rest (leaves b) = give_it b
    lawful_rest (goes xs) =
        chain_it (only mark) only_none refl (listing item) (λ i. listing (items i)) (λ xs. gives (node (start_of x) (wrap (exprs xs)))) (λ i xs. gives (node (start_of x) (wrap (exprs xs))))
        (λ o place xs. map_it (λ y. goes (xs ++ y ∷ [])) item items lawful) (λ xs. give_it (node (start_of x) (wrap (exprs xs)))) xs

    step : (r : Reader Expr) → Shrinks r → (t : Lexeme) (s : Stream) → is (sign_of t) mark ≡ true → chained wrap mark r x (more t s) ≡ then_reads (listing r tt t.start (x ∷ [])) (turned (rest r)) s
    step r sh t s e =
        let some : only mark (sign_of t) ≡ Some tt = rw e refl in
        rw e (chain_step (only mark) refl (listing r) (λ xs. gives (node (start_of x) (wrap (exprs xs)))) (λ o place xs. shrinks_map (λ y. goes (xs ++ y ∷ [])) r sh) t tt (x ∷ []) s some)

  lawful_chained : (x : Expr) → Lawful calm calm (chained wrap mark item x) (λ i. chained wrap mark (items i) x)
  lawful_chained x = record { law = at; one = shrinks item (lawful_tail x).one; each = λ i. shrinks (items i) ((lawful_tail x).each i) }
    where
      none_at : (s : Stream) → is (ahead s) mark ≡ false → SteadyAt calm calm (chained wrap mark item x) (λ i. chained wrap mark (items i) x) s
      none_at s h =
          at_choice calm calm (chained wrap mark item x) (gives x) (λ i. chained wrap mark (items i) x) (λ i. gives x) s
          (λ after fol. let e = follow_test calm (λ g. is g mark) false calms s after h fol in rw e refl)
          (λ i after fol. let e = follow_test calm (λ g. is g mark) false calms s after h fol in rw e refl)
          (λ i after c. let e = follow_test calm (λ g. is g mark) false calms s after h (inr c) in rw e refl) (at_gives calm calm x s)

      viable : (i : I) → Viable calm calm (chained wrap mark (items i) x) []
      viable i = record { others = []; spelled = none_spelled; value = x; begins = λ n after c. c; reads = λ after c. let e = calms (ahead after) c in rw e refl }

      at_mark : (t : Lexeme) (s : Stream) → is (sign_of t) mark ≡ true → SteadyAt calm calm (chained wrap mark item x) (λ i. chained wrap mark (items i) x) (more t s)
      at_mark t s e =
          at_shift calm calm calm (chained wrap mark item x) (then_reads (listing item tt t.start (x ∷ [])) (turned (rest x item))) (λ i. chained wrap mark (items i) x) (λ i. then_reads (listing (items i) tt t.start (x ∷ [])) (turned (rest x (items i)))) t s
          (λ after. step x item lawful.one t after e) (λ i after. step x (items i) (lawful.each i) t after e)
          ((bind_it (listing item tt t.start (x ∷ [])) (λ i. listing (items i) tt t.start (x ∷ [])) (turned (rest x item)) (λ i. turned (rest x (items i)))
          (map_it (λ y. goes ((x ∷ []) ++ y ∷ [])) item items lawful) (lawful_rest x)).law s)

      at_test : (t : Lexeme) (s : Stream) (b : Bool) → b ≡ is (sign_of t) mark → SteadyAt calm calm (chained wrap mark item x) (λ i. chained wrap mark (items i) x) (more t s)
      at_test t s false e = none_at (more t s) (sym e)
      at_test t s true e = at_mark t s (sym e)

      at : (s : Stream) → SteadyAt calm calm (chained wrap mark item x) (λ i. chained wrap mark (items i) x) s
      at (ends p) = none_at (ends p) refl
      at (breaks f) = none_at (breaks f) refl
      at (more t s) = at_test t s (is (sign_of t) mark) refl

      shrinks_at : (r : Reader Expr) → Shrinks (tail r x) → (s : Stream) (y : Expr) (rest : Stream) (b : Bool) → cond b (tail r x s) (gives {X = Passed} x s) ≡ Ok (y, rest) → size rest ≤ size s
      shrinks_at r sh s y rest true h = sh s y rest h
      shrinks_at r sh s y rest false h = left {X = Passed} x y s rest h

      shrinks : (r : Reader Expr) → Shrinks (tail r x) → Shrinks (chained wrap mark r x)
      shrinks r sh s y rest h = shrinks_at r sh s y rest (is (ahead s) mark) h

-- THE READERS OF EXPRESSIONS, ONE BY ONE
module _ {I : Type 0} (places : Bool) (down : Down) (downs : I → Down) (opens : (level : Level) (place : ℕ) → Opens calm calm (passed limits.Nesting place) (down level place) (λ i. downs i level place))
    (one : (level : Level) (place : ℕ) → Shrinks (down level place)) (each : (i : I) (level : Level) (place : ℕ) → Shrinks (downs i level place)) where
  pub lawful_unary : Lawful calm calm (unary_of places down) (λ i. unary_of places (downs i))
  lawful_unary = record { law = at_unary places down downs opens; one = unary_shrinks places down one; each = λ i. unary_shrinks places (downs i) (each i) }

  pub lawful_product : Lawful calm calm (product_of places down) (λ i. product_of places (downs i))
  unfolding product_of
  lawful_product = lawful_grouped product_sign product_calm refl (unary_of places down) (λ i. unary_of places (downs i)) lawful_unary

  pub lawful_sum : Lawful calm calm (sum_of places down) (λ i. sum_of places (downs i))
  unfolding sum_of
  lawful_sum = lawful_grouped sum_sign sum_calm refl (product_of places down) (λ i. product_of places (downs i)) lawful_product

  pub lawful_comparison : Lawful calm calm (comparison_of places down) (λ i. comparison_of places (downs i))
  unfolding comparison_of
  lawful_comparison =
      bind_it (sum_of places down) (λ i. sum_of places (downs i)) (compared (sum_of places down)) (λ i. compared (sum_of places (downs i))) lawful_sum
      (lawful_compared (sum_of places down) (λ i. sum_of places (downs i)) lawful_sum)

  negation : Reader Expr
  negation = negation_of places down

  negations : I → Reader Expr
  negations i = negation_of places (downs i)

  negation_plain : (s : Stream) → not_front (front places (ahead s)) ≡ false → SteadyAt calm calm negation negations s
  unfolding negation negations negation_of
  negation_plain s h =
      at_choice calm calm negation (comparison_of places down) negations (λ i. comparison_of places (downs i)) s
      (λ after fol. negation_else places down (front places (ahead after)) after (follow_test calm (λ g. not_front (front places g)) false (not_calm places) s after h fol))
      (λ i after fol. negation_else places (downs i) (front places (ahead after)) after (follow_test calm (λ g. not_front (front places g)) false (not_calm places) s after h fol))
      (λ i after c. negation_else places (downs i) (front places (ahead after)) after (follow_test calm (λ g. not_front (front places g)) false (not_calm places) s after h (inr c)))
      (lawful_comparison.law s)

  viable_negation : (i : I) → Viable calm calm (negations i) []
  viable_negation i = viable_at calm calm negation (wider same_calm) negations i (negation_plain (ends 0) refl)

  negation_front : (t : Lexeme) (s : Stream) (f : Front) → f ≡ front places (sign_of t) → SteadyAt calm calm negation negations (more t s)
  unfolding negation negations negation_of
  negation_front t s fronts.Not e =
      open_it (passed limits.Nesting t.start) (down negated t.start) (λ i. downs i negated t.start) (λ x. gives (node t.start (negation_kind x))) (λ i x. gives (node t.start (negation_kind x))) (λ x. give_it (node t.start (negation_kind x)))
      negation negations t s (λ after. rw (← e) refl) (λ i after. rw (← e) refl) viable_negation (opens negated t.start)
  negation_front t s _ e = negation_plain (more t s) (ap not_front (sym e))

  at_negation : (s : Stream) → SteadyAt calm calm negation negations s
  at_negation (ends p) = negation_plain (ends p) refl
  at_negation (breaks f) = negation_plain (breaks f) refl
  at_negation (more t s) = negation_front t s (front places (sign_of t)) refl

  pub lawful_negation : Lawful calm calm (negation_of places down) (λ i. negation_of places (downs i))
  unfolding negation negations
  lawful_negation = record { law = at_negation; one = negation_shrinks places down one lawful_comparison.one; each = λ i. negation_shrinks places (downs i) (each i) (lawful_comparison.each i) }

  pub lawful_conjunction : Lawful calm calm (conjunction_of places down) (λ i. conjunction_of places (downs i))
  unfolding conjunction_of
  lawful_conjunction =
      bind_it (negation_of places down) (λ i. negation_of places (downs i)) (chained all marks.And (negation_of places down)) (λ i. chained all marks.And (negation_of places (downs i))) lawful_negation
      (lawful_chained all marks.And (quiet 10 (omega arith)) (negation_of places down) (λ i. negation_of places (downs i)) lawful_negation)

  pub lawful_disjunction : Lawful calm calm (disjunction_of places down) (λ i. disjunction_of places (downs i))
  unfolding disjunction_of
  lawful_disjunction =
      bind_it (conjunction_of places down) (λ i. conjunction_of places (downs i)) (chained any marks.Or (conjunction_of places down)) (λ i. chained any marks.Or (conjunction_of places (downs i))) lawful_conjunction
      (lawful_chained any marks.Or (quiet 11 (omega arith)) (conjunction_of places down) (λ i. conjunction_of places (downs i)) lawful_conjunction)

  module _ (x : Expr) where
    implied_none : (s : Stream) → is (ahead s) marks.Implies ≡ false → SteadyAt calm calm (implied down x) (λ i. implied (downs i) x) s
    implied_none s h =
        at_choice calm calm (implied down x) (gives x) (λ i. implied (downs i) x) (λ i. gives x) s
        (λ after fol. let e = follow_test calm (λ g. is g marks.Implies) false (quiet 12 (omega arith)) s after h fol in rw e refl)
        (λ i after fol. let e = follow_test calm (λ g. is g marks.Implies) false (quiet 12 (omega arith)) s after h fol in rw e refl)
        (λ i after c. let e = follow_test calm (λ g. is g marks.Implies) false (quiet 12 (omega arith)) s after h (inr c) in rw e refl) (at_gives calm calm x s)

    implied_test : (t : Lexeme) (s : Stream) (b : Bool) → b ≡ is (sign_of t) marks.Implies → SteadyAt calm calm (implied down x) (λ i. implied (downs i) x) (more t s)
    implied_test t s false e = implied_none (more t s) (sym e)
    implied_test t s true e =
        open_it (passed limits.Nesting t.start) (down formula t.start) (λ i. downs i formula t.start) (λ y. gives (joined operators.Implies t.start x y)) (λ i y. gives (joined operators.Implies t.start x y)) (λ y. give_it (joined operators.Implies t.start x y))
        (implied down x) (λ i. implied (downs i) x) t s (λ after. rw (← e) refl) (λ i after. rw (← e) refl) (λ i. viable_at calm calm (implied down x) (wider same_calm) (λ i. implied (downs i) x) i (implied_none (ends 0) refl)) (opens formula t.start)

    at_implied : (s : Stream) → SteadyAt calm calm (implied down x) (λ i. implied (downs i) x) s
    at_implied (ends p) = implied_none (ends p) refl
    at_implied (breaks f) = implied_none (breaks f) refl
    at_implied (more t s) = implied_test t s (is (sign_of t) marks.Implies) refl

    lawful_implied : Lawful calm calm (implied down x) (λ i. implied (downs i) x)
    lawful_implied = record { law = at_implied; one = implied_shrinks x down one; each = λ i. implied_shrinks x (downs i) (each i) }

  pub lawful_expression : Lawful calm calm (expression_of places down) (λ i. expression_of places (downs i))
  unfolding expression_of
  lawful_expression = bind_it (disjunction_of places down) (λ i. disjunction_of places (downs i)) (implied down) (λ i. implied (downs i)) lawful_disjunction lawful_implied

-- WITH ANY NUMBER OF LEVELS, BESIDE ANY LARGER NUMBER
abbrev pub larger : ℕ → ℕ → ℕ
larger zero i = suc i
larger (suc room) i = suc (larger room i)

pub level_opens : (places : Bool) (room : ℕ) (level : Level) (place : ℕ) → Opens calm calm (passed limits.Nesting place) (below places room level place) (λ i. below places (larger room i) level place)
unfolding below
level_opens places zero level place = inl (λ s. refl, λ i. viable_level places i level place)
level_opens places (suc room) formula place =
    inr (λ s. (lawful_expression places (below places room) (λ i. below places (larger room i)) (level_opens places room) (below_shrinks places room) (λ i. below_shrinks places (larger room i))).law s)
level_opens places (suc room) negated place =
    inr (λ s. (lawful_negation places (below places room) (λ i. below places (larger room i)) (level_opens places room) (below_shrinks places room) (λ i. below_shrinks places (larger room i))).law s)
level_opens places (suc room) signed place =
    inr (λ s. (lawful_unary places (below places room) (λ i. below places (larger room i)) (level_opens places room) (below_shrinks places room) (λ i. below_shrinks places (larger room i))).law s)

-- an expression with that many levels, beside any larger number of levels
pub lawful_formula : (places : Bool) (room : ℕ) → Lawful calm calm (λ s. expression_of places (below places room) s) (λ i s. expression_of places (below places (larger room i)) s)
lawful_formula places room = lawful_expression places (below places room) (λ i. below places (larger room i)) (level_opens places room) (below_shrinks places room) (λ i. below_shrinks places (larger room i))
