-- Readers that don't refuse a token directly behind what they can read: there they stop, or go on over it.
use Rattle.std.proofs.Common.{◌≡◌, ℕ, zero, suc, ◌+◌, ◌≤◌, Bool, true, false, cond, List, [], ◌∷◌, ◌++◌, length, length-append, Option, Some, None, Ok, Err, inl, inr, refl, sym, ap, subst, ◌∙◌, arith, append-nil}
use Rattle.std.specs.Prelude.{Result}
use Rattle.st_tokens.specs.Stream.{◌++>◌, Lexeme, Stream, ends, breaks, more}
use Rattle.st_reading.specs.declared.mark.Mark.{Mark}
use Rattle.st_reading.specs.declared.sign.Sign.{Sign}
use Rattle.st_reading.specs.declared.sign.Sign.TheVariants as signs
use Rattle.st_reading.specs.Sign.{sign_of, is}
use Rattle.st_reading.specs.Reading.{Stop, syntax, broken, other, Read, ahead, size, refusal, expected, named, is_name, gives, then_reads, Turn, leaves, goes, turned, chain}
use Rattle.st_reading.specs.Steady.{head, token, Follows, Viable, Cause, refused, over, SteadyAt, both, stops}
use Rattle.st_reading.proofs.Streams.{append_stream, more_parts}
use Rattle.st_reading.proofs.Soundness.{Shrinks, split, values}
use Rattle.st_reading.proofs.Shrinking.{shrinks_map}
use Rattle.st_reading.proofs.Steadiness.{bind_ok, bind_err}
use Rattle.st_reading.proofs.Stops.{Compared, shorter, longer, compare}
use Rattle.st_reading.proofs.Chains.{chain_none, chain_step}
use Rattle.st_reading.proofs.Lawful.{Lawful, lawful_map}
use Rattle.st_reading.proofs.Judging.{Reader}

pub same_fault : {X A : Type 0} (o : Read X A) (f g : Stop X) → o ≡ Err f → o ≡ Err g → f ≡ g
same_fault o f g h k = cc

pub not_both : {X A : Type 0} (o : Read X A) (x : A × Stream) (f : Stop X) → o ≡ Ok x → o ≡ Err f → ⊥
not_both o x f h k = absurd cc

same_place : {X : Type 0} (f : Stop X) (p q : ℕ) → f ≡ syntax p → f ≡ syntax q → p ≡ q
same_place f p q h k = cc

-- What is read up to the text's end, of at most n tokens, isn't refused before a token.
abbrev pub Greedy : {X A : Type 0} → ℕ → Reader X A → Type 0
Greedy {X} {A} n r = (ts : List Lexeme) (x : A) (d : Lexeme) (place : ℕ) → length ts ≤ n → r (ts ++> ends 0) ≡ Ok (x, ends 0) → ((m : Stream) → r (ts ++> more d m) ≡ Err (syntax place)) → ⊥

-- Nothing is read at a text's end, and a refusal there names it.
pub record Needs {X A : Type 0} (r : Reader X A) : Type 0 where
  pub fault : ℕ → Stop X
  pub refuses : (e : ℕ) → r (ends e) ≡ Err (fault e)
  pub names : (e place : ℕ) → fault e ≡ syntax place → place ≡ e

-- a calm text is read to its end
pub record Reaches {X A : Type 0} (calm : Sign → Bool) (r : Reader X A) : Type 0 where
  pub text : List Lexeme
  pub calms : calm (ahead (text ++> ends 0)) ≡ true
  pub value : A
  pub reads : r (text ++> ends 0) ≡ Ok (value, ends 0)

-- what needs a token isn't refused alike at two ends
pub two_ends : {X A : Type 0} (r : Reader X A) → Needs r → (place : ℕ) → ((e : ℕ) → r (ends e) ≡ Err (syntax place)) → ⊥
two_ends r needs place h =
    let at : (e : ℕ) → place ≡ e = λ e. needs.names e place (same_fault (r (ends e)) (needs.fault e) (syntax place) (needs.refuses e) (h e)) in
    absurd (omega (arith, at 0, at 1))

pub needs_bind : {X A B : Type 0} (r : Reader X A) (q : A → Reader X B) → Needs r → Needs (then_reads r q)
needs_bind r q needs = record { fault = needs.fault; refuses = λ e. bind_err r q (ends e) (needs.fault e) (needs.refuses e); names = needs.names }

pub needs_refusal : {X A : Type 0} (r : Reader X A) → ((e : ℕ) → r (ends e) ≡ Err (syntax e)) → Needs r
needs_refusal r h = record { fault = λ e. syntax e; refuses = h; names = λ e place k. same_place (syntax e) place e k refl }

-- LEAVES
pub greedy_gives : {X A : Type 0} (n : ℕ) (y : A) → Greedy {X = X} n (gives y)
greedy_gives {X} n y ts x d place le h no_more = not_both {X = X} (gives y (ts ++> more d (ends 0))) (y, ts ++> more d (ends 0)) (syntax place) refl (no_more (ends 0))

pub greedy_expected : {X : Type 0} (n : ℕ) (mark : Mark) → Greedy {X = X} n (expected mark)
greedy_expected n mark [] x d place le h no_more = absurd cc
greedy_expected {X} n mark (t ∷ ts) x d place le h no_more = at_test (is (sign_of t) mark) refl
  where
    at_test : (b : Bool) → is (sign_of t) mark ≡ b → ⊥
    at_test true e = not_both {X = X} (expected mark (more t (ts ++> more d (ends 0)))) (t.start, ts ++> more d (ends 0)) (syntax place) (rw e refl) (no_more (ends 0))
    at_test false e = not_both {X = X} (expected mark (more t (ts ++> ends 0))) (x, ends 0) (syntax t.start) h (rw e refl)

pub greedy_named : {X : Type 0} (n : ℕ) → Greedy {X = X} n named
greedy_named n [] x d place le h no_more = absurd cc
greedy_named {X} n (t ∷ ts) x d place le h no_more = at_test (is_name (sign_of t)) refl
  where
    at_test : (b : Bool) → is_name (sign_of t) ≡ b → ⊥
    at_test true e = not_both {X = X} (named (more t (ts ++> more d (ends 0)))) (record { text = t.text; place = t.start }, ts ++> more d (ends 0)) (syntax place) (rw e refl) (no_more (ends 0))
    at_test false e = not_both {X = X} (named (more t (ts ++> ends 0))) (x, ends 0) (syntax t.start) h (rw e refl)

-- WHAT IS MADE OF A VALUE
pub greedy_map : {X A B : Type 0} (n : ℕ) (f : A → B) (r : Reader X A) → Greedy n r → Greedy n (then_reads r (λ x. gives (f x)))
greedy_map {X} {A} {B} n f r greedy ts x d place le h no_more =
    let p = split r (λ x. gives (f x)) (ts ++> ends 0) x (ends 0) h in
    let v = values {X = X} (gives (f p.value) p.middle) (f p.value) x p.middle (ends 0) refl p.second in
    greedy ts p.value d place le (p.first ∙ ap (λ m. Ok (p.value, m)) v.1) (λ m. at_read m (r (ts ++> more d m)) refl (no_more m))
  where
    at_read : (m : Stream) (o : Read X A) → r (ts ++> more d m) ≡ o → then_reads r (λ x. gives (f x)) (ts ++> more d m) ≡ Err (syntax place) → r (ts ++> more d m) ≡ Err (syntax place)
    at_read m (Ok y) e k = absurd (not_both (then_reads r (λ x. gives (f x)) (ts ++> more d m)) (f y.0, y.1) (syntax place) (bind_ok r (λ x. gives (f x)) (ts ++> more d m) y.0 y.1 e) k)
    at_read m (Err g) e k = e ∙ ap Err (same_fault (then_reads r (λ x. gives (f x)) (ts ++> more d m)) g (syntax place) (bind_err r (λ x. gives (f x)) (ts ++> more d m) g e) k)

-- ONE BEHIND ANOTHER
one_more : (ts us : List Lexeme) (d u : Lexeme) (c : List Lexeme) (e : ℕ) (rest : Stream) → us ≡ ts ++ u ∷ c → more d (ends e) ≡ more u (c ++> rest) → (us ≡ ts ++ d ∷ []) × (rest ≡ ends e)
one_more ts us d u [] e rest h k = let m = more_parts d u (ends e) rest k in (h ∙ ap (λ w. ts ++ w ∷ []) (sym m.0), sym m.1)
one_more ts us d u (v ∷ c) e rest h k = let m = more_parts d u (ends e) (more v (c ++> rest)) k in let bad : ends e ≡ more v (c ++> rest) = m.1 in absurd cc

module _ {I X A B : Type 0} (calm : Sign → Bool) (quiet : calm signs.Nothing ≡ true) (r : Reader X A) (p : I → Reader X A) (law : (s : Stream) → SteadyAt calm calm r p s) (q : A → Reader X B) (reaches : (y : A) → Reaches calm (q y)) (n : ℕ) (greedy1 : Greedy n r) (greedy2 : (y : A) → Greedy n (q y)) where
  module _ (ts : List Lexeme) (x : B) (d : Lexeme) (place : ℕ) (le : length ts ≤ n) (no_more : (m : Stream) → then_reads r q (ts ++> more d m) ≡ Err (syntax place)) where
    behind_it : (y : A) (m k : Stream) → r (ts ++> more d m) ≡ Ok (y, k) → q y k ≡ Err (syntax place)
    behind_it y m k h = sym (bind_ok r q (ts ++> more d m) y k h) ∙ no_more m

    -- the second reads some of the tokens
    inside : (us : List Lexeme) (u : Lexeme) (c : List Lexeme) (y : A) → ts ≡ us ++ u ∷ c → ((after : Stream) → head after ≡ token u → r (us ++> after) ≡ Ok (y, after)) → q y (more u (c ++> ends 0)) ≡ Ok (x, ends 0) → ⊥
    inside us u c y e go h =
        greedy2 y (u ∷ c) x d place (omega (arith, ap length e, length-append us (u ∷ c), le)) h
        (λ m. behind_it y m (more u (c ++> more d m)) (ap (λ (z : List Lexeme). r (z ++> more d m)) e ∙ ap r (append_stream us (u ∷ c) (more d m)) ∙ go (more u (c ++> more d m)) refl))

    -- the first reads them all
    module _ (y : A) (read : r (ts ++> ends 0) ≡ Ok (y, ends 0)) (read2 : q y (ends 0) ≡ Ok (x, ends 0)) (e : ℕ) where
      read_on : (us : List Lexeme) (y2 : A) (rest : Stream) → ((after : Stream) → Follows calm rest after → r (us ++> after) ≡ Ok (y2, after)) → Compared us ts rest (more d (ends e)) → ⊥
      read_on us y2 rest go (shorter [] e1 k) =
          let same : ts ≡ us = e1 ∙ append-nil us in
          let v = values (r (ts ++> ends 0)) y2 y (ends 0) (ends 0) (ap (λ (z : List Lexeme). r (z ++> ends 0)) same ∙ go (ends 0) (inr quiet)) read in
          greedy2 y [] x d place (omega arith) read2
          (λ m. behind_it y m (more d m) (ap (λ (z : List Lexeme). r (z ++> more d m)) same ∙ go (more d m) (inl (sym (ap head k))) ∙ ap (λ z. Ok (z, more d m)) v.0))
      read_on us y2 rest go (shorter (u ∷ c) e1 k) =
          let one : r (ts ++> ends 0) ≡ Ok (y2, more u (c ++> ends 0)) = ap (λ (z : List Lexeme). r (z ++> ends 0)) e1 ∙ ap r (append_stream us (u ∷ c) (ends 0)) ∙ go (more u (c ++> ends 0)) (inl (sym (ap head k))) in
          let v = values (r (ts ++> ends 0)) y y2 (ends 0) (more u (c ++> ends 0)) read one in
          let bad : ends 0 ≡ more u (c ++> ends 0) = v.1 in
          absurd cc
      read_on us y2 rest go (longer u c e1 k) =
          let one = one_more ts us d u c e rest e1 k in
          let o = reaches y2 in
          let after : Stream = o.text ++> ends 0 in
          let over_it : r (ts ++> more d (o.text ++> ends 0)) ≡ Ok (y2, o.text ++> ends 0) = ap r (sym (append_stream ts (d ∷ []) (o.text ++> ends 0))) ∙ ap (λ (z : List Lexeme). r (z ++> (o.text ++> ends 0))) (sym one.0) ∙ go (o.text ++> ends 0) (inr o.calms) in
          not_both (q y2 (o.text ++> ends 0)) (o.value, ends 0) (syntax place) o.reads (behind_it y2 (o.text ++> ends 0) (o.text ++> ends 0) over_it)

      at_cause : (f : Stop X) (us : List Lexeme) (rest : Stream) → f ≡ syntax place → rest ≡ ends e → Cause calm calm p us f rest → place ≡ e
      at_cause f us rest e1 e2 (refused e3 each) = same_place f place e e1 (e3 ∙ ap refusal e2)
      at_cause f us rest e1 e2 (over z t after e3 next v) = let bad : ends e ≡ more t after = sym e2 ∙ next in absurd cc

      stopped : (us : List Lexeme) (f : Stop X) (rest : Stream) → ((after : Stream) → head after ≡ head rest → r (us ++> after) ≡ Err f) → Cause calm calm p us f rest → Compared us ts rest (more d (ends e)) → place ≡ e
      stopped us f rest same cause (shorter [] e1 k) =
          let is_us : ts ≡ us = e1 ∙ append-nil us in
          let no_read : (m : Stream) → r (ts ++> more d m) ≡ Err f = λ m. ap (λ (z : List Lexeme). r (z ++> more d m)) is_us ∙ same (more d m) (sym (ap head k)) in
          let e2 : f ≡ syntax place = same_fault (then_reads r q (ts ++> more d (ends e))) f (syntax place) (bind_err r q (ts ++> more d (ends e)) f (no_read (ends e))) (no_more (ends e)) in
          absurd (greedy1 ts y d place le read (λ m. no_read m ∙ ap Err e2))
      stopped us f rest same cause (shorter (u ∷ c) e1 k) =
          absurd (not_both (r (ts ++> ends 0)) (y, ends 0) f read (ap (λ (z : List Lexeme). r (z ++> ends 0)) e1 ∙ ap r (append_stream us (u ∷ c) (ends 0)) ∙ same (more u (c ++> ends 0)) (sym (ap head k))))
      stopped us f rest same cause (longer u c e1 k) =
          let one = one_more ts us d u c e rest e1 k in
          let no_read : r (ts ++> more d (ends e)) ≡ Err f = ap r (sym (append_stream ts (d ∷ []) (ends e))) ∙ ap (λ (z : List Lexeme). r (z ++> ends e)) (sym one.0) ∙ same (ends e) (sym (ap head one.1)) in
          let e2 : f ≡ syntax place = same_fault (then_reads r q (ts ++> more d (ends e))) f (syntax place) (bind_err r q (ts ++> more d (ends e)) f no_read) (no_more (ends e)) in
          at_cause f us rest e2 one.1 cause

      at_end : place ≡ e
      at_end = at_law (law (ts ++> more d (ends e)))
        where
          at_law : SteadyAt calm calm r p (ts ++> more d (ends e)) → place ≡ e
          at_law (both us y2 rest is go go2) = absurd (read_on us y2 rest go (compare us ts rest (more d (ends e)) (sym is)))
          at_law (stops us f rest is same v cause) = stopped us f rest same cause (compare us ts rest (more d (ends e)) (sym is))

    whole_first : (y : A) → r (ts ++> ends 0) ≡ Ok (y, ends 0) → q y (ends 0) ≡ Ok (x, ends 0) → ⊥
    whole_first y read read2 = absurd (omega (arith, at_end y read read2 0, at_end y read read2 1))

    at_split : (y : A) (middle : Stream) → r (ts ++> ends 0) ≡ Ok (y, middle) → q y middle ≡ Ok (x, ends 0) → ⊥
    at_split y middle first second = at_law (law (ts ++> ends 0))
      where
        at_compared : (us : List Lexeme) (y2 : A) (rest : Stream) → ts ++> ends 0 ≡ us ++> rest → ((after : Stream) → Follows calm rest after → r (us ++> after) ≡ Ok (y2, after)) → Compared us ts rest (ends 0) → ⊥
        at_compared us y2 rest is go (shorter [] e1 k) =
            let v = values (r (ts ++> ends 0)) y2 y rest middle (ap r is ∙ go rest (inl refl)) first in
            let m : middle ≡ ends 0 = sym v.1 ∙ k in
            whole_first y (first ∙ ap (λ z. Ok (y, z)) m) (ap (q y) (sym m) ∙ second)
        at_compared us y2 rest is go (shorter (u ∷ c) e1 k) =
            let v = values (r (ts ++> ends 0)) y2 y rest middle (ap r is ∙ go rest (inl refl)) first in
            inside us u c y e1 (λ after h. go after (inl (h ∙ sym (ap head k))) ∙ ap (λ z. Ok (z, after)) v.0) (ap (q y) (sym k ∙ v.1) ∙ second)
        at_compared us y2 rest is go (longer u c e1 k) = absurd cc

        at_law : SteadyAt calm calm r p (ts ++> ends 0) → ⊥
        at_law (both us y2 rest is go go2) = at_compared us y2 rest is go (compare us ts rest (ends 0) (sym is))
        at_law (stops us f rest is same v cause) = not_both (r (ts ++> ends 0)) (y, middle) f first (ap r is ∙ same rest refl)

  pub greedy_bind : Greedy n (then_reads r q)
  greedy_bind ts x d place le h no_more =
      let s = split r q (ts ++> ends 0) x (ends 0) h in
      at_split ts x d place le no_more s.value s.middle s.first s.second

-- A CHAIN
module _ {I X O S Y B : Type 0} (calm : Sign → Bool) (quiet : calm signs.Nothing ≡ true) (op : Sign → Option O) (none : None ≡ op signs.Nothing) (item : Reader X Y) (items : I → Reader X Y) (lawful : Lawful calm calm item items) (needs : Needs item) (greedy : (n : ℕ) → Greedy n item)
    (k : O → ℕ → S → Y → S) (g : S → B) where
  abbrev turn : O → ℕ → S → Reader X (Turn B S)
  turn o place x = then_reads item (λ y. gives (goes (k o place x y)))

  abbrev finish : S → Reader X B
  finish x = gives (g x)

  abbrev loop : S → Reader X B
  loop x s = chain op turn finish (size s) x s

  shrinks : (o : O) (place : ℕ) (x : S) → Shrinks (turn o place x)
  shrinks o place x = shrinks_map (λ y. goes (k o place x y)) item lawful.one

  turn_law : (o : O) (place : ℕ) (x : S) → Lawful calm calm (turn o place x) (λ i. then_reads (items i) (λ y. gives (goes (k o place x y))))
  turn_law o place x = lawful_map calm calm (λ g h. h) (λ y. goes (k o place x y)) item items lawful

  ends_so : (x : S) (s : Stream) → op (ahead s) ≡ None → loop x s ≡ Ok (g x, s)
  ends_so x s h = chain_none op turn finish (size s) x s (sym h)

  steps_so : (t : Lexeme) (o : O) (x : S) (s : Stream) → op (sign_of t) ≡ Some o → loop x (more t s) ≡ then_reads (turn o t.start x) (turned loop) s
  steps_so t o x s h = chain_step op none turn finish shrinks t o x s h

  reaches_turned : (y : Turn B S) → Reaches calm (turned loop y)
  reaches_turned (leaves b) = record { text = []; calms = quiet; value = b; reads = refl }
  reaches_turned (goes z) = record { text = []; calms = quiet; value = g z; reads = ends_so z (ends 0) (sym none) }

  greedy_turned : (n : ℕ) → ((x : S) → Greedy n (loop x)) → (y : Turn B S) → Greedy n (turned loop y)
  greedy_turned n again (leaves b) = greedy_gives {X = X} n b
  greedy_turned n again (goes z) = again z

  stuck_end : (x : S) (d : Lexeme) (place : ℕ) → ((m : Stream) → loop x (more d m) ≡ Err (syntax place)) → (o : Option O) → op (sign_of d) ≡ o → ⊥
  stuck_end x d place no_more None e = not_both (loop x (more d (ends 0))) (g x, more d (ends 0)) (syntax place) (ends_so x (more d (ends 0)) e) (no_more (ends 0))
  stuck_end x d place no_more (Some o) e =
      two_ends (then_reads (turn o d.start x) (turned loop)) (needs_bind (turn o d.start x) (turned loop) (needs_bind item (λ y. gives (goes (k o d.start x y))) needs)) place (λ p. sym (steps_so d o x (ends p) e) ∙ no_more (ends p))

  at_step : (n : ℕ) → ((x : S) → Greedy n (loop x)) → (x : S) (t : Lexeme) (ts : List Lexeme) (b : B) (d : Lexeme) (place : ℕ) → length ts ≤ n → loop x (more t (ts ++> ends 0)) ≡ Ok (b, ends 0) → ((m : Stream) → loop x (more t (ts ++> more d m)) ≡ Err (syntax place)) → (o : Option O) → op (sign_of t) ≡ o → ⊥
  at_step n again x t ts b d place le h no_more None e =
      let v = values (loop x (more t (ts ++> ends 0))) (g x) b (more t (ts ++> ends 0)) (ends 0) (ends_so x (more t (ts ++> ends 0)) e) h in
      let bad : more t (ts ++> ends 0) ≡ ends 0 = v.1 in
      absurd cc
  at_step n again x t ts b d place le h no_more (Some o) e =
      greedy_bind calm quiet (turn o t.start x) (λ i. then_reads (items i) (λ y. gives (goes (k o t.start x y)))) ((turn_law o t.start x).law) (turned loop) reaches_turned n
      (greedy_map n (λ y. goes (k o t.start x y)) item (greedy n)) (greedy_turned n again) ts b d place le (sym (steps_so t o x (ts ++> ends 0) e) ∙ h) (λ m. sym (steps_so t o x (ts ++> more d m) e) ∙ no_more m)

  pub greedy_loop : (n : ℕ) (x : S) → Greedy n (loop x)
  greedy_loop n x [] b d place le h no_more = stuck_end x d place no_more (op (sign_of d)) refl
  greedy_loop zero x (t ∷ ts) b d place le h no_more = absurd (omega (arith, le))
  greedy_loop (suc n) x (t ∷ ts) b d place le h no_more = at_step n (λ z. greedy_loop n z) x t ts b d place (omega (arith, le)) h no_more (op (sign_of t)) refl
