-- Readers that have their law, and what is put together from them.
use Rattle.std.proofs.Common.{◌≡◌, ℕ, ◌≤◌, Bool, true, false, cond, List, [], ◌∷◌, ◌++◌, Option, None, Ok, Err, ◌⊎◌, inl, inr, refl, sym, ap, ◌∙◌, arith}
use Rattle.st_tokens.specs.Stream.{◌++>◌, Lexeme, Stream, ends, breaks, more, behind, IsSpelled}
use Rattle.st_reading.specs.declared.mark.Mark.{Mark}
use Rattle.st_reading.specs.declared.sign.Sign.{Sign}
use Rattle.st_reading.specs.declared.sign.Sign.TheVariants as signs
use Rattle.st_reading.specs.Sign.{sign_of, is}
use Rattle.st_reading.specs.Reading.{Stop, other, Read, ahead, size, place_of, then_reads, Turn, chain, gives, expected, named, is_name, Label, name_of, label_of}
use Rattle.st_reading.specs.Steady.{head, Viable, Cause, refused, over, SteadyAt, both, stops, Short, Within, Parts, calmer, Wide, wider, moves, anything}
use Rattle.st_reading.proofs.Streams.{behind_size, follow_test}
use Rattle.st_reading.proofs.Spelled.{none_spelled}
use Rattle.st_reading.proofs.Steadiness.{at_bind, at_choice, at_shift, at_gives, at_expected, at_named, at_over, at_weak, viable_first}
use Rattle.st_reading.proofs.Soundness.{Shrinks}
use Rattle.st_reading.proofs.Shrinking.{shrinks_gives, shrinks_bind, shrinks_expected, shrinks_named, shrinks_chain}
use Rattle.st_reading.proofs.Chains.{at_chain}

-- r, and the readers p with more room: the law, and that no rest is longer
pub record Lawful {I X A : Type 0} (front calm : Sign → Bool) (r : Stream → Read X A) (p : I → Stream → Read X A) : Type 0 where
  pub law : (s : Stream) → SteadyAt front calm r p s
  pub one : Shrinks r
  pub each : (i : I) → Shrinks (p i)

-- A text that is read comes from the law at a text's end.
module _ {I X A : Type 0} (front calm : Sign → Bool) (r : Stream → Read X A) (fits : Wide front calm calm r) (p : I → Stream → Read X A) where
  nothing_taken : Wide front calm calm r → (i : I) (x : A) → ((after : Stream) → calm (ahead after) ≡ true → r after ≡ Ok (x, after)) → ((after : Stream) → calm (ahead after) ≡ true → p i after ≡ Ok (x, after)) → Viable front calm (p i) []
  nothing_taken (wider w) i x go1 go2 = record { others = []; spelled = none_spelled; value = x; begins = λ n after h. w _ h; reads = go2 }
  nothing_taken (moves quiet f none) i x go1 go2 = let good = go1 (ends 0) quiet in cc

  pub viable_at : (i : I) → SteadyAt front calm r p (ends 0) → Viable front calm (p i) []
  viable_at i (both [] x rest e go1 go2) = nothing_taken fits i x (λ after h. go1 after (inr h)) (λ after h. go2 i after (inr h))
  viable_at i (both (t ∷ ts) x rest e go1 go2) = cc
  viable_at i (stops [] f rest e same v cause) = v i
  viable_at i (stops (t ∷ ts) f rest e same v cause) = cc

  pub viable_of : Lawful front calm r p → (i : I) → Viable front calm (p i) []
  viable_of l i = viable_at i (l.law (ends 0))

pub short_of : {I X A B : Type 0} (front calm : Sign → Bool) (q : A → Stream → Read X B) → ((x : A) → Wide front calm calm (q x)) → (u : I → A → Stream → Read X B) → ((x : A) → Lawful front calm (q x) (λ i. u i x)) → (i : I) → Short front calm (u i)
short_of front calm q fits u l i = record {
  text = λ x. (viable_of front calm (q x) (fits x) (λ i. u i x) (l x) i).others;
  spelled = λ x. (viable_of front calm (q x) (fits x) (λ i. u i x) (l x) i).spelled;
  value = λ x. (viable_of front calm (q x) (fits x) (λ i. u i x) (l x) i).value;
  begins = λ x. (viable_of front calm (q x) (fits x) (λ i. u i x) (l x) i).begins refl;
  reads = λ x. (viable_of front calm (q x) (fits x) (λ i. u i x) (l x) i).reads;
}

-- One reader, and behind it another. `meets`: the first is calm before what may begin the second.
pub lawful_bind : {I X A B : Type 0} (front calm front2 calm2 : Sign → Bool) → Within front2 calm → (r : Stream → Read X A) (p : I → Stream → Read X A) (q : A → Stream → Read X B) (u : I → A → Stream → Read X B) → ((x : A) → Wide front2 calm2 calm2 (q x))
    → Wide front front2 calm r → Parts calm calm2 q → Lawful front calm r p → ((x : A) → Lawful front2 calm2 (q x) (λ i. u i x)) → Lawful front calm2 (then_reads r q) (λ i. then_reads (p i) (u i))
lawful_bind front calm front2 calm2 meets r p q u fits wide parts l m = record {
  law = λ s. at_bind front calm front2 calm2 meets r p q u wide parts (short_of front2 calm2 q fits u m) s (l.law s) (λ ts x rest e. (m x).law rest);
  one = shrinks_bind r q l.one (λ x. (m x).one);
  each = λ i. shrinks_bind (p i) (u i) (l.each i) (λ x. (m x).each i);
}

pub lawful_gives : {I X A : Type 0} (front calm : Sign → Bool) (x : A) → Lawful {I = I} {X = X} front calm (gives x) (λ i. gives x)
lawful_gives {I} {X} front calm x = record { law = λ s. at_gives front calm x s; one = shrinks_gives {X = X} x; each = λ i. shrinks_gives {X = X} x }

pub lawful_map : {I X A B : Type 0} (front calm : Sign → Bool) → Within calm front → (f : A → B) (r : Stream → Read X A) (p : I → Stream → Read X A) → Lawful front calm r p → Lawful front calm (then_reads r (λ x. gives (f x))) (λ i. then_reads (p i) (λ x. gives (f x)))
lawful_map front calm fits f r p l = lawful_bind front calm calm calm (λ g h. h) r p (λ x. gives (f x)) (λ i x. gives (f x)) (λ x. wider (λ g h. h)) (wider fits) (calmer (λ g h. h)) l (λ x. lawful_gives calm calm (f x))

pub lawful_expected : {I X : Type 0} (front calm : Sign → Bool) (mark : Mark) (w : Lexeme) → IsSpelled w → is (sign_of w) mark ≡ true → front (sign_of w) ≡ true → Lawful {I = I} {X = X} front calm (expected mark) (λ i. expected mark)
lawful_expected {I} {X} front calm mark w spelled h c = record { law = λ s. at_expected front calm mark w spelled h c s; one = shrinks_expected {X = X} mark; each = λ i. shrinks_expected {X = X} mark }

pub lawful_named : {I X : Type 0} (front calm : Sign → Bool) (w : Lexeme) → IsSpelled w → is_name (sign_of w) ≡ true → front (sign_of w) ≡ true → Lawful {I = I} {X = X} front calm named (λ i. named)
lawful_named {I} {X} front calm w spelled h c = record { law = λ s. at_named front calm w spelled h c s; one = shrinks_named {X = X}; each = λ i. shrinks_named {X = X} }

-- where more may begin
pub lawful_weak : {I X A : Type 0} (front front2 calm : Sign → Bool) → Within front front2 → (r : Stream → Read X A) (p : I → Stream → Read X A) → Lawful front calm r p → Lawful front2 calm r p
lawful_weak front front2 calm wide r p l = record { law = λ s. at_weak front front2 calm wide r p s (l.law s); one = l.one; each = l.each }

pub lawful_chain : {I X O B S : Type 0} (front calm calm1 : Sign → Bool) (fits : Within calm front) (meets : Within front calm1) (op : Sign → Option O) (calms : (g : Sign) → front g ≡ true → op g ≡ None) (none : None ≡ op signs.Nothing)
    (turn : O → ℕ → S → Stream → Read X (Turn B S)) (turn2 : I → O → ℕ → S → Stream → Read X (Turn B S)) (finish : S → Stream → Read X B) (finish2 : I → S → Stream → Read X B)
    → ((o : O) (place : ℕ) (x : S) → Lawful anything calm1 (turn o place x) (λ i. turn2 i o place x)) → ((x : S) → Lawful front calm (finish x) (λ i. finish2 i x))
    → (x : S) → Lawful front calm (λ s. chain op turn finish (size s) x s) (λ i s. chain op (turn2 i) (finish2 i) (size s) x s)
lawful_chain front calm calm1 fits meets op calms none turn turn2 finish finish2 l m x = record {
  law = λ s. at_chain front calm calm1 fits meets op calms none turn turn2 finish finish2 (λ o place x. (l o place x).one) (λ i o place x. (l o place x).each i) (λ o place x s. (l o place x).law s) (λ x s. (m x).law s) (short_of front calm finish (λ y. wider fits) finish2 m) x s;
  one = λ s. shrinks_chain op turn finish (λ o place x. (l o place x).one) (λ x. (m x).one) (size s) x s;
  each = λ i s. shrinks_chain op (turn2 i) (finish2 i) (λ o place x. (l o place x).each i) (λ x. (m x).each i) (size s) x s;
}

-- A branch by the next token: a behind it, or b from it on.
abbrev pub branching : {X A : Type 0} → (Sign → Bool) → (ℕ → Label → Stream → Read X A) → (Stream → Read X A) → Stream → Read X A
branching test a b s = cond (test (ahead s)) (a (place_of s) (name_of s) (behind s)) (b s)

pub shrinks_branching : {X A : Type 0} (test : Sign → Bool) (a : ℕ → Label → Stream → Read X A) (b : Stream → Read X A) → ((n : ℕ) (l : Label) → Shrinks (a n l)) → Shrinks b → Shrinks (branching test a b)
shrinks_branching test a b sa sb s x rest h = at_test (test (ahead s)) h
  where
    at_test : (c : Bool) → cond c (a (place_of s) (name_of s) (behind s)) (b s) ≡ Ok (x, rest) → size rest ≤ size s
    at_test true h = let k = sa (place_of s) (name_of s) (behind s) x rest h in omega (arith, k, behind_size s)
    at_test false h = sb s x rest h

module _ {I X A : Type 0} (front calm : Sign → Bool) (fits : Within calm front) (test : Sign → Bool) (nothing : test signs.Nothing ≡ false) (a : ℕ → Label → Stream → Read X A) (a2 : I → ℕ → Label → Stream → Read X A) (b : Stream → Read X A) (b2 : I → Stream → Read X A)
    (la : (n : ℕ) (l : Label) → Lawful anything calm (a n l) (λ i. a2 i n l)) (lb : Lawful front calm b b2) where
  taken : (t : Lexeme) (s : Stream) → test (sign_of t) ≡ true → SteadyAt front calm (branching test a b) (λ i. branching test (a2 i) (b2 i)) (more t s)
  taken t s e =
      at_shift front anything calm (branching test a b) (a t.start (label_of t)) (λ i. branching test (a2 i) (b2 i)) (λ i. a2 i t.start (label_of t)) t s (λ after. rw e refl) (λ i after. rw e refl) ((la t.start (label_of t)).law s)

  -- nothing that may begin takes the branch
  pub lawful_if : ((g : Sign) → front g ≡ true → test g ≡ false) → Lawful front calm (branching test a b) (λ i. branching test (a2 i) (b2 i))
  lawful_if calms = record { law = at; one = shrinks_branching test a b (λ n l. (la n l).one) lb.one; each = λ i. shrinks_branching test (a2 i) (b2 i) (λ n l. (la n l).each i) (lb.each i) }
    where
      else_at : (s : Stream) → test (ahead s) ≡ false → SteadyAt front calm (branching test a b) (λ i. branching test (a2 i) (b2 i)) s
      else_at s h =
          at_choice front calm (branching test a b) b (λ i. branching test (a2 i) (b2 i)) b2 s
          (λ after fol. let e = follow_test calm test false (λ g c. calms g (fits g c)) s after h fol in rw e refl)
          (λ i after fol. let e = follow_test calm test false (λ g c. calms g (fits g c)) s after h fol in rw e refl) (λ i after c. let e = calms (ahead after) c in rw e refl) (lb.law s)

      at_test : (t : Lexeme) (s : Stream) (c : Bool) → c ≡ test (sign_of t) → SteadyAt front calm (branching test a b) (λ i. branching test (a2 i) (b2 i)) (more t s)
      at_test t s true e = taken t s (sym e)
      at_test t s false e = else_at (more t s) (sym e)

      at : (s : Stream) → SteadyAt front calm (branching test a b) (λ i. branching test (a2 i) (b2 i)) s
      at (ends p) = else_at (ends p) nothing
      at (breaks f) = else_at (breaks f) nothing
      at (more t s) = at_test t s (test (sign_of t)) refl

-- The same readers wherever the next token is the same, for readers that begin with a token: at the end nothing is read.
module _ {I X A : Type 0} (front front2 calm : Sign → Bool) (quiet : calm signs.Nothing ≡ true) (r q : Stream → Read X A) (p u : I → Stream → Read X A) where
  moved : (i : I) (t : Lexeme) (ts : List Lexeme) → ((z : Stream) → p i (more t (ts ++> z)) ≡ u i (more t (ts ++> z))) → Viable front2 calm (u i) (t ∷ ts) → Viable front calm (p i) (t ∷ ts)
  moved i t ts agree v = record { others = v.others; spelled = v.spelled; value = v.value; begins = λ n. cc; reads = λ after h. agree (v.others ++> after) ∙ v.reads after h }

  pub at_head : (s : Stream) → ((after : Stream) → head after ≡ head s → r after ≡ q after) → ((i : I) (after : Stream) → head after ≡ head s → p i after ≡ u i after)
      → (g : Stop X) → q (ends 0) ≡ Err g → ((i : I) → Viable front calm (p i) []) → SteadyAt front2 calm q u s → SteadyAt front calm r p s
  at_head s agree agree2 g begins v (both [] x rest e go1 go2) = let bad = go1 (ends 0) (inr quiet) in cc
  at_head s agree agree2 g begins v (both (t ∷ ts) x rest e go1 go2) =
      both (t ∷ ts) x rest e (λ after h. agree (more t (ts ++> after)) (sym (ap head e)) ∙ go1 after h) (λ i after h. agree2 i (more t (ts ++> after)) (sym (ap head e)) ∙ go2 i after h)
  at_head s agree agree2 g begins v (stops [] f rest e same v2 cause) =
      stops [] f rest e (λ after h. agree after (h ∙ sym (ap head e)) ∙ same after h) v (at_front cause)
    where
      at_front : Cause front2 calm u [] f rest → Cause front calm p [] f rest
      at_front (refused is same) = refused is (λ i after h. agree2 i after (h ∙ sym (ap head e)) ∙ same i after h)
      at_front (over y t after is next v3) = over y t after is next (λ i. moved i t [] (λ z. agree2 i (more t z) (sym (ap head (e ∙ next)))) (v3 i))
  at_head s agree agree2 g begins v (stops (t ∷ ts) f rest e same v2 cause) =
      stops (t ∷ ts) f rest e (λ after h. agree (more t (ts ++> after)) (sym (ap head e)) ∙ same after h)
      (λ i. moved i t ts (λ z. agree2 i (more t (ts ++> z)) (sym (ap head e))) (v2 i))
      (later cause)
    where
      later : Cause front2 calm u (t ∷ ts) f rest → Cause front calm p (t ∷ ts) f rest
      later (refused is same) = refused is (λ i after h. agree2 i (more t (ts ++> after)) (sym (ap head e)) ∙ same i after h)
      later (over y w after is next v3) = over y w after is next (λ i. moved i t (ts ++ w ∷ []) (λ z. agree2 i (more t ((ts ++ w ∷ []) ++> z)) (sym (ap head e))) (v3 i))

-- One level down nothing may be opened, and the readers with more room go on; or what is read there has the law.
abbrev pub Opens : {I X A : Type 0} → (Sign → Bool) → (Sign → Bool) → X → (Stream → Read X A) → (I → Stream → Read X A) → Type 0
Opens {I} {X} {A} front calm limit r p = (((s : Stream) → r s ≡ Err (other limit)) × ((i : I) → Viable front calm (p i) [])) ⊎ ((s : Stream) → SteadyAt front calm r p s)

-- behind a token that opens a level
module _ {I X A B : Type 0} (front front1 calm1 front2 calm2 : Sign → Bool) (meets : Within front2 calm1) (limit : X) (d : Stream → Read X A) (ds : I → Stream → Read X A) (k : A → Stream → Read X B) (k2 : I → A → Stream → Read X B)
    (fits : (x : A) → Wide front2 calm2 calm2 (k x)) (wide : Wide front1 front2 calm1 d) (parts : Parts calm1 calm2 k) (law : (x : A) → Lawful front2 calm2 (k x) (λ i. k2 i x)) where
  over_it : (i : I) (p : I → Stream → Read X B) (t : Lexeme) → ((after : Stream) → p i (more t after) ≡ then_reads (ds i) (k2 i) after) → Viable front1 calm2 (then_reads (ds i) (k2 i)) [] → Viable front calm2 (p i) (t ∷ [])
  over_it i p t agree v = record { others = v.others; spelled = v.spelled; value = v.value; begins = λ n. cc; reads = λ after h. agree (v.others ++> after) ∙ v.reads after h }

  pub opened : (r : Stream → Read X B) (p : I → Stream → Read X B) (t : Lexeme) (s : Stream) → ((after : Stream) → r (more t after) ≡ then_reads d k after) → ((i : I) (after : Stream) → p i (more t after) ≡ then_reads (ds i) (k2 i) after)
      → ((i : I) → Viable front calm2 (p i) []) → Opens front1 calm1 limit d ds → SteadyAt front calm2 r p (more t s)
  opened r p t s agree agree2 v (inl deep) =
      at_over front calm2 r p t limit s (λ after. agree after ∙ rw (deep.0 after) refl) v
      (λ i. over_it i p t (agree2 i) (viable_first front1 calm1 front2 calm2 meets (ds i) (k2 i) (short_of front2 calm2 k fits k2 law i) [] (deep.1 i)))
  opened r p t s agree agree2 v (inr steady) =
      at_shift front front1 calm2 r (then_reads d k) p (λ i. then_reads (ds i) (k2 i)) t s agree agree2
      (at_bind front1 calm1 front2 calm2 meets d ds k k2 wide parts (short_of front2 calm2 k fits k2 law) s (steady s) (λ ts x rest e. (law x).law rest))
