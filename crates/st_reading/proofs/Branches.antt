-- Readers that choose by the next token, and what completes them.
use Rattle.std.proofs.Common.{◌≡◌, ℕ, ◌≤◌, Bool, true, false, List, [], ◌∷◌, ◌++◌, Option, Some, None, Ok, Err, inl, inr, refl, sym, ap, ◌∙◌, arith}
use Rattle.st_tokens.specs.Stream.{◌++>◌, Lexeme, Stream, ends, breaks, more, behind, IsSpelled}
use Rattle.st_reading.specs.declared.sign.Sign.{Sign}
use Rattle.st_reading.specs.declared.sign.Sign.TheVariants as signs
use Rattle.st_reading.specs.Sign.{sign_of}
use Rattle.st_reading.specs.Reading.{Stop, Read, Label, ahead, size, place_of, name_of, label_of, refusal, then_reads, on_operator, gives}
use Rattle.st_reading.specs.Steady.{Follows, Viable, Cause, refused, over, SteadyAt, both, stops, Within, anything}
use Rattle.st_reading.proofs.Streams.{behind_size, ahead_same}
use Rattle.st_reading.proofs.Spelled.{none_spelled, more_spelled}
use Rattle.st_reading.proofs.Steadiness.{at_shift, at_stuck, viable_first}
use Rattle.st_reading.proofs.Soundness.{Shrinks}
use Rattle.st_reading.proofs.Lawful.{Lawful, branching, shrinks_branching, at_head}

-- WHERE LESS FOLLOWS
module _ {I X A : Type 0} (front calm calm2 : Sign → Bool) (fewer : Within calm2 calm) (r : Stream → Read X A) (p : I → Stream → Read X A) where
  viable_calmer : (i : I) (ts : List Lexeme) → Viable front calm (p i) ts → Viable front calm2 (p i) ts
  viable_calmer i ts v = record { others = v.others; spelled = v.spelled; value = v.value; begins = λ n after h. v.begins n after (fewer _ h); reads = λ after h. v.reads after (fewer _ h) }

  cause_calmer : (ts : List Lexeme) (f : Stop X) (rest : Stream) → Cause front calm p ts f rest → Cause front calm2 p ts f rest
  cause_calmer ts f rest (refused is same) = refused is same
  cause_calmer ts f rest (over y t after is next v) = over y t after is next (λ i. viable_calmer i (ts ++ t ∷ []) (v i))

  follows_calmer : (s after : Stream) → Follows calm2 s after → Follows calm s after
  follows_calmer s after (inl h) = inl h
  follows_calmer s after (inr c) = inr (fewer _ c)

  at_calmer : (s : Stream) → SteadyAt front calm r p s → SteadyAt front calm2 r p s
  at_calmer s (both ts x rest e go1 go2) = both ts x rest e (λ after h. go1 after (follows_calmer rest after h)) (λ i after h. go2 i after (follows_calmer rest after h))
  at_calmer s (stops ts f rest e same v cause) = stops ts f rest e same (λ i. viable_calmer i ts (v i)) (cause_calmer ts f rest cause)

  pub lawful_calmer : Lawful front calm r p → Lawful front calm2 r p
  lawful_calmer l = record { law = λ s. at_calmer s (l.law s); one = l.one; each = l.each }

-- WHAT COMPLETES A READER THAT TOOK NOTHING
pub completes_calmer : {X A : Type 0} (front calm calm2 : Sign → Bool) → Within calm2 calm → (p : Stream → Read X A) → Viable front calm p [] → Viable front calm2 p []
completes_calmer front calm calm2 fewer p v = record { others = v.others; spelled = v.spelled; value = v.value; begins = λ n after h. v.begins n after (fewer _ h); reads = λ after h. v.reads after (fewer _ h) }

pub completes_wider : {X A : Type 0} (front front2 calm : Sign → Bool) → Within front front2 → (p : Stream → Read X A) → Viable front calm p [] → Viable front2 calm p []
completes_wider front front2 calm wide p v = record { others = v.others; spelled = v.spelled; value = v.value; begins = λ n after h. wide _ (v.begins n after h); reads = v.reads }

pub completes_gives : {X A : Type 0} (front calm : Sign → Bool) → Within calm front → (x : A) → Viable {X = X} front calm (gives x) []
completes_gives front calm fits x = record { others = []; spelled = none_spelled; value = x; begins = λ n after h. fits _ h; reads = λ after h. refl }

pub completes_bind : {X A B : Type 0} (front calm front2 calm2 : Sign → Bool) → Within front2 calm → (p : Stream → Read X A) (u : A → Stream → Read X B) → Viable front calm p [] → ((x : A) → Viable front2 calm2 (u x) []) → Viable front calm2 (then_reads p u) []
completes_bind front calm front2 calm2 meets p u v w =
    viable_first front calm front2 calm2 meets p u (record { text = λ x. (w x).others; spelled = λ x. (w x).spelled; value = λ x. (w x).value; begins = λ x after h. (w x).begins refl after h; reads = λ x after h. (w x).reads after h }) [] v

pub completes_map : {X A B : Type 0} (front calm : Sign → Bool) (f : A → B) (p : Stream → Read X A) → Viable front calm p [] → Viable front calm (then_reads p (λ x. gives (f x))) []
completes_map front calm f p v = completes_bind front calm calm calm (λ g h. h) p (λ x. gives (f x)) v (λ x. completes_gives calm calm (λ g h. h) (f x))

-- behind a token
pub completes_behind : {X A : Type 0} (front front2 calm : Sign → Bool) (p q : Stream → Read X A) (w : Lexeme) → IsSpelled w → front (sign_of w) ≡ true → ((after : Stream) → p (more w after) ≡ q after) → Viable front2 calm q [] → Viable front calm p []
completes_behind front front2 calm p q w w_spelled w_front agree v = record { others = w ∷ v.others; spelled = more_spelled w v.others w_spelled v.spelled; value = v.value; begins = λ n after h. w_front; reads = λ after h. agree (v.others ++> after) ∙ v.reads after h }

-- a token that was taken
pub completes_over : {X A : Type 0} (front front2 calm : Sign → Bool) (p q : Stream → Read X A) (t : Lexeme) → ((after : Stream) → p (more t after) ≡ q after) → Viable front2 calm q [] → Viable front calm p (t ∷ [])
completes_over front front2 calm p q t agree v = record { others = v.others; spelled = v.spelled; value = v.value; begins = λ n. cc; reads = λ after h. agree (v.others ++> after) ∙ v.reads after h }

-- A BRANCH BY THE NEXT TOKEN, where both branches begin with a token. w is one that takes the first branch.
module _ {I X A : Type 0} (front front2 calm : Sign → Bool) (quiet : calm signs.Nothing ≡ true) (test : Sign → Bool) (nothing : test signs.Nothing ≡ false)
    (a : ℕ → Label → Stream → Read X A) (a2 : I → ℕ → Label → Stream → Read X A) (b : Stream → Read X A) (b2 : I → Stream → Read X A) (w : Lexeme) (w_spelled : IsSpelled w) (w_test : test (sign_of w) ≡ true) (w_front : front (sign_of w) ≡ true) where
  pub fork_completes : (i : I) → Viable anything calm (a2 i w.start (label_of w)) [] → Viable front calm (branching test (a2 i) (b2 i)) []
  fork_completes i v = completes_behind front anything calm (branching test (a2 i) (b2 i)) (a2 i w.start (label_of w)) w w_spelled w_front (λ after. rw w_test refl) v

  module _ (v : (i : I) → Viable anything calm (a2 i w.start (label_of w)) []) (la : (n : ℕ) (l : Label) → Lawful anything calm (a n l) (λ i. a2 i n l)) (g : Stop X) (begins : b (ends 0) ≡ Err g) (lb : Lawful front2 calm b b2) where
    else_at : (s : Stream) → test (ahead s) ≡ false → SteadyAt front calm (branching test a b) (λ i. branching test (a2 i) (b2 i)) s
    else_at s h =
        at_head front front2 calm quiet (branching test a b) b (λ i. branching test (a2 i) (b2 i)) b2 s
        (λ after same. let e = ap test (ahead_same s after same) ∙ h in rw e refl) (λ i after same. let e = ap test (ahead_same s after same) ∙ h in rw e refl)
        g begins (λ i. fork_completes i (v i)) (lb.law s)

    at_token : (t : Lexeme) (s : Stream) (c : Bool) → c ≡ test (sign_of t) → SteadyAt front calm (branching test a b) (λ i. branching test (a2 i) (b2 i)) (more t s)
    at_token t s true e =
        at_shift front anything calm (branching test a b) (a t.start (label_of t)) (λ i. branching test (a2 i) (b2 i)) (λ i. a2 i t.start (label_of t)) t s (λ after. rw (← e) refl) (λ i after. rw (← e) refl) ((la t.start (label_of t)).law s)
    at_token t s false e = else_at (more t s) (sym e)

    at_fork : (s : Stream) → SteadyAt front calm (branching test a b) (λ i. branching test (a2 i) (b2 i)) s
    at_fork (ends p) = else_at (ends p) nothing
    at_fork (breaks f) = else_at (breaks f) nothing
    at_fork (more t s) = at_token t s (test (sign_of t)) refl

    pub lawful_fork : Lawful front calm (branching test a b) (λ i. branching test (a2 i) (b2 i))
    lawful_fork = record { law = at_fork; one = shrinks_branching test a b (λ n l. (la n l).one) lb.one; each = λ i. shrinks_branching test (a2 i) (b2 i) (λ n l. (la n l).each i) (lb.each i) }

-- A CHOICE BY THE NEXT TOKEN: what is read behind it, or a refusal. w is one that may stand there.
abbrev pub picking : {O X A : Type 0} → (Sign → Option O) → (O → ℕ → Label → Stream → Read X A) → Stream → Read X A
picking op a s = on_operator (op (ahead s)) (Err (refusal s)) (λ o. a o (place_of s) (name_of s) (behind s))

shrinks_picked : {O X A : Type 0} (a : O → ℕ → Label → Stream → Read X A) → ((o : O) (n : ℕ) (l : Label) → Shrinks (a o n l)) → (s : Stream) (x : A) (rest : Stream) (c : Option O) → on_operator c (Err (refusal s)) (λ o. a o (place_of s) (name_of s) (behind s)) ≡ Ok (x, rest) → size rest ≤ size s
shrinks_picked a sa s x rest None h = cc
shrinks_picked a sa s x rest (Some o) h = let k = sa o (place_of s) (name_of s) (behind s) x rest h in omega (arith, k, behind_size s)

module _ {I O X A : Type 0} (front calm : Sign → Bool) (op : Sign → Option O) (nothing : op signs.Nothing ≡ None) (a : O → ℕ → Label → Stream → Read X A) (a2 : I → O → ℕ → Label → Stream → Read X A)
    (w : Lexeme) (w_spelled : IsSpelled w) (o0 : O) (w_op : op (sign_of w) ≡ Some o0) (w_front : front (sign_of w) ≡ true) where
  pub pick_completes : (i : I) → Viable anything calm (a2 i o0 w.start (label_of w)) [] → Viable front calm (picking op (a2 i)) []
  pick_completes i v = completes_behind front anything calm (picking op (a2 i)) (a2 i o0 w.start (label_of w)) w w_spelled w_front (λ after. rw w_op refl) v

  module _ (v : (i : I) → Viable anything calm (a2 i o0 w.start (label_of w)) []) (la : (o : O) (n : ℕ) (l : Label) → Lawful anything calm (a o n l) (λ i. a2 i o n l)) where
    none_at : (s : Stream) → op (ahead s) ≡ None → SteadyAt front calm (picking op a) (λ i. picking op (a2 i)) s
    none_at s h =
        at_stuck front calm (picking op a) (λ i. picking op (a2 i)) s (λ after same. let e = ap op same ∙ h in rw e refl) (λ i after same. let e = ap op same ∙ h in rw e refl) (λ i. pick_completes i (v i))

    pick_at : (t : Lexeme) (s : Stream) (c : Option O) → c ≡ op (sign_of t) → SteadyAt front calm (picking op a) (λ i. picking op (a2 i)) (more t s)
    pick_at t s None e = none_at (more t s) (sym e)
    pick_at t s (Some o) e =
        at_shift front anything calm (picking op a) (a o t.start (label_of t)) (λ i. picking op (a2 i)) (λ i. a2 i o t.start (label_of t)) t s (λ after. rw (← e) refl) (λ i after. rw (← e) refl) ((la o t.start (label_of t)).law s)

    at_pick : (s : Stream) → SteadyAt front calm (picking op a) (λ i. picking op (a2 i)) s
    at_pick (ends p) = none_at (ends p) nothing
    at_pick (breaks f) = none_at (breaks f) nothing
    at_pick (more t s) = pick_at t s (op (sign_of t)) refl

    pub lawful_pick : Lawful front calm (picking op a) (λ i. picking op (a2 i))
    lawful_pick = record {
      law = at_pick;
      one = λ s x rest h. shrinks_picked a (λ o n l. (la o n l).one) s x rest (op (ahead s)) h;
      each = λ i s x rest h. shrinks_picked (a2 i) (λ o n l. (la o n l).each i) s x rest (op (ahead s)) h;
    }
