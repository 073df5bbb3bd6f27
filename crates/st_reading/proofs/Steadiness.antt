-- How the law of a reader comes from the laws of its parts.
use Rattle.std.proofs.Common.{◌≡◌, Bool, true, false, List, [], ◌∷◌, ◌++◌, Ok, Err, inl, inr, refl, sym, ap, subst, ◌∙◌, append_assoc}
use Rattle.std.proofs.lemmas.List.Elements.{All-append}
use Rattle.st_tokens.specs.Stream.{◌++>◌, Lexeme, Stream, ends, breaks, more, IsSpelled}
use Rattle.st_reading.specs.declared.sign.Sign.{Sign}
use Rattle.st_reading.specs.declared.mark.Mark.{Mark}
use Rattle.st_reading.specs.Sign.{sign_of, is}
use Rattle.st_reading.specs.Reading.{Stop, other, Read, ahead, refusal, gives, then_reads, expected, named, is_name, label_of}
use Rattle.st_reading.specs.Steady.{head, Follows, Viable, Cause, refused, over, SteadyAt, both, stops, Short, Within, Parts, calmer, takes, Wide, wider, moves}
use Rattle.st_reading.proofs.Streams.{append_stream, follows_through, token_is, refusal_same, ahead_same}
use Rattle.st_reading.proofs.Spelled.{none_spelled, one_spelled}

pub bind_ok : {X A B : Type 0} (r : Stream → Read X A) (q : A → Stream → Read X B) (s : Stream) (x : A) (after : Stream) → r s ≡ Ok (x, after) → then_reads r q s ≡ q x after
bind_ok r q s x after e = rw e refl

pub bind_err : {X A B : Type 0} (r : Stream → Read X A) (q : A → Stream → Read X B) (s : Stream) (f : Stop X) → r s ≡ Err f → then_reads r q s ≡ Err f
bind_err r q s f e = rw e refl

-- The same tokens are completed where a reader agrees.
pub viable_as : {X A : Type 0} (front calm : Sign → Bool) (r q : Stream → Read X A) (ts us : List Lexeme) → (ts ≡ [] → us ≡ []) → ((z : Stream) → r (ts ++> z) ≡ q (us ++> z)) → Viable front calm q us → Viable front calm r ts
viable_as front calm r q ts us none agree v = record { others = v.others; spelled = v.spelled; value = v.value; begins = λ n. v.begins (none n); reads = λ after h. agree (v.others ++> after) ∙ v.reads after h }

-- a second reader behind the first
pub viable_first : {X A B : Type 0} (front calm front2 calm2 : Sign → Bool) → Within front2 calm → (p : Stream → Read X A) (u : A → Stream → Read X B) → Short front2 calm2 u → (ts : List Lexeme) → Viable front calm p ts → Viable front calm2 (then_reads p u) ts
viable_first front calm front2 calm2 meets p u short ts v = record {
  others = v.others ++ short.text v.value;
  spelled = All-append IsSpelled v.others (short.text v.value) v.spelled (short.spelled v.value);
  value = short.value v.value;
  begins = λ n after h. subst (λ z. front (ahead z) ≡ true) (sym (append_stream v.others (short.text v.value) after)) (v.begins n _ (meets _ (short.begins v.value after h)));
  reads = λ after h. ap (λ s. then_reads p u (ts ++> s)) (append_stream v.others (short.text v.value) after)
      ∙ bind_ok p u _ v.value (short.text v.value ++> after) (v.reads (short.text v.value ++> after) (meets _ (short.begins v.value after h)))
      ∙ short.reads v.value after h;
}

-- The first reader is calm before what may begin the second, and what may begin the second may begin both.
module _ {I X A B : Type 0} (front calm front2 calm2 : Sign → Bool) (meets : Within front2 calm)
    (r : Stream → Read X A) (p : I → Stream → Read X A) (q : A → Stream → Read X B) (u : I → A → Stream → Read X B) (wide : Wide front front2 calm r) (parts : Parts calm calm2 q) (short : (i : I) → Short front2 calm2 (u i)) where
  abbrev seconds : I → Stream → Read X B
  seconds i = then_reads (p i) (u i)

  -- behind what the first reader took
  viable_second : (i : I) (ts us : List Lexeme) (x : A) (rest : Stream) → (ts ++ us ≡ [] → (us ≡ []) × Within front2 front) → ((after : Stream) → Follows calm rest after → p i (ts ++> after) ≡ Ok (x, after))
      → (v : Viable front2 calm2 (u i x) us) → ((after : Stream) → calm2 (ahead after) ≡ true → Follows calm rest (us ++> (v.others ++> after))) → Viable front calm2 (seconds i) (ts ++ us)
  viable_second i ts us x rest opens stable v follows = record {
    others = v.others;
    spelled = v.spelled;
    value = v.value;
    begins = λ n after h. let o = opens n in o.1 _ (v.begins o.0 after h);
    reads = λ after h. ap (seconds i) (append_stream ts us (v.others ++> after))
        ∙ bind_ok (p i) (u i) _ x (us ++> (v.others ++> after)) (stable (us ++> (v.others ++> after)) (follows after h))
        ∙ v.reads after h;
  }

  module _ (s : Stream) (ts : List Lexeme) (x : A) (rest : Stream) (e : s ≡ ts ++> rest)
      (stable : (after : Stream) → Follows calm rest after → r (ts ++> after) ≡ Ok (x, after))
      (stable2 : (i : I) (after : Stream) → Follows calm rest after → p i (ts ++> after) ≡ Ok (x, after)) where
    through : (ts2 : List Lexeme) (rest2 after : Stream) → rest ≡ ts2 ++> rest2 → Follows calm rest2 after → Follows calm rest (ts2 ++> after)
    through ts2 rest2 after e2 h = subst (λ z. Follows calm z (ts2 ++> after)) (sym e2) (follows_through calm ts2 rest2 after h)

    is_split : (ts2 : List Lexeme) (rest2 : Stream) → rest ≡ ts2 ++> rest2 → s ≡ (ts ++ ts2) ++> rest2
    is_split ts2 rest2 e2 = e ∙ ap (λ z. ts ++> z) e2 ∙ sym (append_stream ts ts2 rest2)

    widened : Within calm2 calm → (s after : Stream) → Follows calm2 s after → Follows calm s after
    widened w s after (inl h) = inl h
    widened w s after (inr c) = inr (w (ahead after) c)

    -- where nothing is taken, the first reader may take nothing
    opening : Wide front front2 calm r → (us a : List Lexeme) → ((after : Stream) → Follows calm rest after → r (a ++> after) ≡ Ok (x, after)) → a ++ us ≡ [] → (us ≡ []) × Within front2 front
    opening w us (t ∷ a) go n = cc
    opening (wider w) us [] go n = (n, w)
    opening (moves quiet f none) us [] go n = let good = go (ends 0) (inr quiet) in cc

    -- what follows the second reader, seen from the first
    told : Parts calm calm2 q → (ts2 : List Lexeme) (y : B) (rest2 : Stream) → rest ≡ ts2 ++> rest2 → ((after : Stream) → Follows calm2 rest2 after → q x (ts2 ++> after) ≡ Ok (y, after)) → (after : Stream) → Follows calm2 rest2 after → Follows calm rest (ts2 ++> after)
    told (calmer w) ts2 y rest2 e2 go after h = through ts2 rest2 after e2 (widened w rest2 after h)
    told (takes quiet f none) [] y rest2 e2 go after h = let good = go (ends 0) (inr quiet) in let bad = none x in cc
    told (takes quiet f none) (t ∷ ts2) y rest2 e2 go after h = inl (sym (ap head e2))

    cause_second : (ts2 : List Lexeme) (f : Stop X) (rest2 : Stream) → rest ≡ ts2 ++> rest2 → Cause front2 calm2 (λ i. u i x) ts2 f rest2 → Cause front calm2 seconds (ts ++ ts2) f rest2
    cause_second ts2 f rest2 e2 (refused is same) =
        refused is (λ i after h. ap (seconds i) (append_stream ts ts2 after) ∙ bind_ok (p i) (u i) _ x (ts2 ++> after) (stable2 i (ts2 ++> after) (through ts2 rest2 after e2 (inl h))) ∙ same i after h)
    cause_second ts2 f rest2 e2 (over y t after0 is next v) =
        over y t after0 is next
        (λ i. subst (λ (z : List Lexeme). Viable front calm2 (seconds i) z) (sym (append_assoc ts ts2 (t ∷ [])))
        (viable_second i ts (ts2 ++ t ∷ []) x rest (opening wide (ts2 ++ t ∷ []) ts stable) (stable2 i) (v i)
        (λ after h. subst (λ z. Follows calm rest z) (sym (append_stream ts2 (t ∷ []) ((v i).others ++> after)))
        (through ts2 rest2 (more t ((v i).others ++> after)) e2 (inl (sym (ap head next)))))))

    beyond : (i : I) (ts2 : List Lexeme) (rest2 : Stream) → rest ≡ ts2 ++> rest2 → (v : Viable front2 calm2 (u i x) ts2) → (after : Stream) → calm2 (ahead after) ≡ true → Follows calm rest (ts2 ++> (v.others ++> after))
    beyond i [] rest2 e2 v after h = inr (meets _ (v.begins refl after h))
    beyond i (t ∷ ts2) rest2 e2 v after h = inl (sym (ap head e2))

    after_both : SteadyAt front2 calm2 (q x) (λ i. u i x) rest → SteadyAt front calm2 (then_reads r q) seconds s
    after_both (both ts2 y rest2 e2 go1 go2) =
        both (ts ++ ts2) y rest2 (is_split ts2 rest2 e2)
        (λ after h. ap (then_reads r q) (append_stream ts ts2 after) ∙ bind_ok r q _ x (ts2 ++> after) (stable (ts2 ++> after) (told parts ts2 y rest2 e2 go1 after h)) ∙ go1 after h)
        (λ i after h. ap (seconds i) (append_stream ts ts2 after) ∙ bind_ok (p i) (u i) _ x (ts2 ++> after) (stable2 i (ts2 ++> after) (told parts ts2 y rest2 e2 go1 after h)) ∙ go2 i after h)
    after_both (stops ts2 f rest2 e2 same v cause) =
        stops (ts ++ ts2) f rest2 (is_split ts2 rest2 e2)
        (λ after h. ap (then_reads r q) (append_stream ts ts2 after) ∙ bind_ok r q _ x (ts2 ++> after) (stable (ts2 ++> after) (through ts2 rest2 after e2 (inl h))) ∙ same after h)
        (λ i. viable_second i ts ts2 x rest (opening wide ts2 ts stable) (stable2 i) (v i) (λ after h. beyond i ts2 rest2 e2 (v i) after h))
        (cause_second ts2 f rest2 e2 cause)

  cause_first : (ts : List Lexeme) (f : Stop X) (rest : Stream) → Cause front calm p ts f rest → Cause front calm2 seconds ts f rest
  cause_first ts f rest (refused is same) = refused is (λ i after h. bind_err (p i) (u i) _ f (same i after h))
  cause_first ts f rest (over y t after is next v) = over y t after is next (λ i. viable_first front calm front2 calm2 meets (p i) (u i) (short i) (ts ++ t ∷ []) (v i))

  -- one reader, and behind it another
  pub at_bind : (s : Stream) → SteadyAt front calm r p s → ((ts : List Lexeme) (x : A) (rest : Stream) → s ≡ ts ++> rest → SteadyAt front2 calm2 (q x) (λ i. u i x) rest) → SteadyAt front calm2 (then_reads r q) (λ i. then_reads (p i) (u i)) s
  at_bind s (both ts x rest e stable stable2) next = after_both s ts x rest e stable stable2 (next ts x rest e)
  at_bind s (stops ts f rest e same v cause) next = stops ts f rest e (λ after h. bind_err r q _ f (same after h)) (λ i. viable_first front calm front2 calm2 meets (p i) (u i) (short i) ts (v i)) (cause_first ts f rest cause)

nonempty : (ts us : List Lexeme) (t : Lexeme) → ts ++ t ∷ [] ≡ [] → us ++ t ∷ [] ≡ []
nonempty [] us t n = cc
nonempty (u ∷ ts) us t n = cc

module _ {I X A : Type 0} (front calm : Sign → Bool) (r q : Stream → Read X A) (p u : I → Stream → Read X A) where
  cause_as : (ts us : List Lexeme) (f : Stop X) (rest : Stream) → ((i : I) (z : Stream) → head z ≡ head rest → p i (ts ++> z) ≡ u i (us ++> z)) → ((i : I) (z : Stream) (t : Lexeme) → head rest ≡ head (more t z) → p i ((ts ++ t ∷ []) ++> z) ≡ u i ((us ++ t ∷ []) ++> z)) → Cause front calm u us f rest → Cause front calm p ts f rest
  cause_as ts us f rest agree agree2 (refused is same) = refused is (λ i after h. agree i after h ∙ same i after h)
  cause_as ts us f rest agree agree2 (over y t after is next v) = over y t after is next (λ i. viable_as front calm (p i) (u i) (ts ++ t ∷ []) (us ++ t ∷ []) (nonempty ts us t) (λ z. agree2 i z t (ap head next)) (v i))

  -- the same readers wherever the next token is the same, calm, or one that may begin
  pub at_choice : (s : Stream) → ((after : Stream) → Follows calm s after → r after ≡ q after) → ((i : I) (after : Stream) → Follows calm s after → p i after ≡ u i after) → ((i : I) (after : Stream) → front (ahead after) ≡ true → p i after ≡ u i after)
      → SteadyAt front calm q u s → SteadyAt front calm r p s
  at_choice s agree agree2 agree3 (both ts x rest e go1 go2) =
      both ts x rest e
      (λ after h. agree (ts ++> after) (subst (λ z. Follows calm z (ts ++> after)) (sym e) (follows_through calm ts rest after h)) ∙ go1 after h)
      (λ i after h. agree2 i (ts ++> after) (subst (λ z. Follows calm z (ts ++> after)) (sym e) (follows_through calm ts rest after h)) ∙ go2 i after h)
  at_choice s agree agree2 agree3 (stops ts f rest e same v cause) =
      stops ts f rest e
      (λ after h. agree (ts ++> after) (follow after (inl h)) ∙ same after h)
      (λ i. record { others = (v i).others; spelled = (v i).spelled; value = (v i).value; begins = (v i).begins; reads = λ after h. agreed i ts e (v i) after h ∙ (v i).reads after h })
      (cause_as ts ts f rest (λ i z h. agree2 i (ts ++> z) (follow z (inl h)))
      (λ i z t h. ap (p i) (append_stream ts (t ∷ []) z) ∙ agree2 i (ts ++> more t z) (follow (more t z) (inl (sym h))) ∙ ap (u i) (sym (append_stream ts (t ∷ []) z))) cause)
    where
      follow : (z : Stream) → Follows calm rest z → Follows calm s (ts ++> z)
      follow z h = subst (λ y. Follows calm y (ts ++> z)) (sym e) (follows_through calm ts rest z h)

      agreed : (i : I) (a : List Lexeme) → s ≡ a ++> rest → (w : Viable front calm (u i) a) → (after : Stream) → calm (ahead after) ≡ true → p i (a ++> (w.others ++> after)) ≡ u i (a ++> (w.others ++> after))
      agreed i [] is w after h = agree3 i _ (w.begins refl after h)
      agreed i (t ∷ a) is w after h = agree2 i (more t (a ++> (w.others ++> after))) (inl (sym (ap head is)))

-- behind a token, whatever may begin what stands behind it
module _ {I X A : Type 0} (front front2 calm : Sign → Bool) (r q : Stream → Read X A) (p u : I → Stream → Read X A) where
  viable_behind : (i : I) (t : Lexeme) (ts : List Lexeme) → ((after : Stream) → p i (more t after) ≡ u i after) → Viable front2 calm (u i) ts → Viable front calm (p i) (t ∷ ts)
  viable_behind i t ts agree v = record { others = v.others; spelled = v.spelled; value = v.value; begins = λ n. cc; reads = λ after h. agree (ts ++> (v.others ++> after)) ∙ v.reads after h }

  cause_behind : (t : Lexeme) (ts : List Lexeme) (f : Stop X) (rest : Stream) → ((i : I) (after : Stream) → p i (more t after) ≡ u i after) → Cause front2 calm u ts f rest → Cause front calm p (t ∷ ts) f rest
  cause_behind t ts f rest agree (refused is same) = refused is (λ i after h. agree i (ts ++> after) ∙ same i after h)
  cause_behind t ts f rest agree (over y w after is next v) = over y w after is next (λ i. viable_behind i t (ts ++ w ∷ []) (agree i) (v i))

  pub at_shift : (t : Lexeme) (s : Stream) → ((after : Stream) → r (more t after) ≡ q after) → ((i : I) (after : Stream) → p i (more t after) ≡ u i after) → SteadyAt front2 calm q u s → SteadyAt front calm r p (more t s)
  at_shift t s agree agree2 (both ts x rest e go1 go2) =
      both (t ∷ ts) x rest (ap (more t) e) (λ after h. agree (ts ++> after) ∙ go1 after h) (λ i after h. agree2 i (ts ++> after) ∙ go2 i after h)
  at_shift t s agree agree2 (stops ts f rest e same v cause) =
      stops (t ∷ ts) f rest (ap (more t) e) (λ after h. agree (ts ++> after) ∙ same after h) (λ i. viable_behind i t ts (agree2 i) (v i)) (cause_behind t ts f rest agree2 cause)

-- where more may begin
module _ {I X A : Type 0} (front front2 calm : Sign → Bool) (wide : Within front front2) (r : Stream → Read X A) (p : I → Stream → Read X A) where
  viable_weak : (i : I) (ts : List Lexeme) → Viable front calm (p i) ts → Viable front2 calm (p i) ts
  viable_weak i ts v = record { others = v.others; spelled = v.spelled; value = v.value; begins = λ n after h. wide _ (v.begins n after h); reads = v.reads }

  cause_weak : (ts : List Lexeme) (f : Stop X) (rest : Stream) → Cause front calm p ts f rest → Cause front2 calm p ts f rest
  cause_weak ts f rest (refused is same) = refused is same
  cause_weak ts f rest (over y w after is next v) = over y w after is next (λ i. viable_weak i (ts ++ w ∷ []) (v i))

  pub at_weak : (s : Stream) → SteadyAt front calm r p s → SteadyAt front2 calm r p s
  at_weak s (both ts x rest e go1 go2) = both ts x rest e go1 go2
  at_weak s (stops ts f rest e same v cause) = stops ts f rest e same (λ i. viable_weak i ts (v i)) (cause_weak ts f rest cause)

module _ {I X A : Type 0} (front calm : Sign → Bool) (r : Stream → Read X A) (p : I → Stream → Read X A) where
  -- nothing stands here that could be read
  pub at_stuck : (s : Stream) → ((after : Stream) → ahead after ≡ ahead s → r after ≡ Err (refusal after)) → ((i : I) (after : Stream) → ahead after ≡ ahead s → p i after ≡ Err (refusal after)) → ((i : I) → Viable front calm (p i) []) → SteadyAt front calm r p s
  at_stuck s refuses refuses2 v =
      stops [] (refusal s) s refl (λ after h. refuses after (ahead_same s after h) ∙ ap Err (refusal_same s after h)) v
      (refused refl (λ i after h. refuses2 i after (ahead_same s after h) ∙ ap Err (refusal_same s after h)))

  -- one token is all
  pub at_one : (t : Lexeme) (x : A) (s : Stream) → ((after : Stream) → r (more t after) ≡ Ok (x, after)) → ((i : I) (after : Stream) → p i (more t after) ≡ Ok (x, after)) → SteadyAt front calm r p (more t s)
  at_one t x s reads reads2 = both (t ∷ []) x s refl (λ after h. reads after) (λ i after h. reads2 i after)

  -- a token that the readers p go on over, and r doesn't
  pub at_over : (t : Lexeme) (y : X) (s : Stream) → ((after : Stream) → r (more t after) ≡ Err (other y)) → ((i : I) → Viable front calm (p i) []) → ((i : I) → Viable front calm (p i) (t ∷ [])) → SteadyAt front calm r p (more t s)
  at_over t y s refuses v v2 =
      stops [] (other y) (more t s) refl (λ after h. let m = token_is t after h in ap r m.1 ∙ refuses m.0) v (over y t s refl refl v2)

pub short_gives : {X A B : Type 0} (front calm : Sign → Bool) → Within calm front → (f : A → B) → Short {X = X} front calm (λ x. gives (f x))
short_gives front calm cf f = record { text = λ x. []; spelled = λ x. none_spelled; value = f; begins = λ x after c. cf _ c; reads = λ x after c. refl }

pub at_gives : {I X A : Type 0} (front calm : Sign → Bool) (x : A) (s : Stream) → SteadyAt {I = I} {X = X} front calm (gives x) (λ i. gives x) s
at_gives front calm x s = both [] x s refl (λ after h. refl) (λ i after h. refl)

-- the token that is wanted; w is such a token
module _ {X : Type 0} (front calm : Sign → Bool) (mark : Mark) (w : Lexeme) (w_spelled : IsSpelled w) (w_is : is (sign_of w) mark ≡ true) (w_front : front (sign_of w) ≡ true) where
  pub viable_expected : Viable {X = X} front calm (expected mark) []
  viable_expected = record { others = w ∷ []; spelled = one_spelled w w_spelled; value = w.start; begins = λ n after h. w_front; reads = λ after h. rw w_is refl }

  pub short_expected : {A : Type 0} → Short {X = X} {A = A} front calm (λ x. expected mark)
  short_expected = record { text = λ x. w ∷ []; spelled = λ x. one_spelled w w_spelled; value = λ x. w.start; begins = λ x after h. w_front; reads = λ x after h. rw w_is refl }

  pub at_expected : {I : Type 0} (s : Stream) → SteadyAt {I = I} {X = X} front calm (expected mark) (λ i. expected mark) s
  at_expected {I} s = at_test (is (ahead s) mark) s refl
    where
      at_test : (b : Bool) (s : Stream) → b ≡ is (ahead s) mark → SteadyAt {I = I} {X = X} front calm (expected mark) (λ i. expected mark) s
      at_test false s e = at_stuck front calm (expected mark) (λ i. expected mark) s (λ after h. rw (h, ← e) refl) (λ i after h. rw (h, ← e) refl) (λ i. viable_expected)
      at_test true (ends p) e = cc
      at_test true (breaks f) e = cc
      at_test true (more t s) e = at_one front calm (expected mark) (λ i. expected mark) t t.start s (λ after. rw (← e) refl) (λ i after. rw (← e) refl)

-- a name; w is one
module _ {X : Type 0} (front calm : Sign → Bool) (w : Lexeme) (w_spelled : IsSpelled w) (w_is : is_name (sign_of w) ≡ true) (w_front : front (sign_of w) ≡ true) where
  pub viable_named : Viable {X = X} front calm named []
  viable_named = record { others = w ∷ []; spelled = one_spelled w w_spelled; value = label_of w; begins = λ n after h. w_front; reads = λ after h. rw w_is refl }

  pub short_named : {A : Type 0} → Short {X = X} {A = A} front calm (λ x. named)
  short_named = record { text = λ x. w ∷ []; spelled = λ x. one_spelled w w_spelled; value = λ x. label_of w; begins = λ x after h. w_front; reads = λ x after h. rw w_is refl }

  pub at_named : {I : Type 0} (s : Stream) → SteadyAt {I = I} {X = X} front calm named (λ i. named) s
  at_named {I} s = at_test (is_name (ahead s)) s refl
    where
      at_test : (b : Bool) (s : Stream) → b ≡ is_name (ahead s) → SteadyAt {I = I} {X = X} front calm named (λ i. named) s
      at_test false s e = at_stuck front calm named (λ i. named) s (λ after h. rw (h, ← e) refl) (λ i after h. rw (h, ← e) refl) (λ i. viable_named)
      at_test true (ends p) e = cc
      at_test true (breaks f) e = cc
      at_test true (more t s) e = at_one front calm named (λ i. named) t (label_of t) s (λ after. rw (← e) refl) (λ i after. rw (← e) refl)
