-- Tokens, and what is made of what was read, beside each other; and a loop.
use Rattle.std.proofs.Common.{◌≡◌, ℕ, zero, suc, ◌+◌, ◌<◌, ◌≤◌, Bool, true, false, List, [], ◌∷◌, ◌++◌, length, Ok, Err, refl, sym, ap, subst, ◌∙◌, arith}
use Rattle.std.specs.Prelude.{not}
use Rattle.st_tokens.specs.Stream.{◌++>◌, Lexeme, Stream, ends, breaks, more}
use Rattle.st_reading.specs.declared.mark.Mark.{Mark}
use Rattle.st_reading.specs.declared.sign.Sign.{Sign}
use Rattle.st_reading.specs.declared.sign.Sign.TheVariants as signs
use Rattle.st_reading.specs.Sign.{sign_of, is}
use Rattle.st_reading.specs.Reading.{Stop, other, ahead, size, refusal, expected, then_reads, gives}
use Rattle.st_reading.specs.Steady.{head, Short, anything}
use Rattle.st_reading.specs.BrokenRules.{Broken}
use Rattle.st_reading.proofs.Streams.{ahead_same, same_through}
use Rattle.st_reading.proofs.Spelled.{none_spelled}
use Rattle.st_reading.proofs.Soundness.{split, values}
use Rattle.st_reading.proofs.Steadiness.{bind_ok, bind_err}
use Rattle.st_reading.proofs.Judging.{Reader, JudgedAt, good, bad, alike, judged_bind}
use Rattle.st_reading.proofs.Whiles.{while_of, while_none, while_step, stream_size}

pub not_empty : {X : Type 0} (b : Broken X) (bs : List (Broken X)) → b ∷ bs ≡ [] → ⊥
not_empty b bs h = absurd cc

module _ {X A B : Type 0} (Plain : Stop X → Type 0) (calm : Sign → Bool) (at : ℕ) (judge : Reader X A) (plain : Reader X B) (count : B → ℕ) (rules : B → List (Broken X)) (makes : B → A → Type 0) where
  -- neither reads what stands there
  pub judged_refused : (s : Stream) → Plain (refusal s) → judge s ≡ Err (refusal s) → plain s ≡ Err (refusal s) → JudgedAt Plain calm at judge plain count rules makes s
  judged_refused s q h k = alike (refusal s) q h k

  -- readers that do the same where the same token stands ahead
  pub judged_as : (judge2 : Reader X A) (plain2 : Reader X B) (s : Stream) → ((after : Stream) → head after ≡ head s → judge2 after ≡ judge after) → ((after : Stream) → head after ≡ head s → plain2 after ≡ plain after) → JudgedAt Plain calm at judge plain count rules makes s → JudgedAt Plain calm at judge2 plain2 count rules makes s
  judged_as judge2 plain2 s same same2 (good ts b a rest is go go2 many none made) =
      good ts b a rest is (λ after h. same2 (ts ++> after) (same_through ts rest after h ∙ sym (ap head is)) ∙ go after h) (λ after h. same (ts ++> after) (same_through ts rest after h ∙ sym (ap head is)) ∙ go2 after h) many none made
  judged_as judge2 plain2 s same same2 (bad t ts rest first open_to is found settles stops told v onward) =
      bad t ts rest first open_to is found settles (λ after h. same (more t (ts ++> after)) (sym (ap head is)) ∙ stops after h)
      (λ after b m h r. told after b m h (sym (same2 (more t (ts ++> after)) (sym (ap head is))) ∙ r))
      (record { others = v.others; spelled = v.spelled; value = v.value; reads = λ after h. same2 (more t (ts ++> (v.others ++> after))) (sym (ap head is)) ∙ v.reads after h; settled = v.settled })
      (λ d g. let c = onward d g in record { others = c.others; spelled = c.spelled; value = c.value; reads = λ after h. same2 ((t ∷ ts ++ d ∷ []) ++> (c.others ++> after)) (sym (ap head is)) ∙ c.reads after h; settled = c.settled })
  judged_as judge2 plain2 s same same2 (alike f p h k) = alike f p (same s refl ∙ h) (same2 s refl ∙ k)

  -- what is judged is read plainly
  pub judged_ok : (s : Stream) → JudgedAt Plain calm at judge plain count rules makes s → (a : A) (rest : Stream) → judge s ≡ Ok (a, rest) → (b : B) × (plain s ≡ Ok (b, rest)) × makes b a × (rules b ≡ [])
  judged_ok s (good ts b x m is go go2 many none made) a rest h =
      let v = values (judge s) x a m rest (ap judge is ∙ go2 m refl) h in
      (b, ap plain is ∙ go m refl ∙ ap (λ z. Ok (b, z)) v.1, subst (makes b) v.0 made, none)
  judged_ok s (bad t ts m first open_to is found settles stops told v onward) a rest h = let e : judge s ≡ Err (other first.fault) = ap judge is ∙ stops m settles in absurd cc
  judged_ok s (alike f p h k) a rest r = absurd cc

  -- and what is read plainly and breaks no rule is judged
  pub judged_raw : (s : Stream) → JudgedAt Plain calm at judge plain count rules makes s → (b : B) (rest : Stream) → plain s ≡ Ok (b, rest) → rules b ≡ [] → (a : A) × (judge s ≡ Ok (a, rest)) × makes b a
  judged_raw s (good ts x a m is go go2 many none made) b rest h lawful =
      let v = values (plain s) x b m rest (ap plain is ∙ go m refl) h in
      (a, ap judge is ∙ go2 m refl ∙ ap (λ z. Ok (a, z)) v.1, subst (λ z. makes z a) v.0 made)
  judged_raw s (bad t ts m first open_to is found settles stops told v onward) b rest h lawful =
      let k = told m b rest settles (ap plain (sym is) ∙ h) in
      absurd (not_empty first k.0 (sym k.1 ∙ lawful))
  judged_raw s (alike f p h k) b rest r lawful = absurd cc

  -- no more is left than there was
  pub judged_shrinks : ((b : B) → 0 < count b) → (s : Stream) → JudgedAt Plain calm at judge plain count rules makes s → (a : A) (rest : Stream) → judge s ≡ Ok (a, rest) → size rest < size s
  judged_shrinks positive s (good ts b x rest is go go2 many none made) a after h =
      let v = values (judge s) x a rest after (ap judge is ∙ go2 rest refl) h in
      omega (arith, stream_size ts rest, ap size is, positive b, many, ap size v.1)
  judged_shrinks positive s (bad t ts rest first open_to is found settles stops told v onward) a after h = let e : judge s ≡ Err (other first.fault) = ap judge is ∙ stops rest settles in cc
  judged_shrinks positive s (alike f p h k) a after r = cc

  -- what is made of what is read plainly
  pub judged_map : {C : Type 0} (f : B → C) (count2 : C → ℕ) (rules2 : C → List (Broken X)) (makes2 : C → A → Type 0) → ((b : B) → count2 (f b) ≡ count b) → ((b : B) → rules2 (f b) ≡ rules b) → ((b : B) (a : A) → makes b a → makes2 (f b) a)
      → (s : Stream) → JudgedAt Plain calm at judge plain count rules makes s → JudgedAt Plain calm at judge (then_reads plain (λ b. gives (f b))) count2 rules2 makes2 s
  judged_map f count2 rules2 makes2 same same2 makes3 s (good ts b a rest is go go2 many none made) =
      good ts (f b) a rest is (λ after h. bind_ok plain (λ b. gives (f b)) (ts ++> after) b after (go after h)) go2 (same b ∙ many) (same2 b ∙ none) (makes3 b a made)
  judged_map f count2 rules2 makes2 same same2 makes3 s (bad t ts rest first open_to is found settles stops told v onward) =
      bad t ts rest first open_to is found settles stops
      (λ after c m h r.
      let p = split plain (λ b. gives (f b)) (more t (ts ++> after)) c m r in
      let w = values {X = X} (gives (f p.value) p.middle) (f p.value) c p.middle m refl p.second in
      let k = told after p.value p.middle h p.first in
      (k.0, ap rules2 (sym w.0) ∙ same2 p.value ∙ k.1))
      (record { others = v.others; spelled = v.spelled; value = f v.value; reads = λ after h. bind_ok plain (λ b. gives (f b)) (more t (ts ++> (v.others ++> after))) v.value after (v.reads after h); settled = v.settled })
      (λ d g. let c = onward d g in record { others = c.others; spelled = c.spelled; value = f c.value; reads = λ after h. bind_ok plain (λ b. gives (f b)) ((t ∷ ts ++ d ∷ []) ++> (c.others ++> after)) c.value after (c.reads after h); settled = c.settled })
  judged_map f count2 rules2 makes2 same same2 makes3 s (alike g p h k) = alike g p h (bind_err plain (λ b. gives (f b)) s g k)

-- values that are there
pub judged_gives : {X A B : Type 0} (Plain : Stop X → Type 0) (calm : Sign → Bool) (at : ℕ) (a : A) (b : B) (count : B → ℕ) (rules : B → List (Broken X)) (makes : B → A → Type 0) → count b ≡ 0 → rules b ≡ [] → makes b a → (s : Stream) → JudgedAt Plain calm at (gives a) (gives b) count rules makes s
judged_gives Plain calm at a b count rules makes none lawful made s = good [] b a s refl (λ after h. refl) (λ after h. refl) none lawful made

-- the token that is wanted
pub judged_expected : {X : Type 0} (Plain : Stop X → Type 0) → ((s : Stream) → Plain (refusal s)) → (calm : Sign → Bool) (at : ℕ) (m : Mark) (s : Stream) → JudgedAt Plain calm at (expected m) (expected m) (λ n. 1) (λ n. []) (λ n k. k ≡ n) s
judged_expected Plain refused calm at m (ends p) = judged_refused Plain calm at (expected m) (expected m) (λ n. 1) (λ n. []) (λ n k. k ≡ n) (ends p) (refused (ends p)) refl refl
judged_expected Plain refused calm at m (breaks f) = judged_refused Plain calm at (expected m) (expected m) (λ n. 1) (λ n. []) (λ n k. k ≡ n) (breaks f) (refused (breaks f)) refl refl
judged_expected Plain refused calm at m (more t s) = at_test (is (sign_of t) m) refl
  where
    at_test : (b : Bool) → is (sign_of t) m ≡ b → JudgedAt Plain calm at (expected m) (expected m) (λ n. 1) (λ n. []) (λ n k. k ≡ n) (more t s)
    at_test true e = good (t ∷ []) t.start t.start s refl (λ after h. rw e refl) (λ after h. rw e refl) refl refl refl
    at_test false e = judged_refused Plain calm at (expected m) (expected m) (λ n. 1) (λ n. []) (λ n k. k ≡ n) (more t s) (refused (more t s)) (rw e refl) (rw e refl)

-- how many tokens items have; what a loop makes of them; what doesn't go on with a loop
abbrev pub total : {A : Type 0} → (A → ℕ) → List A → ℕ
total count [] = 0
total count (a ∷ xs) = count a + total count xs

abbrev pub Turns : {S A : Type 0} → (S → A → S → Type 0) → S → List A → S → Type 0
Turns makes x [] y = x ≡ y
Turns {S} makes x (a ∷ xs) y = (z : S) × makes x a z × Turns makes z xs y

abbrev pub but_not : (Sign → Bool) → Sign → Bool
but_not test g = not (test g)

pub not_tested : (test : Sign → Bool) (g : Sign) → but_not test g ≡ true → test g ≡ false
not_tested test g h = at_test (test g) h
  where
    at_test : (b : Bool) → not b ≡ true → b ≡ false
    at_test true h = absurd cc
    at_test false h = refl

-- A LOOP. `Sees x k`: the rules see k of what the judging loop has, x.
module _ {X S K A : Type 0} (Plain : Stop X → Type 0) (test : Sign → Bool) (nothing : test signs.Nothing ≡ false) (loop : S → Reader X S) (front : S → Reader X S) (item : Reader X A)
    (loop_none : (x : S) (s : Stream) → test (ahead s) ≡ false → loop x s ≡ Ok (x, s))
    (loop_step : (x : S) (t : Lexeme) (s : Stream) → test (sign_of t) ≡ true → loop x (more t s) ≡ then_reads (front x) loop (more t s))
    (strict : (s : Stream) (y : A) (rest : Stream) → item s ≡ Ok (y, rest) → size rest < size s)
    (count : A → ℕ) (positive : (a : A) → 0 < count a) (makes : S → A → S → Type 0) (Sees : S → K → Type 0) (step : K → A → K) (sees : (x y : S) (k : K) (a : A) → Sees x k → makes x a y → Sees y (step k a))
    (rules : K → ℕ → A → List (Broken X)) (all_rules : K → ℕ → List A → List (Broken X)) (no_rules : (k : K) (at : ℕ) → all_rules k at [] ≡ []) (more_rules : (k : K) (at : ℕ) (a : A) (xs : List A) → all_rules k at (a ∷ xs) ≡ rules k at a ++ all_rules (step k a) (at + count a) xs)
    (judged_item : (x : S) (k : K) (at : ℕ) → Sees x k → (s : Stream) → JudgedAt Plain anything at (front x) item count (rules k at) (makes x) s) where
  abbrev calm_end : Sign → Bool
  calm_end = but_not test

  abbrev all_count : List A → ℕ
  all_count = total count

  abbrev Makes : S → List A → S → Type 0
  Makes = Turns makes

  abbrev loops : Reader X (List A)
  loops = while_of test item

  abbrev behind : A → Reader X (List A)
  behind a = then_reads loops (λ xs. gives (a ∷ xs))

  abbrev others : List A → List A
  others [] = []
  others (a ∷ xs) = xs

  short : Short anything calm_end behind
  short = record { text = λ a. []; spelled = λ a. none_spelled; value = λ a. a ∷ []; begins = λ a after h. refl; reads = λ a after h. bind_ok loops (λ xs. gives (a ∷ xs)) after [] after (while_none test item (size after) after (not_tested test (ahead after) h)) }

  read_behind : (b : A) (c : List A) (s rest : Stream) → behind b s ≡ Ok (c, rest) → c ≡ b ∷ others c
  read_behind b c s rest h =
      let p = split loops (λ xs. gives (b ∷ xs)) s c rest h in
      let v = values {X = X} (gives (b ∷ p.value) p.middle) (b ∷ p.value) c p.middle rest refl p.second in
      sym v.0 ∙ ap (λ xs. b ∷ others xs) v.0

  module _ (x : S) (k : K) (at : ℕ) where
    counted : (b : A) (c : List A) (s rest : Stream) → behind b s ≡ Ok (c, rest) → all_count c ≡ count b + all_count (others c)
    counted b c s rest h = ap all_count (read_behind b c s rest h)

    ruled : (b : A) (c : List A) (s rest : Stream) → behind b s ≡ Ok (c, rest) → all_rules k at c ≡ rules k at b ++ all_rules (step k b) (at + count b) (others c)
    ruled b c s rest h = ap (all_rules k at) (read_behind b c s rest h) ∙ more_rules k at b (others c)

    at_end : (s : Stream) → test (ahead s) ≡ false → JudgedAt Plain calm_end at (loop x) loops all_count (all_rules k at) (Makes x) s
    at_end s e =
        good [] [] x s refl
        (λ after h. while_none test item (size after) after (ap test (ahead_same s after h) ∙ e))
        (λ after h. loop_none x after (ap test (ahead_same s after h) ∙ e)) refl (no_rules k at) refl

    at_item : (t : Lexeme) (s : Stream) → test (sign_of t) ≡ true → Sees x k
        → ((ts : List Lexeme) (b : A) (y : S) (rest : Stream) → more t s ≡ ts ++> rest → count b ≡ length ts → makes x b y → JudgedAt Plain calm_end (at + count b) (loop y) loops all_count (all_rules (step k b) (at + count b)) (Makes y) rest)
        → JudgedAt Plain calm_end at (loop x) loops all_count (all_rules k at) (Makes x) (more t s)
    at_item t s e seen again =
        judged_as Plain calm_end at (then_reads (front x) loop) (then_reads item behind) all_count (all_rules k at) (Makes x) (loop x) loops (more t s)
        (λ after h. at_head after h) (λ after h. at_head2 after h)
        (judged_bind Plain anything calm_end at (front x) item count (rules k at) (makes x) loop behind all_count (all_rules k at) (Makes x) (λ b c. all_count (others c)) (λ b c. all_rules (step k b) (at + count b) (others c)) counted ruled short (more t s)
        (judged_item x k at seen (more t s))
        (λ ts b y rest is many made. judged_map Plain calm_end (at + count b) (loop y) loops all_count (all_rules (step k b) (at + count b)) (Makes y) (λ xs. b ∷ xs) (λ c. all_count (others c)) (λ c. all_rules (step k b) (at + count b) (others c)) (Makes x) (λ xs. refl) (λ xs. refl) (λ xs z m. (y, made, m)) rest (again ts b y rest is many made)))
      where
        at_head : (after : Stream) → head after ≡ head (more t s) → loop x after ≡ then_reads (front x) loop after
        at_head (ends p) h = absurd cc
        at_head (breaks f) h = absurd cc
        at_head (more u m) h = let same : u ≡ t = cc in loop_step x u m (ap (λ (v : Lexeme). test (sign_of v)) same ∙ e)

        at_head2 : (after : Stream) → head after ≡ head (more t s) → loops after ≡ then_reads item behind after
        at_head2 (ends p) h = absurd cc
        at_head2 (breaks f) h = absurd cc
        at_head2 (more u m) h = let same : u ≡ t = cc in while_step test item nothing strict u m (ap (λ (v : Lexeme). test (sign_of v)) same ∙ e)

  at_more : (n : ℕ) → ((x : S) (k : K) (at : ℕ) (s : Stream) → size s ≤ n → Sees x k → JudgedAt Plain calm_end at (loop x) loops all_count (all_rules k at) (Makes x) s)
      → (x : S) (k : K) (at : ℕ) (t : Lexeme) (s : Stream) → size s ≤ n → Sees x k → (b : Bool) → test (sign_of t) ≡ b → JudgedAt Plain calm_end at (loop x) loops all_count (all_rules k at) (Makes x) (more t s)
  at_more n again x k at t s le seen false e = at_end x k at (more t s) e
  at_more n again x k at t s le seen true e = at_item x k at t s e seen (λ ts b y rest is many made. again y (step k b) (at + count b) rest (omega (arith, stream_size ts rest, ap size is, positive b, many)) (sees x y k b seen made))

  within : (n : ℕ) (x : S) (k : K) (at : ℕ) (s : Stream) → size s ≤ n → Sees x k → JudgedAt Plain calm_end at (loop x) loops all_count (all_rules k at) (Makes x) s
  within n x k at (ends p) le seen = at_end x k at (ends p) nothing
  within n x k at (breaks f) le seen = at_end x k at (breaks f) nothing
  within zero x k at (more t s) le seen = absurd (omega arith)
  within (suc n) x k at (more t s) le seen = at_more n (λ x k at s le seen. within n x k at s le seen) x k at t s (omega arith) seen (test (sign_of t)) refl

  pub judged_loop : (x : S) (k : K) (at : ℕ) → Sees x k → (s : Stream) → JudgedAt Plain calm_end at (loop x) loops all_count (all_rules k at) (Makes x) s
  judged_loop x k at seen s = within (size s) x k at s (omega arith) seen
