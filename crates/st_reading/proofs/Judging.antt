-- A reader that judges what it reads, beside the reader that doesn't, and how this comes from their parts.
use Rattle.std.proofs.Common.{◌≡◌, ℕ, suc, ◌+◌, Bool, true, false, List, [], ◌∷◌, ◌++◌, All, length, length-append, append_assoc, Ok, Err, refl, sym, ap, subst, ◌∙◌, arith}
use Rattle.std.proofs.lemmas.List.Elements.{All-append}
use Rattle.st_tokens.specs.Stream.{◌++>◌, Lexeme, Stream, ends, breaks, more, IsSpelled}
use Rattle.st_reading.specs.declared.sign.Sign.{Sign}
use Rattle.st_reading.specs.Reading.{Stop, other, Read, ahead, then_reads}
use Rattle.st_reading.specs.Steady.{head, Short}
use Rattle.st_reading.specs.BrokenRules.{Broken}
use Rattle.st_reading.proofs.Streams.{append_stream, same_through}
use Rattle.st_reading.proofs.Soundness.{split}
use Rattle.st_reading.proofs.Steadiness.{bind_ok, bind_err}

abbrev pub Reader : Type 0 → Type 0 → Type 0
Reader X A = Stream → Read X A

-- no token comes next with which what was read might go on
abbrev pub Settled : (Lexeme → Bool) → Stream → Type 0
Settled open_to (ends place) = Unit {0}
Settled open_to (breaks f) = Unit {0}
Settled open_to (more t s) = open_to t ≡ false

abbrev pub closed : Lexeme → Bool
closed t = false

-- The tokens can be completed to what the plain reader reads, by tokens that texts have, and what is open is settled then.
pub record Completed {X B : Type 0} (calm : Sign → Bool) (plain : Reader X B) (ts : List Lexeme) (open_to : Lexeme → Bool) : Type 0 where
  pub others : List Lexeme
  pub spelled : All IsSpelled others
  pub value : B
  pub reads : (after : Stream) → calm (ahead after) ≡ true → plain (ts ++> (others ++> after)) ≡ Ok (value, after)
  pub settled : (after : Stream) → calm (ahead after) ≡ true → Settled open_to (others ++> after)

-- At s both readers read the same tokens and no rule is broken; or the judging one stops where the first broken rule is found,
-- and whatever the plain one reads that begins with these tokens breaks this rule first; or both stop alike, for no rule.
pub data JudgedAt {X A B : Type 0} (Plain : Stop X → Type 0) (calm : Sign → Bool) (at : ℕ) (judge : Reader X A) (plain : Reader X B) (count : B → ℕ) (rules : B → List (Broken X)) (makes : B → A → Type 0) (s : Stream) : Type 0 where
  good : (ts : List Lexeme) (b : B) (a : A) (rest : Stream) → s ≡ ts ++> rest
      → ((after : Stream) → head after ≡ head rest → plain (ts ++> after) ≡ Ok (b, after))
      → ((after : Stream) → head after ≡ head rest → judge (ts ++> after) ≡ Ok (a, after))
      → count b ≡ length ts → rules b ≡ [] → makes b a
      → JudgedAt Plain calm at judge plain count rules makes s
  bad : (t : Lexeme) (ts : List Lexeme) (rest : Stream) (first : Broken X) (open_to : Lexeme → Bool) → s ≡ more t (ts ++> rest) → first.found ≡ at + suc (length ts) → Settled open_to rest
      → ((after : Stream) → Settled open_to after → judge (more t (ts ++> after)) ≡ Err (other first.fault))
      → ((after : Stream) (b : B) (m : Stream) → Settled open_to after → plain (more t (ts ++> after)) ≡ Ok (b, m) → (further : List (Broken X)) × (rules b ≡ first ∷ further))
      → Completed calm plain (t ∷ ts) open_to
      → ((d : Lexeme) → open_to d ≡ true → Completed calm plain (t ∷ ts ++ d ∷ []) closed)
      → JudgedAt Plain calm at judge plain count rules makes s
  alike : (f : Stop X) → Plain f → judge s ≡ Err f → plain s ≡ Err f → JudgedAt Plain calm at judge plain count rules makes s

-- ONE BEHIND ANOTHER
module _ {X A1 B1 A B : Type 0} (Plain : Stop X → Type 0) (calm1 calm : Sign → Bool) (at : ℕ) (judge1 : Reader X A1) (plain1 : Reader X B1) (count1 : B1 → ℕ) (rules1 : B1 → List (Broken X)) (makes1 : B1 → A1 → Type 0)
    (judge2 : A1 → Reader X A) (plain2 : B1 → Reader X B) (count : B → ℕ) (rules : B → List (Broken X)) (makes : B → A → Type 0) (count2 : B1 → B → ℕ) (rules2 : B1 → B → List (Broken X))
    (counted : (b : B1) (c : B) (s rest : Stream) → plain2 b s ≡ Ok (c, rest) → count c ≡ count1 b + count2 b c)
    (ruled : (b : B1) (c : B) (s rest : Stream) → plain2 b s ≡ Ok (c, rest) → rules c ≡ rules1 b ++ rules2 b c)
    (short : Short calm1 calm plain2) where
  abbrev judges : Reader X A
  judges = then_reads judge1 judge2

  abbrev plains : Reader X B
  plains = then_reads plain1 plain2

  first_completed : (ts : List Lexeme) (open_to : Lexeme → Bool) → Completed calm1 plain1 ts open_to → Completed calm plains ts open_to
  first_completed ts open_to v = record {
    others = v.others ++ short.text v.value;
    spelled = All-append IsSpelled v.others (short.text v.value) v.spelled (short.spelled v.value);
    value = short.value v.value;
    reads = λ after h. ap (λ s. plains (ts ++> s)) (append_stream v.others (short.text v.value) after)
        ∙ bind_ok plain1 plain2 _ v.value (short.text v.value ++> after) (v.reads (short.text v.value ++> after) (short.begins v.value after h))
        ∙ short.reads v.value after h;
    settled = λ after h. subst (Settled open_to) (sym (append_stream v.others (short.text v.value) after)) (v.settled (short.text v.value ++> after) (short.begins v.value after h));
  }

  module _ (s : Stream) (ts : List Lexeme) (b : B1) (a : A1) (rest : Stream) (is : s ≡ ts ++> rest)
      (go : (after : Stream) → head after ≡ head rest → plain1 (ts ++> after) ≡ Ok (b, after))
      (go2 : (after : Stream) → head after ≡ head rest → judge1 (ts ++> after) ≡ Ok (a, after))
      (many : count1 b ≡ length ts) (none : rules1 b ≡ []) where
    over_plain : (us : List Lexeme) (after : Stream) → head (us ++> after) ≡ head rest → plains ((ts ++ us) ++> after) ≡ plain2 b (us ++> after)
    over_plain us after h = ap plains (append_stream ts us after) ∙ bind_ok plain1 plain2 (ts ++> (us ++> after)) b (us ++> after) (go (us ++> after) h)

    over_judge : (us : List Lexeme) (after : Stream) → head (us ++> after) ≡ head rest → judges ((ts ++ us) ++> after) ≡ judge2 a (us ++> after)
    over_judge us after h = ap judges (append_stream ts us after) ∙ bind_ok judge1 judge2 (ts ++> (us ++> after)) a (us ++> after) (go2 (us ++> after) h)

    is_split : (us : List Lexeme) (rest2 : Stream) → rest ≡ us ++> rest2 → s ≡ (ts ++ us) ++> rest2
    is_split us rest2 e = is ∙ ap (λ z. ts ++> z) e ∙ sym (append_stream ts us rest2)

    -- a token behind other tokens
    abbrev joined : List Lexeme → Lexeme → List Lexeme → Type 0
    joined xs t us = (w : Lexeme) × (ws : List Lexeme) × (w ∷ ws ≡ xs ++ t ∷ us)

    join : (xs : List Lexeme) (t : Lexeme) (us : List Lexeme) → joined xs t us
    join [] t us = (t, us, refl)
    join (x ∷ xs) t us = (x, xs ++ t ∷ us, refl)

    module _ (t : Lexeme) (us : List Lexeme) (rest2 : Stream) (first : Broken X) (open_to : Lexeme → Bool) (e : rest ≡ more t (us ++> rest2)) (found : first.found ≡ at + count1 b + suc (length us)) (settles : Settled open_to rest2)
        (stops : (after : Stream) → Settled open_to after → judge2 a (more t (us ++> after)) ≡ Err (other first.fault))
        (told : (after : Stream) (c : B) (m : Stream) → Settled open_to after → plain2 b (more t (us ++> after)) ≡ Ok (c, m) → (further : List (Broken X)) × (rules2 b c ≡ first ∷ further))
        (v : Completed calm (plain2 b) (t ∷ us) open_to) (onward : (d : Lexeme) → open_to d ≡ true → Completed calm (plain2 b) (t ∷ us ++ d ∷ []) closed) where
      bad_for : (w : Lexeme) (ws : List Lexeme) → w ∷ ws ≡ ts ++ t ∷ us → JudgedAt Plain calm at judges plains count rules makes s
      bad_for w ws j =
          let e_is : rest ≡ more t (us ++> rest2) = e in
          let through : (after : Stream) → more w (ws ++> after) ≡ (ts ++ t ∷ us) ++> after = λ after. ap (λ (z : List Lexeme). z ++> after) j in
          let size : suc (length ws) ≡ length ts + suc (length us) = omega (arith, ap length j, length-append ts (t ∷ us)) in
          bad w ws rest2 first open_to (is_split (t ∷ us) rest2 e ∙ sym (through rest2)) (omega (arith, found, size, many)) settles
          (λ after h. ap judges (through after) ∙ over_judge (t ∷ us) after (ap head (sym e)) ∙ stops after h)
          (λ after c m h r.
          let read : plain2 b (more t (us ++> after)) ≡ Ok (c, m) = sym (over_plain (t ∷ us) after (ap head (sym e))) ∙ sym (ap plains (through after)) ∙ r in
          let k = told after c m h read in
          (k.0, ruled b c (more t (us ++> after)) m read ∙ ap (λ (z : List (Broken X)). z ++ rules2 b c) none ∙ k.1))
          (record {
            others = v.others;
            spelled = v.spelled;
            value = v.value;
            reads = λ after h. ap plains (through (v.others ++> after)) ∙ over_plain (t ∷ us) (v.others ++> after) (ap head (sym e)) ∙ v.reads after h;
            settled = v.settled;
          })
          (λ d g.
          let c = onward d g in
          let over : (after : Stream) → plains ((w ∷ ws ++ d ∷ []) ++> after) ≡ plain2 b ((t ∷ us ++ d ∷ []) ++> after) = λ after.
          ap (λ (z : List Lexeme). plains ((z ++ d ∷ []) ++> after)) j ∙ ap (λ (z : List Lexeme). plains (z ++> after)) (append_assoc ts (t ∷ us) (d ∷ [])) ∙ over_plain (t ∷ us ++ d ∷ []) after (ap head (sym e_is)) in
          record { others = c.others; spelled = c.spelled; value = c.value; reads = λ after h. over (c.others ++> after) ∙ c.reads after h; settled = c.settled })

    after_good : JudgedAt Plain calm (at + count1 b) (judge2 a) (plain2 b) (count2 b) (rules2 b) makes rest → JudgedAt Plain calm at judges plains count rules makes s
    after_good (good us c x rest2 e went went2 number lawful made) =
        let read : plain2 b (us ++> rest2) ≡ Ok (c, rest2) = went rest2 refl in
        good (ts ++ us) c x rest2 (is_split us rest2 e)
        (λ after h. over_plain us after (same_through us rest2 after h ∙ sym (ap head e)) ∙ went after h)
        (λ after h. over_judge us after (same_through us rest2 after h ∙ sym (ap head e)) ∙ went2 after h)
        (omega (arith, counted b c (us ++> rest2) rest2 read, many, number, length-append ts us))
        (ruled b c (us ++> rest2) rest2 read ∙ ap (λ (z : List (Broken X)). z ++ rules2 b c) none ∙ lawful) made
    after_good (bad t us rest2 first open_to e found settles stops told v onward) = let j = join ts t us in bad_for t us rest2 first open_to e found settles stops told v onward j.0 j.1 j.2
    after_good (alike f plain stop stop2) =
        alike f plain (ap judges is ∙ bind_ok judge1 judge2 (ts ++> rest) a rest (go2 rest refl) ∙ stop) (ap plains is ∙ bind_ok plain1 plain2 (ts ++> rest) b rest (go rest refl) ∙ stop2)

  pub judged_bind : (s : Stream) → JudgedAt Plain calm1 at judge1 plain1 count1 rules1 makes1 s
      → ((ts : List Lexeme) (b : B1) (a : A1) (rest : Stream) → s ≡ ts ++> rest → count1 b ≡ length ts → makes1 b a → JudgedAt Plain calm (at + count1 b) (judge2 a) (plain2 b) (count2 b) (rules2 b) makes rest)
      → JudgedAt Plain calm at judges plains count rules makes s
  judged_bind s (good ts b a rest is go go2 many none made) next = after_good s ts b a rest is go go2 many none (next ts b a rest is many made)
  judged_bind s (bad t ts rest first open_to is found settles stops told v onward) next =
      bad t ts rest first open_to is found settles (λ after h. bind_err judge1 judge2 (more t (ts ++> after)) (other first.fault) (stops after h))
      (λ after c m h r.
      let p = split plain1 plain2 (more t (ts ++> after)) c m r in
      let k = told after p.value p.middle h p.first in
      (k.0 ++ rules2 p.value c, ruled p.value c p.middle m p.second ∙ ap (λ (z : List (Broken X)). z ++ rules2 p.value c) k.1))
      (first_completed (t ∷ ts) open_to v)
      (λ d g. first_completed (t ∷ ts ++ d ∷ []) closed (onward d g))
  judged_bind s (alike f plain stop stop2) next = alike f plain (bind_err judge1 judge2 s f stop) (bind_err plain1 plain2 s f stop2)
