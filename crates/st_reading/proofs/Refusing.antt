-- Where the judging reader stops, a rule is broken, or the plain reader stops alike; and only there.
use Rattle.std.proofs.Common.{◌≡◌, ℕ, suc, Bool, true, false, List, [], ◌∷◌, ◌++◌, length, Ok, Err, refl, sym, ap, subst, ◌∙◌, arith}
use Rattle.st_tokens.specs.Stream.{◌++>◌, Lexeme, Stream, ends, breaks, more}
use Rattle.st_reading.specs.declared.sign.Sign.{Sign}
use Rattle.st_reading.specs.declared.sign.Sign.TheVariants as signs
use Rattle.st_reading.specs.Reading.{Stop, syntax, broken, other, Read, ◌>>=◌, refusal, then_reads, gives, at_end, whole}
use Rattle.st_reading.specs.Spelling.{Sound}
use Rattle.st_reading.specs.Theorem.{IsFirst}
use Rattle.st_reading.specs.BrokenRules.{Broken, BreaksAt, StopsAt}
use Rattle.st_reading.proofs.Streams.{append_stream, same_text, more_parts}
use Rattle.st_reading.proofs.Soundness.{split, values}
use Rattle.st_reading.proofs.Steadiness.{bind_ok, bind_err}
use Rattle.st_reading.proofs.Theorems.{spelled_unstuck}
use Rattle.st_reading.proofs.Stops.{first_unique}
use Rattle.st_reading.proofs.Judging.{Reader, Settled, closed, Completed, JudgedAt, good, bad, alike}
use Rattle.st_reading.proofs.JudgedParts.{not_empty, judged_ok}

pub not_both : {X A : Type 0} (o : Read X A) (x : A × Stream) (f : Stop X) → o ≡ Ok x → o ≡ Err f → ⊥
not_both o x f h k = absurd cc

pub same_stop : {X A : Type 0} (o : Read X A) (f g : Stop X) → o ≡ Err f → o ≡ Err g → f ≡ g
same_stop o f g h k = cc

-- the same number of tokens of the same stream are the same
same_front : (a b : List Lexeme) (s r : Stream) → a ++> s ≡ b ++> r → length a ≡ length b → (a ≡ b) × (s ≡ r)
same_front [] [] s r h n = (refl, h)
same_front [] (u ∷ b) s r h n = absurd (omega (arith, n))
same_front (t ∷ a) [] s r h n = absurd (omega (arith, n))
same_front (t ∷ a) (u ∷ b) s r h n =
    let m = more_parts t u (a ++> s) (b ++> r) h in
    let k = same_front a b s r m.1 (omega (arith, n)) in
    (ap (λ w. w ∷ a) m.0 ∙ ap (λ w. u ∷ w) k.0, k.1)

-- A judging reader beside the plain one, which reads a language whose trees break rules.
module _ {X A B : Type 0} (Plain : Stop X → Type 0) (refused : (s : Stream) → Plain (refusal s)) (calm : Sign → Bool) (quiet : calm signs.Nothing ≡ true) (L : List Lexeme → B → Type 0) (judge : Reader X A) (plain : Reader X B) (count : B → ℕ) (rules : B → List (Broken X)) (makes : B → A → Type 0)
    (sound : Sound plain L) (complete : (ts : List Lexeme) (x : B) → L ts x → plain (ts ++> ends 0) ≡ Ok (x, ends 0)) (plain_first : (s : Stream) (f : Stop X) → whole plain s ≡ Err f → IsFirst L s f) (judged : (s : Stream) → JudgedAt Plain calm 0 judge plain count rules makes s) where
  abbrev Judged : Stream → Type 0
  Judged s = JudgedAt Plain calm 0 judge plain count rules makes s

  -- A RULE THAT IS BROKEN STOPS THE READER
  first_same : (a b : Broken X) (xs ys : List (Broken X)) → a ∷ xs ≡ b ∷ ys → a ≡ b
  first_same a b xs ys h = cc

  -- what any text that goes on as this does breaks first
  abbrev Stays : List Lexeme → Stream → Broken X → Type 0
  Stays front rest first = (t : Lexeme) (after : Stream) → rest ≡ more t after → (us : List Lexeme) (x : B) → L ((front ++ t ∷ []) ++ us) x → (bs : List (Broken X)) × (rules x ≡ first ∷ bs)

  pub reads_on : (front : List Lexeme) (t : Lexeme) (us : List Lexeme) (x : B) → L ((front ++ t ∷ []) ++ us) x → plain (front ++> more t (us ++> ends 0)) ≡ Ok (x, ends 0)
  reads_on front t us x l = ap plain (sym (append_stream (front ++ t ∷ []) us (ends 0) ∙ append_stream front (t ∷ []) (us ++> ends 0))) ∙ complete ((front ++ t ∷ []) ++ us) x l

  module _ (t : Lexeme) (ts : List Lexeme) (first : Broken X) (found : first.found ≡ suc (length ts)) (rest : Stream) (stays : Stays (t ∷ ts) rest first) where
    abbrev Stops : Type 0
    Stops = judge (more t (ts ++> rest)) ≡ Err (other first.fault)

    -- over a token that the unit goes on with
    over : (d : Lexeme) (after : Stream) → rest ≡ more d after → Completed calm plain (t ∷ ts ++ d ∷ []) closed → Stops
    over d after next c = at_judged (judged s)
      where
        s : Stream
        s = (t ∷ ts ++ d ∷ []) ++> (c.others ++> ends 0)

        read : plain ((t ∷ ts ++ d ∷ []) ++> (c.others ++> ends 0)) ≡ Ok (c.value, ends 0)
        read = c.reads (ends 0) quiet

        breaks : (bs : List (Broken X)) × (rules c.value ≡ first ∷ bs)
        breaks =
            let cut = sound ((t ∷ ts ++ d ∷ []) ++> (c.others ++> ends 0)) c.value (ends 0) read in
            let text : (t ∷ ts ++ d ∷ []) ++ c.others ≡ cut.text = same_text ((t ∷ ts ++ d ∷ []) ++ c.others) cut.text 0 (append_stream (t ∷ ts ++ d ∷ []) c.others (ends 0) ∙ cut.is) in
            stays d after next c.others c.value (subst (λ (z : List Lexeme). L z c.value) (sym text) cut.spells)

        at_judged : Judged ((t ∷ ts ++ d ∷ []) ++> (c.others ++> ends 0)) → Stops
        at_judged (good us x a m is go go2 many none made) =
            let v = values (plain ((t ∷ ts ++ d ∷ []) ++> (c.others ++> ends 0))) x c.value m (ends 0) (ap plain is ∙ go m refl) read in
            absurd (not_empty first breaks.0 (sym breaks.1 ∙ ap rules (sym v.0) ∙ none))
        at_judged (alike f q h k) = absurd (not_both (plain ((t ∷ ts ++ d ∷ []) ++> (c.others ++> ends 0))) (c.value, ends 0) f read k)
        at_judged (bad u us m one open_to is at settles stops tells v onward) =
            let k = tells m c.value (ends 0) settles (ap plain (sym is) ∙ read) in
            let e : one ≡ first = first_same one first k.0 breaks.0 (sym k.1 ∙ breaks.1) in
            let n : length (t ∷ ts) ≡ suc (length us) = sym found ∙ ap (λ (x : Broken X). x.found) (sym e) ∙ at ∙ omega arith in
            let f = same_front (t ∷ ts) (u ∷ us) (more d (c.others ++> ends 0)) m (sym (append_stream (t ∷ ts) (d ∷ []) (c.others ++> ends 0)) ∙ is) n in
            let settled : open_to d ≡ false = subst (Settled open_to) (sym f.1) settles in
            ap (λ (y : List Lexeme). judge (y ++> rest)) f.0 ∙ stops rest (subst (Settled open_to) (sym next) settled) ∙ ap (λ (x : Broken X). Err (other x.fault)) e

    stands : (open_to : Lexeme → Bool) → ((z : Stream) → Settled open_to z → judge (more t (ts ++> z)) ≡ Err (other first.fault)) → ((d : Lexeme) → open_to d ≡ true → Completed calm plain (t ∷ ts ++ d ∷ []) closed) → Stops
    stands open_to stops onward = at_rest rest refl
      where
        at_test : (d : Lexeme) (after : Stream) → rest ≡ more d after → (b : Bool) → open_to d ≡ b → Stops
        at_test d after e true g = over d after e (onward d g)
        at_test d after e false g = stops rest (subst (Settled open_to) (sym e) g)

        at_rest : (z : Stream) → rest ≡ z → Stops
        at_rest (ends q) e = stops rest (subst (Settled open_to) (sym e) tt)
        at_rest (breaks f) e = stops rest (subst (Settled open_to) (sym e) tt)
        at_rest (more d after) e = at_test d after e (open_to d) refl

  stopped : (front others : List Lexeme) (raw : B) (first : Broken X) (further : List (Broken X)) (rest : Stream) → L (front ++ others) raw → rules raw ≡ first ∷ further → first.found ≡ length front → Stays front rest first
      → Judged (front ++> (others ++> ends 0)) → judge (front ++> rest) ≡ Err (other first.fault)
  stopped front others raw first further rest l b found stays j = at_judged j
    where
      reads : plain (front ++> (others ++> ends 0)) ≡ Ok (raw, ends 0)
      reads = ap plain (sym (append_stream front others (ends 0))) ∙ complete (front ++ others) raw l

      at_judged : Judged (front ++> (others ++> ends 0)) → judge (front ++> rest) ≡ Err (other first.fault)
      at_judged (good ts x a m is go go2 many none made) =
          let v = values (plain (front ++> (others ++> ends 0))) x raw m (ends 0) (ap plain is ∙ go m refl) reads in
          absurd (not_empty first further (sym b ∙ ap rules (sym v.0) ∙ none))
      at_judged (alike f q h k) = absurd (not_both (plain (front ++> (others ++> ends 0))) (raw, ends 0) f reads k)
      at_judged (bad t ts m one open_to is at settled stops tells v onward) =
          let k = tells m raw (ends 0) settled (ap plain (sym is) ∙ reads) in
          let e : one ≡ first = first_same one first k.0 further (sym k.1 ∙ b) in
          let n : length front ≡ suc (length ts) = sym found ∙ ap (λ (x : Broken X). x.found) (sym e) ∙ at ∙ omega arith in
          let f = same_front front (t ∷ ts) (others ++> ends 0) m is n in
          ap (λ (z : List Lexeme). judge (z ++> rest)) f.0
          ∙ stands t ts first (found ∙ n) rest (subst (λ (z : List Lexeme). Stays z rest first) f.0 stays) open_to (λ z w. stops z w ∙ ap (λ (x : Broken X). Err (other x.fault)) e) onward

  pub breaks_stop : (s : Stream) (fault : X) → BreaksAt L rules s fault → judge s ≡ Err (other fault)
  breaks_stop s fault h =
      ap judge h.is_cut
      ∙ stopped h.front h.others h.tree h.first h.further h.rest h.spells h.breaks h.found h.settled (judged (h.front ++> (h.others ++> ends 0)))
      ∙ ap (λ f. Err (other f)) h.named

  -- WHERE IT STOPS, A RULE IS BROKEN
  whole_ends : (r : Read X B) (raw : B) (s : Stream) → r ≡ Ok (raw, s) → (x : A) (f : Stop X) → then_reads {X = X} at_end (λ e. gives x) s ≡ Err f → Plain f × ((r >>= λ y. then_reads {X = X} at_end (λ e. gives y.0) y.1) ≡ Err f)
  unfolding at_end
  whole_ends r raw (ends q) e x f h = absurd cc
  whole_ends r raw (breaks g) e x f h = let k : broken g ≡ f = cc in (subst Plain k (refused (breaks g)), rw e (ap Err k))
  whole_ends r raw (more t s) e x f h = let k : syntax t.start ≡ f = cc in (subst Plain k (refused (more t s)), rw e (ap Err k))

  -- a rule, or the plain reader stops alike
  pub data Stopped (s : Stream) (f : Stop X) : Type 0 where
    by_rule : (fault : X) → f ≡ other fault → BreaksAt L rules s fault → Stopped s f
    by_stop : Plain f → IsFirst L s f → Stopped s f

  stopped_at : (s : Stream) (f : Stop X) → Judged s → whole judge s ≡ Err f → Stopped s f
  stopped_at s f (good ts b a m is go go2 many none made) h =
      let at : judge s ≡ Ok (a, m) = ap judge is ∙ go2 m refl in
      let k = whole_ends (plain s) b m (ap plain is ∙ go m refl) a f (sym (bind_ok judge (λ x. then_reads at_end (λ e. gives x)) s a m at) ∙ h) in
      by_stop k.0 (plain_first s f k.1)
  stopped_at s f (alike g q h1 h2) h =
      let same = same_stop (whole judge s) g f (bind_err judge (λ x. then_reads at_end (λ e. gives x)) s g h1) h in
      by_stop (subst Plain same q) (plain_first s f (bind_err plain (λ x. then_reads at_end (λ e. gives x)) s g h2 ∙ ap Err same))
  stopped_at s f (bad t ts m first open_to is at settles stops tells v onward) h =
      let stop : judge s ≡ Err (other first.fault) = ap judge is ∙ stops m settles in
      let same = same_stop (whole judge s) (other first.fault) f (bind_err judge (λ x. then_reads at_end (λ e. gives x)) s (other first.fault) stop) h in
      let read = v.reads (ends 0) quiet in
      let c = sound (more t (ts ++> (v.others ++> ends 0))) v.value (ends 0) read in
      let text : (t ∷ ts) ++ v.others ≡ c.text = same_text ((t ∷ ts) ++ v.others) c.text 0 (append_stream (t ∷ ts) v.others (ends 0) ∙ c.is) in
      let k = tells (v.others ++> ends 0) v.value (ends 0) (v.settled (ends 0) quiet) read in
      by_rule first.fault (sym same)
      (record {
        front = t ∷ ts;
        rest = m;
        is_cut = is;
        others = v.others;
        spelled = v.spelled;
        tree = v.value;
        spells = subst (λ (z : List Lexeme). L z v.value) (sym text) c.spells;
        first = first;
        further = k.0;
        breaks = k.1;
        found = at ∙ omega arith;
        named = refl;
        settled = λ d after e us x l. tells (more d (us ++> ends 0)) x (ends 0) (subst (Settled open_to) e settles) (reads_on (t ∷ ts) d us x l);
      })

  pub stopped_so : (s : Stream) (f : Stop X) → whole judge s ≡ Err f → Stopped s f
  stopped_so s f h = stopped_at s f (judged s) h

  -- WHERE THE GRAMMAR STOPS, THE READER STOPS, if the plain reader has no fault but the grammar's
  ended : (m : Stream) (u : Unit {0}) (n : Stream) → at_end {X = X} m ≡ Ok (u, n) → (place : ℕ) × (m ≡ ends place)
  unfolding at_end
  ended (ends place) u n h = (place, refl)
  ended (breaks f) u n h = absurd cc
  ended (more t s) u n h = absurd cc

  module _ (never : (f : Stop X) → Plain f → (x : X) → f ≡ other x → ⊥) where
    not_read : (s : Stream) (f : Stop X) → Plain f → IsFirst L s f → (a : A) (m : Stream) → whole judge s ≡ Ok (a, m) → ⊥
    not_read s f q first a m h =
        let p = split judge (λ x. then_reads at_end (λ e. gives x)) s a m h in
        let r = split at_end (λ e. gives p.value) p.middle a m p.second in
        let z = ended p.middle r.value r.middle r.first in
        let k = judged_ok Plain calm 0 judge plain count rules makes s (judged s) p.value p.middle p.first in
        let c = sound s k.0 p.middle k.1 in
        let w = spelled_unstuck L k.0 z.0 c.text c.spells f (subst (λ v. IsFirst L v f) (c.is ∙ ap (λ v. c.text ++> v) z.1) first) in
        never f q w.0 w.1

    pub stops_stop : (s : Stream) (f : Stop X) → StopsAt L rules Plain s f → whole judge s ≡ Err f
    stops_stop s f h = at_whole (whole judge s) refl
      where
        same_fault : (g : Stop X) → Stopped s g → f ≡ g
        same_fault g (by_rule fault e broken_there) = absurd (h.sound fault broken_there)
        same_fault g (by_stop q first) = first_unique L s f g (never f h.plain) (never g q) h.first first

        at_whole : (o : Read X A) → o ≡ whole judge s → whole judge s ≡ Err f
        at_whole (Ok x) e = absurd (not_read s f h.plain h.first x.0 x.1 (sym e))
        at_whole (Err g) e = sym e ∙ ap Err (sym (same_fault g (stopped_so s g (sym e))))
