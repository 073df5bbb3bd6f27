-- A contradiction's picks close the leaf.
use Rattle.std.proofs.Common.{◌≡◌, ℕ, zero, suc, ◌+◌, ◌^◌, ◌<◌, ◌≤◌, Bool, true, false, Some, List, [], ◌∷◌, map, refl, ap, sym, subst, ◌∙◌, arith, length, ℤ, pos, negsuc, neg_ℤ, ◌+ℤ◌, ◌*ℤ◌, ◌≤ℤ◌, ◌<ℤ◌}
use Rattle.std.specs.Prelude.{if◌then◌else◌, nat_lt, IsTrue, ◌&&◌, ◌==◌, not}
use Rattle.std.proofs.lemmas.Int.{ints}
use Rattle.std.proofs.lemmas.Bool.Decides.{nat_tests}
use Rattle.std.proofs.Math.IntN.{*ℤ_comm}
use Rattle.st_linear.proofs.Ints.{neg_ℤ-*ℤ}
use Rattle.st_linear.proofs.Joined.{value-joined, joined-ind, AreEntries-joined}
use Rattle.st_linear.proofs.Fitting.{AreEntries-scaled}
use Rattle.st_linear.proofs.Dividing.{AreEntries-negated}
use Rattle.st_linear.specs.Linear.{Linear, entries_value, AreEntries, AllAbove, joined, scaled_entries, with_entry, number}
use Rattle.st_linear.specs.declared.rows.Line.{Line}
use Rattle.elimination_laws.specs.Mixing.{Tracked, part, part_of}
use Rattle.st_linear.specs.Linear.{is_within, are_within, is_zero}
use Rattle.elimination_laws.specs.Stages.{turned, clashes, judged_by, judged_constant, made, Sifted, list, clash, wide, sifted, Use, use_of, Stop, at_variable, at_rows, Ending, through, contradiction, too_wide, with_use, then_stages, stages, tracked, ending}
use Rattle.farkas_leaf.specs.Lines.{line_at, total, RiseWithin, IsSigned, Closes}
use Rattle.elimination_laws.specs.Laws.{IsLimited, AreProper}
use Rattle.elimination_laws.proofs.Heights.{delta, slope, slope-mix, entries-mix, entries-scaled, part-slope, least_times}
use Rattle.elimination_laws.proofs.Mixes.{IsMix, AllVars, AllVars-mix, AreEntries-mix, first_positive, second_positive}
use Rattle.elimination_laws.proofs.Lists.{AllT, AllT-weaker, AllIfMade, Stays, sifted-keeps, Clash, sifted-clash}
use Rattle.elimination_laws.proofs.Keeping.{Makes, made-all, up-not_zero, down-not_zero}

abbrev Picks : Type 0
Picks = List (ℕ × ℤ)

abbrev AllPicks : (ℕ → ℤ → Type 0) → Picks → Type 0
AllPicks Q [] = Unit {0}
AllPicks Q (p ∷ ps) = Q p.0 p.1 × AllPicks Q ps

AllPicks-with_entry : (Q : ℕ → ℤ → Type 0) (k : ℕ) (m : ℤ) (ps : Picks) → Q k m → AllPicks Q ps → AllPicks Q (with_entry k m ps)
AllPicks-with_entry Q k (pos zero) ps h i = i
AllPicks-with_entry Q k (pos (suc n)) ps h i = (h, i)
AllPicks-with_entry Q k (negsuc n) ps h i = (h, i)

AllPicks-scaled : (Q R : ℕ → ℤ → Type 0) (x : ℤ) → ((k : ℕ) (m : ℤ) → Q k m → R k (m *ℤ x)) → (ps : Picks) → AllPicks Q ps → AllPicks R (scaled_entries x ps)
AllPicks-scaled Q R x f [] h = tt
AllPicks-scaled Q R x f (p ∷ ps) h = AllPicks-with_entry R p.0 (p.1 *ℤ x) _ (f p.0 p.1 h.0) (AllPicks-scaled Q R x f ps h.1)

AllPicks-joined : (Q : ℕ → ℤ → Type 0) → ((k : ℕ) (m n : ℤ) → Q k m → Q k n → Q k (m +ℤ n)) → (ps qs : Picks) → AllPicks Q ps → AllPicks Q qs → AllPicks Q (joined ps qs)
AllPicks-joined Q f =
    joined-ind (λ ps qs rs. AllPicks Q ps → AllPicks Q qs → AllPicks Q rs)
    (λ ys h k. k)
    (λ x xs h k. h)
    (λ x y xs ys zs o p h k. (h.0, p h.1 k))
    (λ x y xs ys zs o p h k. (k.0, p h k.1))
    (λ x y xs ys zs o p h k. AllPicks-with_entry Q x.0 (x.1 +ℤ y.1) zs (f x.0 x.1 y.1 h.0 (subst (λ j. Q j y.1) (sym o) k.0)) (p h.1 k.1))

-- a row's multiplier is at least 0, and an equation has none of a row
abbrev Signed : List Line → Bool → ℕ → ℤ → Type 0
Signed lines b k m = (line_at lines k).equal ≡ false → (b ≡ false) × (pos 0 ≤ℤ m)

pub record IsSum (lines : List Line) (t : Tracked) : Type 0 where
  pub constant : t.form.constant ≡ entries_value (λ k. (line_at lines k).form.constant) t.picks
  pub slopes : (v : ℕ) → slope v t.form ≡ entries_value (λ k. slope v (line_at lines k).form) t.picks
  pub rising : AreEntries t.picks
  pub range : AllVars (λ k. k < length lines) t.picks
  pub signed : AllPicks (Signed lines t.equal) t.picks
  pub within : IsTrue (are_within (2 ^ 40) t.picks)

sum-mix : (lines : List Line) (b : Bool) (x : ℤ) (s : Tracked) (y : ℤ) (t r : Tracked) → IsSum lines s → IsSum lines t → IsMix b x s y t r → AllPicks (Signed lines b) (scaled_entries x s.picks) → AllPicks (Signed lines b) (scaled_entries y t.picks) → IsSum lines r
sum-mix lines b x s y t r h k m i j =
    let ps = m.picks in
    record {
      constant = ap (λ f. f.constant) m.form ∙ sym (ap (entries_value (λ k. (line_at lines k).form.constant)) ps ∙ entries-mix (λ k. (line_at lines k).form.constant) x y s.picks t.picks ∙ (rw (← h.constant, ← k.constant) refl));
      slopes = λ v. ap (slope v) m.form ∙ slope-mix v x y s.form t.form ∙ sym (ap (entries_value (λ k. slope v (line_at lines k).form)) ps ∙ entries-mix (λ k. slope v (line_at lines k).form) x y s.picks t.picks ∙ (rw (← (h.slopes v), ← (k.slopes v)) refl));
      rising = subst AreEntries (sym ps) (AreEntries-mix x y s.picks t.picks h.rising k.rising);
      range = subst (AllVars (λ k. k < length lines)) (sym ps) (AllVars-mix (λ k. k < length lines) x y s.picks t.picks h.range k.range);
      signed = subst (λ ps. AllPicks (Signed lines r.equal) ps) (sym ps) (subst (λ b. AllPicks (Signed lines b) (joined (scaled_entries x s.picks) (scaled_entries y t.picks))) (sym m.equal) (AllPicks-joined (Signed lines b) (λ k a c p q z. ((p z).0, omega (arith, ints, (p z).1, (q z).1))) _ _ i j));
      within = m.within;
    }

signed-times : (lines : List Line) (b c : Bool) (x : ℤ) → pos 0 ≤ℤ x → (b ≡ false → c ≡ false) → (ps : Picks) → AllPicks (Signed lines b) ps → AllPicks (Signed lines c) (scaled_entries x ps)
signed-times lines b c x h f ps k = AllPicks-scaled (Signed lines b) (Signed lines c) x (λ k m p z. (f (p z).0, least_times m x (p z).1 h)) ps k

not_both : (b : Bool) → b ≡ true → b ≡ false → ⊥
not_both b h k = cc

signed-equation : (lines : List Line) (b c : Bool) (x : ℤ) → b ≡ true → (ps : Picks) → AllPicks (Signed lines b) ps → AllPicks (Signed lines c) (scaled_entries x ps)
signed-equation lines b c x e ps k = AllPicks-scaled (Signed lines b) (Signed lines c) x (λ k m p z. absurd (not_both b e (p z).0)) ps k

solves-both : (b z : Bool) → b && not z ≡ true → (b ≡ true) × (z ≡ false)
solves-both true true h = absurd (cc)
solves-both true false h = (refl, refl)
solves-both false z h = absurd (cc)

sum-makes : (lines : List Line) (v : ℕ) → Makes (IsSum lines) (IsSum lines) v
sum-makes lines v = record {
  free = λ t h e. h;
  solved = λ e t r h s k z m.
      let b = solves-both e.equal (is_zero (part_of v e)) s in
      let x = first_positive (part_of v t) (part_of v e) b.1 in
      sum-mix lines t.equal _ t _ e r k h m (signed-times lines t.equal t.equal _ (omega (arith, ints, x)) (λ z. z) t.picks k.signed) (signed-equation lines e.equal t.equal _ b.0 e.picks h.signed);
  pair = λ p n r h k a c m.
      let x = first_positive (part_of v p) (part_of v n) (down-not_zero _ c) in
      let y = second_positive (part_of v p) (part_of v n) (up-not_zero _ a) in
      sum-mix lines false _ p _ n r h k m (signed-times lines p.equal false _ (omega (arith, ints, x)) (λ z. refl) p.picks h.signed) (signed-times lines n.equal false _ (omega (arith, ints, y)) (λ z. refl) n.picks k.signed);
}

-- the picks' sum
total-constant : (lines : List Line) (ps : Picks) → (total lines ps).constant ≡ entries_value (λ k. (line_at lines k).form.constant) ps
total-constant lines [] = refl
total-constant lines (p ∷ ps) = omega (arith, ints, total-constant lines ps, *ℤ_comm (line_at lines p.0).form.constant p.1)

total-slope : (lines : List Line) (v : ℕ) (ps : Picks) → slope v (total lines ps) ≡ entries_value (λ k. slope v (line_at lines k).form) ps
total-slope lines v [] = refl
total-slope lines v (p ∷ ps) =
    omega (
      arith,
      ints,
      total-slope lines v ps,
      value-joined (delta v) (scaled_entries p.1 (line_at lines p.0).form.entries) (total lines ps).entries,
      entries-scaled (delta v) p.1 (line_at lines p.0).form.entries,
      *ℤ_comm (slope v (line_at lines p.0).form) p.1,
    )

proper-at : (n : ℕ) (lines : List Line) → AreProper n lines → (k : ℕ) → AreEntries (line_at lines k).form.entries
proper-at n [] h k = tt
proper-at n (l ∷ ls) h zero = h.0
proper-at n (l ∷ ls) h (suc k) = proper-at n ls h.2 k

AreEntries-total : (lines : List Line) → ((k : ℕ) → AreEntries (line_at lines k).form.entries) → (ps : Picks) → AreEntries (total lines ps).entries
AreEntries-total lines h [] = tt
AreEntries-total lines h (p ∷ ps) = AreEntries-joined _ _ (AreEntries-scaled p.1 _ (h p.0)) (AreEntries-total lines h ps)

first_part : (v : ℕ) (c : ℤ) (es : Picks) → part v ((v, c) ∷ es) ≡ c
first_part v c es = let t : (v == v) ≡ true = grind (arith, nat_tests) in rw t refl

-- entries that let no variable rise are none
level_empty : (es : Picks) → AreEntries es → ((v : ℕ) → entries_value (delta v) es ≡ pos 0) → es ≡ []
level_empty [] h z = refl
level_empty (e ∷ es) h z = absurd (h.1 (sym (first_part e.0 e.1 es) ∙ part-slope e.0 (e ∷ es) h ∙ z e.0))

above : (v : ℕ) (ps : Picks) → AllAbove v ps → AllVars (λ k. v + 1 ≤ k) ps
above v [] h = tt
above v (p ∷ ps) h = (omega (arith, h.0), above v ps h.1)

all_from : (ps : Picks) → AllVars (λ k. 0 ≤ k) ps
all_from [] = tt
all_from (p ∷ ps) = (omega arith, all_from ps)

rise : (n low : ℕ) (ps : Picks) → AllVars (λ k. k < n) ps → AreEntries ps → AllVars (λ k. low ≤ k) ps → RiseWithin n low ps
rise n low [] h k l = tt
rise n low (p ∷ ps) h k l = (l.0, h.0, rise n (p.0 + 1) ps h.1 k.2 (above p.0 ps k.0))

closes-by : (lines : List Line) (b : Bool) (f : Linear) (ps : Picks) → ((k : ℕ) → AreEntries (line_at lines k).form.entries) → AreEntries ps → AllVars (λ k. k < length lines) ps → IsSigned lines ps → ((v : ℕ) → entries_value (λ k. slope v (line_at lines k).form) ps ≡ pos 0) → entries_value (λ k. (line_at lines k).form.constant) ps <ℤ pos 0 → Closes lines ps
closes-by lines b f ps h r g s v c = record {
  rising = rise (length lines) 0 ps g r (all_from ps);
  signed = s;
  no_variable = level_empty (total lines ps).entries (AreEntries-total lines h ps) (λ u. total-slope lines u ps ∙ v u);
  negative = subst (λ z. z <ℤ pos 0) (sym (total-constant lines ps)) c;
}

signed-rows : (lines : List Line) (b : Bool) (ps : Picks) → AllPicks (Signed lines b) ps → IsSigned lines ps
signed-rows lines b [] h = tt
signed-rows lines b (p ∷ ps) h = (λ z. (h.0 z).1, signed-rows lines b ps h.1)

signed-turned : (lines : List Line) (ps : Picks) → AllPicks (Signed lines true) ps → IsSigned lines (turned ps)
signed-turned lines [] h = tt
signed-turned lines (p ∷ ps) h = (λ z. absurd (not_both true refl (h.0 z).0), signed-turned lines ps h.1)

range-turned : (P : ℕ → Type 0) (ps : Picks) → AllVars P ps → AllVars P (turned ps)
range-turned P [] h = tt
range-turned P (p ∷ ps) h = (h.0, range-turned P ps h.1)

value-turned : (s : ℕ → ℤ) (ps : Picks) → entries_value s (turned ps) ≡ neg_ℤ (entries_value s ps)
value-turned s [] = refl
value-turned s (p ∷ ps) = omega (arith, ints, value-turned s ps, neg_ℤ-*ℤ p.1 (s p.0))

constant-clash : (lines : List Line) (c : ℤ) (b : Bool) (ps qs : Picks) → ((k : ℕ) → AreEntries (line_at lines k).form.entries) → AreEntries ps → AllVars (λ k. k < length lines) ps → AllPicks (Signed lines b) ps → ((v : ℕ) → entries_value (λ k. slope v (line_at lines k).form) ps ≡ pos 0) → c ≡ entries_value (λ k. (line_at lines k).form.constant) ps → judged_constant c b ps ≡ clashes qs → Closes lines qs
constant-clash lines (pos zero) b ps qs h r g s v e j = absurd (cc)
constant-clash lines (pos (suc n)) true ps qs h r g s v e j =
    let same : turned ps ≡ qs = cc in
    subst (Closes lines) same (closes-by lines true (number (pos 0)) (turned ps) h (AreEntries-negated ps r) (range-turned (λ k. k < length lines) ps g) (signed-turned lines ps s)
    (λ u. value-turned (λ k. slope u (line_at lines k).form) ps ∙ ap neg_ℤ (v u))
    (omega (arith, ints, value-turned (λ k. (line_at lines k).form.constant) ps, e)))
constant-clash lines (pos (suc n)) false ps qs h r g s v e j = absurd (cc)
constant-clash lines (negsuc n) b ps qs h r g s v e j =
    let same : ps ≡ qs = cc in
    subst (Closes lines) same (closes-by lines b (number (pos 0)) ps h r g (signed-rows lines b ps s) v (omega (arith, ints, e)))

entries-clash : (lines : List Line) (es : Picks) (c : ℤ) (b : Bool) (ps qs : Picks) → ((k : ℕ) → AreEntries (line_at lines k).form.entries) → AreEntries ps → AllVars (λ k. k < length lines) ps → AllPicks (Signed lines b) ps → ((v : ℕ) → entries_value (delta v) es ≡ entries_value (λ k. slope v (line_at lines k).form) ps) → c ≡ entries_value (λ k. (line_at lines k).form.constant) ps → judged_by es c b ps ≡ clashes qs → Closes lines qs
entries-clash lines [] c b ps qs h r g s v e j = constant-clash lines c b ps qs h r g s (λ u. sym (v u)) e j
entries-clash lines (x ∷ es) c b ps qs h r g s v e j = absurd (cc)

clash-closes : (lines : List Line) (qs : Picks) → ((k : ℕ) → AreEntries (line_at lines k).form.entries) → Clash (IsSum lines) qs → Closes lines qs
clash-closes lines qs h c =
    let t = c.0 in
    let s = c.1 in
    entries-clash lines t.form.entries t.form.constant t.equal t.picks qs h s.rising s.range s.signed s.slopes s.constant c.2

-- the stages
after-clash : (s : Stop) (x : Sifted) (rest : List Tracked → Ending) (P : Type 0) (qs : Picks) → (x ≡ clash qs → P) → ((new : List Tracked) → x ≡ list new → rest new ≡ contradiction qs → P) → then_stages s x rest ≡ contradiction qs → P
after-clash s (list ts) rest P qs f g h = g ts refl h
after-clash s (clash ps) rest P qs f g h = f (cc)
after-clash s wide rest P qs f g h = absurd (cc)

used-clash : (u : Use) (e : Ending) (qs : Picks) → with_use u e ≡ contradiction qs → e ≡ contradiction qs
used-clash u (through vs) qs h = absurd (cc)
used-clash u (contradiction ps) qs h = cc
used-clash u (too_wide s) qs h = absurd (cc)

sums : (lines : List Line) (ts : List Tracked) → AllT (Stays (IsSum lines)) ts → AllT (IsSum lines) ts
sums lines ts h = AllT-weaker (Stays (IsSum lines)) (IsSum lines) (λ t k. k.0) ts h

stages-clash : (lines : List Line) (R : Type 0) (qs : Picks) → (Clash (IsSum lines) qs → R) → (n v : ℕ) (ts : List Tracked) → AllT (IsSum lines) ts → stages n v ts ≡ contradiction qs → R
stages-clash lines R qs f zero v ts h l = absurd (cc)
stages-clash lines R qs f (suc n) v ts h l =
    let made_sums = made-all (IsSum lines) (IsSum lines) v (sum-makes lines v) ts h in
    after-clash (at_variable v) (sifted (made v ts) 4096) (λ rest. with_use (use_of v ts) (stages n (v + 1) rest)) R qs
    (λ e. f (sifted-clash (IsSum lines) (made v ts) made_sums 4096 qs e))
    (λ new e r. stages-clash lines R qs f n (v + 1) new (sums lines new (sifted-keeps (IsSum lines) (made v ts) made_sums 4096 new e)) (used-clash (use_of v ts) (stages n (v + 1) new) qs r)) l

-- the input
suffix-step : (lines : List Line) (k : ℕ) (l : Line) (ls : List Line) → ((i : ℕ) → line_at lines (k + i) ≡ line_at (l ∷ ls) i) → (line_at lines k ≡ l) × ((i : ℕ) → line_at lines (k + 1 + i) ≡ line_at ls i)
suffix-step lines k l ls h = (ap (line_at lines) (omega arith) ∙ h 0, λ i. ap (line_at lines) (omega arith) ∙ h (suc i))

one_within : IsTrue (are_within (2 ^ 40) ((0, pos 1) ∷ []))
unfolding is_within
one_within = search arith

once : (z : ℤ) → z ≡ pos 1 *ℤ z +ℤ pos 0
once (pos n) = omega (arith, ints)
once (negsuc n) = omega (arith, ints)

first-sum : (lines : List Line) (k : ℕ) (l : Line) → line_at lines k ≡ l → k < length lines → IsSum lines (record { form = l.form; equal = l.equal; picks = (k, pos 1) ∷ [] })
first-sum lines k l e h =
    let f = ap (λ l. l.form) e in
    record {
      constant = rw (ap (λ f. f.constant) f) (once l.form.constant);
      slopes = λ v. rw (ap (slope v) f) (once (slope v l.form));
      rising = (tt, λ e. cc, tt);
      range = (h, tt);
      signed = (λ z. (sym (ap (λ l. l.equal) e) ∙ z, omega (arith, ints)), tt);
      within = one_within;
    }

tracked-sums : (lines : List Line) (k : ℕ) (ls : List Line) → ((i : ℕ) → line_at lines (k + i) ≡ line_at ls i) → k + length ls ≡ length lines → AllIfMade (IsSum lines) (map Some (tracked k ls))
tracked-sums lines k [] h e = tt
tracked-sums lines k (l ∷ ls) h e =
    let s = suffix-step lines k l ls h in
    (first-sum lines k l s.0 (omega arith), tracked-sums lines (k + 1) ls s.1 (omega arith))

from-test : (b : Bool) (e : Ending) (qs : Picks) → (if b then too_wide at_rows else e) ≡ contradiction qs → e ≡ contradiction qs
from-test true e qs h = absurd (cc)
from-test false e qs h = h

-- what holds of the picks of each line that clashes holds of a contradiction's picks
clash-any : (lines : List Line) (n : ℕ) (R : Type 0) (qs : Picks) → (Clash (IsSum lines) qs → R) → ending lines n ≡ contradiction qs → R
clash-any lines n R qs f l =
    let made_sums = tracked-sums lines 0 lines (λ i. ap (line_at lines) (omega arith)) (omega arith) in
    after-clash at_rows (sifted (map Some (tracked 0 lines)) 4096) (stages n 0) R qs
    (λ e. f (sifted-clash (IsSum lines) (map Some (tracked 0 lines)) made_sums 4096 qs e))
    (λ new e r. stages-clash lines R qs f n 0 new (sums lines new (sifted-keeps (IsSum lines) (map Some (tracked 0 lines)) made_sums 4096 new e)) r)
    (from-test (nat_lt 4096 (length lines)) (then_stages at_rows (sifted (map Some (tracked 0 lines)) 4096) (stages n 0)) qs l)

-- a contradiction's picks close the leaf
pub contradiction-closes : (lines : List Line) (n : ℕ) (qs : Picks) → AreProper n lines → ending lines n ≡ contradiction qs → Closes lines qs
contradiction-closes lines n qs p l = clash-any lines n (Closes lines qs) qs (λ c. clash-closes lines qs (proper-at n lines p) c) l

-- and are within the limits
parts : (b c : Bool) → IsTrue (b && c) → IsTrue b × IsTrue c
parts true c h = (refl, h)
parts false c h = absurd (cc)

joint : (b c : Bool) → IsTrue b → IsTrue c → IsTrue (b && c)
joint true c h k = k
joint false c h k = absurd (cc)

is_within-neg : (limit : ℕ) (z : ℤ) → IsTrue (is_within limit z) → IsTrue (is_within limit (neg_ℤ z))
unfolding is_within
is_within-neg limit (pos zero) h = h
is_within-neg limit (pos (suc n)) h = h
is_within-neg limit (negsuc n) h = h

within-turned : (limit : ℕ) (ps : Picks) → IsTrue (are_within limit ps) → IsTrue (are_within limit (turned ps))
within-turned limit [] h = h
within-turned limit (p ∷ ps) h =
    let b = parts (is_within limit p.1) (are_within limit ps) h in
    joint (is_within limit (neg_ℤ p.1)) (are_within limit (turned ps)) (is_within-neg limit p.1 b.0) (within-turned limit ps b.1)

constant-within : (c : ℤ) (b : Bool) (ps qs : Picks) → IsTrue (are_within (2 ^ 40) ps) → judged_constant c b ps ≡ clashes qs → IsTrue (are_within (2 ^ 40) qs)
constant-within (pos zero) b ps qs h j = absurd (cc)
constant-within (pos (suc n)) true ps qs h j = let same : turned ps ≡ qs = cc in subst (λ qs. IsTrue (are_within (2 ^ 40) qs)) same (within-turned (2 ^ 40) ps h)
constant-within (pos (suc n)) false ps qs h j = absurd (cc)
constant-within (negsuc n) b ps qs h j = let same : ps ≡ qs = cc in subst (λ qs. IsTrue (are_within (2 ^ 40) qs)) same h

entries-within : (es : Picks) (c : ℤ) (b : Bool) (ps qs : Picks) → IsTrue (are_within (2 ^ 40) ps) → judged_by es c b ps ≡ clashes qs → IsTrue (are_within (2 ^ 40) qs)
entries-within [] c b ps qs h j = constant-within c b ps qs h j
entries-within (x ∷ es) c b ps qs h j = absurd (cc)

rise-length : (n low : ℕ) (ps : Picks) → low ≤ n → RiseWithin n low ps → low + length ps ≤ n
rise-length n low [] h r = omega arith
rise-length n low (p ∷ ps) h r = let i = r.0 in let j = r.1 in let k = rise-length n (p.0 + 1) ps (omega arith) r.2 in omega (arith, i, j, k)

few-by : (b : Bool) (e : Ending) (qs : Picks) → (if b then too_wide at_rows else e) ≡ contradiction qs → b ≡ false
few-by true e qs h = absurd (cc)
few-by false e qs h = refl

pub contradiction-limited : (lines : List Line) (n : ℕ) (qs : Picks) → AreProper n lines → ending lines n ≡ contradiction qs → IsLimited qs
contradiction-limited lines n qs p l =
    let c = contradiction-closes lines n qs p l in
    let m = rise-length (length lines) 0 qs (omega arith) c.rising in
    let t = few-by (nat_lt 4096 (length lines)) (then_stages at_rows (sifted (map Some (tracked 0 lines)) 4096) (stages n 0)) qs l in
    let k : length lines ≤ 4096 = grind (arith, nat_tests) in
    record {
      within = clash-any lines n (IsTrue (are_within (2 ^ 40) qs)) qs (λ c. entries-within c.0.form.entries c.0.form.constant c.0.equal c.0.picks qs c.1.within c.2) l;
      few = omega arith;
    }
