-- Where nothing clashes, no multiples of the lines sum to a negative constant.
use Rattle.std.proofs.Common.{◌≡◌, ℕ, zero, suc, ◌+◌, Bool, true, false, Some, List, [], ◌∷◌, map, refl, ap, sym, subst, arith, length, ℤ, pos, negsuc, ◌+ℤ◌, ◌*ℤ◌, ◌≤ℤ◌, ◌<ℤ◌}
use Rattle.std.specs.Prelude.{if◌then◌else◌, nat_lt}
use Rattle.std.proofs.lemmas.Int.{ints}
use Rattle.std.proofs.Math.IntN.{zero-*ℤ, *ℤ_comm}
use Rattle.st_linear.proofs.Ints.{+ℤ-*ℤ, *ℤ_assoc}
use Rattle.st_linear.proofs.Joined.{value-joined}
use Rattle.st_linear.specs.Linear.{Linear, entries_value, AllBelow, sum_of, scaled}
use Rattle.st_linear.specs.declared.rows.Line.{Line}
use Rattle.elimination_laws.specs.Mixing.{Tracked}
use Rattle.elimination_laws.specs.Stages.{stays, judged_by, judged_constant, made, Sifted, list, clash, wide, sifted, Use, use_of, Stop, at_variable, at_rows, Ending, through, contradiction, too_wide, with_use, then_stages, stages, tracked, ending}
use Rattle.farkas_leaf.specs.Lines.{HoldsBy}
use Rattle.elimination_laws.specs.Laws.{AreMultipliers, sum_by, HaveNoRefutation, AreProper}
use Rattle.elimination_laws.proofs.Heights.{Store, height, least_times, entries-scaled}
use Rattle.elimination_laws.proofs.Mixes.{AllVars, From}
use Rattle.elimination_laws.proofs.Lists.{AllT, AllT-weaker, AllIsMade, AllIfMade, Stays, sifted-keeps, sifted-restores}
use Rattle.elimination_laws.proofs.Keeping.{IsProper, made-all, proper-makes}
use Rattle.elimination_laws.proofs.Raising.{Point}
use Rattle.elimination_laws.proofs.Solving.{Good, AllGood, stage-point, goes-good}

constant-goes : (c : ℤ) (b : Bool) (ps : List (ℕ × ℤ)) → judged_constant c b ps ≡ stays → ⊥
constant-goes (pos zero) b ps h = cc
constant-goes (pos (suc n)) true ps h = cc
constant-goes (pos (suc n)) false ps h = cc
constant-goes (negsuc n) b ps h = cc

no_variables : (v w : ℕ) (es : List (ℕ × ℤ)) (c : ℤ) (b : Bool) (ps : List (ℕ × ℤ)) → v + 0 ≡ w → AllVars (From v w) es → judged_by es c b ps ≡ stays → ⊥
no_variables v w [] c b ps e h j = constant-goes c b ps j
no_variables v w (x ∷ es) c b ps e h j = let p = h.0.0 in let q = h.0.1 in absurd (omega (arith, p, q))

no_lines : (v w : ℕ) (ts : List Tracked) → v + 0 ≡ w → AllT (Stays (IsProper v w)) ts → ts ≡ []
no_lines v w [] e h = refl
no_lines v w (t ∷ ts) e h = absurd (no_variables v w t.form.entries t.form.constant t.equal t.picks e h.0.0.from h.0.1)

pub after : (s : Stop) (x : Sifted) (rest : List Tracked → Ending) (us : List Use) → then_stages s x rest ≡ through us → (new : List Tracked) × (x ≡ list new) × (rest new ≡ through us)
after s (list ts) rest us h = (ts, refl, h)
after s (clash ps) rest us h = absurd (cc)
after s wide rest us h = absurd (cc)

pub used : (u : Use) (e : Ending) (us : List Use) → with_use u e ≡ through us → (vs : List Use) × (e ≡ through vs)
used u (through vs) us h = (vs, refl)
used u (contradiction ps) us h = absurd (cc)
used u (too_wide s) us h = absurd (cc)

proper : (v w : ℕ) (ts : List Tracked) → AllT (Stays (IsProper v w)) ts → AllT (IsProper v w) ts
proper v w ts h = AllT-weaker (Stays (IsProper v w)) (IsProper v w) (λ t k. k.0) ts h

pub through-point : (n v w : ℕ) (ts : List Tracked) (us : List Use) → v + n ≡ w → AllT (Stays (IsProper v w)) ts → stages n v ts ≡ through us → Point (AllGood ts)
through-point zero v w ts us e h l =
    let none = no_lines v w ts e h in
    record { d = pos 1; s = λ u. pos 0; positive = omega (arith, ints); holds = subst (λ ts. AllGood ts (pos 1) (λ u. pos 0)) (sym none) tt }
through-point (suc n) v w ts us e h l =
    let a = after (at_variable v) (sifted (made v ts) 4096) (λ rest. with_use (use_of v ts) (stages n (v + 1) rest)) us l in
    let b = used (use_of v ts) (stages n (v + 1) a.0) us a.2 in
    let k = sifted-keeps (IsProper (v + 1) w) (made v ts) (made-all (IsProper (v + 1) w) (IsProper v w) v (proper-makes v w) ts (proper v w ts h)) 4096 a.0 a.1 in
    stage-point v w ts a.0 4096 (proper v w ts h) (proper (v + 1) w a.0 k) a.1 (through-point n (v + 1) w a.0 b.0 (omega arith) k b.1)

within : (n : ℕ) (es : List (ℕ × ℤ)) → AllBelow n es → AllVars (From 0 n) es
within n [] h = tt
within n (e ∷ es) h = ((omega arith, h.0), within n es h.1)

pub tracked-proper : (n k : ℕ) (ls : List Line) → AreProper n ls → AllIfMade (IsProper 0 n) (map Some (tracked k ls))
tracked-proper n k [] h = tt
tracked-proper n k (l ∷ ls) h = (record { entries = h.0; from = within n l.form.entries h.1 }, tracked-proper n (k + 1) ls h.2)

-- the input's lines hold at a point, in fractions
abbrev AllLevel : ℤ → Store → List Line → Type 0
AllLevel d s [] = Unit {0}
AllLevel d s (l ∷ ls) = HoldsBy l.equal (height d s l.form) × AllLevel d s ls

tracked-level : (d : ℤ) (s : Store) (k : ℕ) (ls : List Line) → AllIsMade (Good d s) (map Some (tracked k ls)) → AllLevel d s ls
tracked-level d s k [] h = tt
tracked-level d s k (l ∷ ls) h = (h.0, tracked-level d s (k + 1) ls h.1)

height-sum : (d : ℤ) (s : Store) (f g : Linear) → height d s (sum_of f g) ≡ height d s f +ℤ height d s g
height-sum d s f g = omega (arith, ints, +ℤ-*ℤ f.constant g.constant d, value-joined s f.entries g.entries)

height-scaled : (d : ℤ) (s : Store) (c : ℤ) (f : Linear) → height d s (scaled c f) ≡ height d s f *ℤ c
height-scaled d s c f =
    omega (arith, ints, +ℤ-*ℤ (f.constant *ℤ d) (entries_value s f.entries) c, entries-scaled s c f.entries, *ℤ_assoc f.constant c d, *ℤ_assoc f.constant d c, ap (λ x. f.constant *ℤ x) (*ℤ_comm c d))

multiple : (b : Bool) (z m : ℤ) → HoldsBy b z → (b ≡ false → pos 0 ≤ℤ m) → pos 0 ≤ℤ (z *ℤ m)
multiple true z m h k = omega (arith, ints, ap (λ x. x *ℤ m) h, zero-*ℤ m)
multiple false z m h k = least_times z m h (k refl)

-- a sum of multiples is at least 0 at such a point
sum-least : (d : ℤ) (s : Store) (ls : List Line) (ms : List ℤ) → AllLevel d s ls → AreMultipliers ls ms → pos 0 ≤ℤ height d s (sum_by ls ms)
sum-least d s [] ms h k = omega (arith, ints, zero-*ℤ d)
sum-least d s (l ∷ ls) [] h k = absurd k
sum-least d s (l ∷ ls) (m ∷ ms) h k =
    let first = multiple l.equal (height d s l.form) m h.0 k.0 in
    let rest = sum-least d s ls ms h.1 k.1 in
    omega (arith, ints, height-sum d s (scaled m l.form) (sum_by ls ms), height-scaled d s m l.form, first, rest)

negative-times : (c d : ℤ) → c <ℤ pos 0 → pos 0 <ℤ d → (c *ℤ d) <ℤ pos 0
negative-times (pos n) d h k = absurd (omega (arith, ints))
negative-times (negsuc n) (pos zero) h k = absurd (omega (arith, ints))
negative-times (negsuc n) (pos (suc m)) h k = omega (arith, ints)
negative-times (negsuc n) (negsuc m) h k = absurd (omega (arith, ints))

refuted : (d : ℤ) (s : Store) (ls : List Line) → pos 0 <ℤ d → AllLevel d s ls → HaveNoRefutation ls
refuted d s ls h k ms m e n =
    let least = sum-least d s ls ms k m in
    let value = ap (λ es. (sum_by ls ms).constant *ℤ d +ℤ entries_value s es) e in
    omega (arith, ints, least, value, negative-times (sum_by ls ms).constant d n h)

pub from-test : (b : Bool) (e : Ending) (us : List Use) → (if b then too_wide at_rows else e) ≡ through us → e ≡ through us
from-test true e us h = absurd (cc)
from-test false e us h = h

-- where all variables go without a clash, no contradiction was overlooked
pub no_refutation : (lines : List Line) (n : ℕ) (us : List Use) → AreProper n lines → ending lines n ≡ through us → HaveNoRefutation lines
no_refutation lines n us h l =
    let i = from-test (nat_lt 4096 (length lines)) (then_stages at_rows (sifted (map Some (tracked 0 lines)) 4096) (stages n 0)) us l in
    let a = after at_rows (sifted (map Some (tracked 0 lines)) 4096) (stages n 0) us i in
    let k = sifted-keeps (IsProper 0 n) (map Some (tracked 0 lines)) (tracked-proper n 0 lines h) 4096 a.0 a.1 in
    let x = through-point n 0 n a.0 us (omega arith) k a.2 in
    refuted x.d x.s lines x.positive
    (tracked-level x.d x.s 0 lines (sifted-restores (Good x.d x.s) (λ t g. (goes-good 0 x.d x.s t.form.entries t.form.constant t.equal t.picks x.positive g).0) (map Some (tracked 0 lines)) 4096 a.0 a.1 x.holds))
