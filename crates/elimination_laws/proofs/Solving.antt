-- Where nothing clashes, there is a point at which each line holds, in fractions.
use Rattle.std.proofs.Common.{◌≡◌, ℕ, zero, suc, ◌+◌, ◌≤◌, Bool, true, false, Option, Some, None, List, [], ◌∷◌, ◌++◌, map, refl, ap, sym, subst, ◌∙◌, arith, ℤ, pos, negsuc, neg_ℤ, ◌+ℤ◌, ◌*ℤ◌, ◌<ℤ◌, ◌⊎◌, inl, inr}
use Rattle.std.specs.Prelude.{if◌then◌else◌, ◌&&◌, not, ◌==◌}
use Rattle.std.specs.List.{flat_map}
use Rattle.std.proofs.lemmas.Int.{ints}
use Rattle.std.proofs.Math.IntN.{zero-*ℤ}
use Rattle.std.proofs.lemmas.Bool.Decides.{nat_tests}
use Rattle.st_linear.specs.Linear.{entries_value}
use Rattle.elimination_laws.specs.Mixing.{Tracked, part_of, first_factor, second_factor, against, is_up, is_down}
use Rattle.st_linear.specs.Linear.{is_zero}
use Rattle.elimination_laws.specs.Stages.{kept_by, solves, solver, others, freed, is_free, bounds_below, bounds_above, paired, pairs, made, made_with, goes, judged_by, list, sifted}
use Rattle.farkas_leaf.specs.Lines.{HoldsBy}
use Rattle.elimination_laws.proofs.Heights.{Store, height, moved, delta, slope, height-moved, height-mix, holds_times, holds_from, least_times, above_times}
use Rattle.basic_laws.proofs.Integers.{times_zero}
use Rattle.elimination_laws.proofs.Mixes.{IsMix, mixed-is, first_positive, second_positive, AllVars, From}
use Rattle.elimination_laws.proofs.Lists.{AllT, AllT-weaker, AllT-both, IsMade, AllIsMade, AllIsMade-left, AllIsMade-right, AllIsMade-weaker, AllT-kept, AllT-restore, solver-is, solver-none, sifted-restores}
use Rattle.elimination_laws.proofs.Keeping.{IsProper, up-not_zero, part_slope}
use Rattle.elimination_laws.proofs.Raising.{Point, Least, Up, Down, under, over, tight, tight_above}

abbrev pub Good : ℤ → Store → Tracked → Type 0
Good d s t = HoldsBy t.equal (height d s t.form)

-- good, and without the variable
abbrev pub Level : ℕ → ℤ → Store → Tracked → Type 0
Level v d s t = Good d s t × (slope v t.form ≡ pos 0)

slope-from : (v w : ℕ) (es : List (ℕ × ℤ)) → AllVars (From (v + 1) w) es → entries_value (delta v) es ≡ pos 0
slope-from v w [] h = refl
slope-from v w (e ∷ es) h =
    let l : v + 1 ≤ e.0 = h.0.0 in
    let t : (e.0 == v) ≡ false = grind (arith, nat_tests) in
    rw (t, times_zero e.1, slope-from v w es h.1) refl

pub goes-good : (v : ℕ) (d : ℤ) (s : Store) (es : List (ℕ × ℤ)) (c : ℤ) (b : Bool) (ps : List (ℕ × ℤ)) → pos 0 <ℤ d → judged_by es c b ps ≡ goes → HoldsBy b (c *ℤ d +ℤ entries_value s es) × (entries_value (delta v) es ≡ pos 0)
goes-good v d s [] (pos zero) true ps h e = (omega (arith, ints, zero-*ℤ d), refl)
goes-good v d s [] (pos zero) false ps h e = (omega (arith, ints, zero-*ℤ d), refl)
goes-good v d s [] (pos (suc n)) true ps h e = absurd (cc)
goes-good v d s [] (pos (suc n)) false ps h e = let l = least_times (pos (suc n)) d (omega (arith, ints)) (omega (arith, ints)) in (omega (arith, ints, l), refl)
goes-good v d s [] (negsuc n) b ps h e = absurd (cc)
goes-good v d s (x ∷ es) c b ps h e = absurd (cc)

is-made : (P : Tracked → Type 0) (m : Option Tracked) → IsMade P m → (r : Tracked) × (m ≡ Some r) × P r
is-made P None h = absurd h
is-made P (Some r) h = (r, refl, h)

map-made : (P : Tracked → Type 0) (f : Tracked → Option Tracked) (ts : List Tracked) → AllIsMade P (map f ts) → AllT (λ t. IsMade P (f t)) ts
map-made P f [] h = tt
map-made P f (t ∷ ts) h = (h.0, map-made P f ts h.1)

pairs-made : (P : Tracked → Type 0) (f : Tracked → Tracked → Option Tracked) (ps ns : List Tracked) → AllIsMade P (flat_map (λ p. map (f p) ns) ps) → AllT (λ p. AllT (λ n. IsMade P (f p n)) ns) ps
pairs-made P f [] ns h = tt
pairs-made P f (p ∷ ps) ns h = (map-made P (f p) ns (AllIsMade-left P _ _ h), pairs-made P f ps ns (AllIsMade-right P (map (f p) ns) _ h))

-- a line without the variable stays good as the point moves along it
level-moves : (v : ℕ) (d k w : ℤ) (s : Store) (t : Tracked) → pos 0 <ℤ k → Level v d s t → Level v (d *ℤ k) (moved k v w s) t
level-moves v d k w s t h l =
    let e : height d s t.form *ℤ k ≡ height (d *ℤ k) (moved k v w s) t.form = omega (arith, ints, height-moved d k v w s t.form, ap (λ x. x *ℤ w) l.1, zero-*ℤ w) in
    (subst (HoldsBy t.equal) e (holds_times t.equal (height d s t.form) k h l.0), l.1)

-- the equation's case
abbrev AtMoved : ℕ → ℤ → Store → ℤ → ℤ → Tracked → Type 0
AtMoved v d s k w t = Good (d *ℤ k) (moved k v w s) t

solves-both : (b z : Bool) → b && not z ≡ true → (b ≡ true) × (z ≡ false)
solves-both true true h = absurd (cc)
solves-both true false h = (refl, refl)
solves-both false z h = absurd (cc)

freed-mixed : (v u : ℕ) (d : ℤ) (s : Store) (k w : ℤ) (e t r : Tracked) → pos 0 <ℤ k → height (d *ℤ k) (moved k v w s) e.form ≡ pos 0 → is_zero (part_of v e) ≡ false → IsMix t.equal (first_factor (part_of v t) (part_of v e)) t (against (part_of v t) (part_of v e)) e r → Level v d s r → AtMoved v d s k w t
freed-mixed v u d s k w e t r h z n m l =
    let x : ℤ = first_factor (part_of v t) (part_of v e) in
    let y : ℤ = against (part_of v t) (part_of v e) in
    let q = level-moves v d k w s r h l in
    let sum = ap (height (d *ℤ k) (moved k v w s)) m.form ∙ height-mix (d *ℤ k) (moved k v w s) x y t.form e.form in
    let none = ap (λ h. h *ℤ y) z ∙ zero-*ℤ y in
    holds_from t.equal (height (d *ℤ k) (moved k v w s) t.form) x (height (d *ℤ k) (moved k v w s) r.form) (first_positive (part_of v t) (part_of v e) n) (omega (arith, ints, sum, none)) (subst (λ b. HoldsBy b (height (d *ℤ k) (moved k v w s) r.form)) m.equal q.0)

freed-good : (P Q : Tracked → Type 0) (b : Bool) (t : Tracked) (m : Option Tracked) → (P t → Q t) → ((r : Tracked) → m ≡ Some r → P r → Q t) → IsMade P (if b then Some t else m) → Q t
freed-good P Q true t m f g h = f h
freed-good P Q false t m f g h = let r = is-made P m h in g r.0 r.1 r.2

freed-all : (v : ℕ) (d : ℤ) (s : Store) (k w : ℤ) (e : Tracked) → pos 0 <ℤ k → height (d *ℤ k) (moved k v w s) e.form ≡ pos 0 → is_zero (part_of v e) ≡ false → (ts : List Tracked) → AllT (λ t. IsMade (Level v d s) (freed v e t)) ts → AllT (AtMoved v d s k w) ts
freed-all v d s k w e h z n [] l = tt
freed-all v d s k w e h z n (t ∷ ts) l = (
  freed-good (Level v d s) (AtMoved v d s k w) (is_zero (part_of v t)) t _
      (λ p. (level-moves v d k w s t h p).0)
      (λ r i p. freed-mixed v 0 d s k w e t r h z n (mixed-is t.equal (first_factor (part_of v t) (part_of v e)) t (against (part_of v t) (part_of v e)) e r i) p) l.0,
  freed-all v d s k w e h z n ts l.1,
)

abbrev pub AllGood : List Tracked → ℤ → Store → Type 0
AllGood ts d s = AllT (Good d s) ts

not_zero : (z : ℤ) → is_zero z ≡ false → (pos 0 <ℤ z) ⊎ (z <ℤ pos 0)
not_zero (pos zero) h = absurd (cc)
not_zero (pos (suc n)) h = inl (omega (arith, ints))
not_zero (negsuc n) h = inr (omega (arith, ints))

equation-moved : (v w : ℕ) (ts : List Tracked) (e : Tracked) (d : ℤ) (s : Store) (k z : ℤ) → solver v ts ≡ Some e → solves v e ≡ true → pos 0 <ℤ d → AllIsMade (Level v d s) (map (freed v e) (others v ts)) → pos 0 <ℤ k → pos 0 <ℤ (d *ℤ k) → height (d *ℤ k) (moved k v z s) e.form ≡ pos 0 → Point (AllGood ts)
equation-moved v w ts e d s k z i j h l m n o =
    let b = solves-both e.equal (is_zero (part_of v e)) j in
    record {
      d = d *ℤ k;
      s = moved k v z s;
      positive = n;
      holds = AllT-restore (AtMoved v d s k z) v ts e i (freed-all v d s k z e m o b.1 (others v ts) (map-made (Level v d s) (freed v e) (others v ts) l)) (subst (λ b. HoldsBy b (height (d *ℤ k) (moved k v z s) e.form)) (sym b.0) o);
    }

equation-case : (v w : ℕ) (ts : List Tracked) (e : Tracked) (d : ℤ) (s : Store) → AllT (IsProper v w) ts → solver v ts ≡ Some e → pos 0 <ℤ d → AllIsMade (Level v d s) (map (freed v e) (others v ts)) → Point (AllGood ts)
equation-case v w ts e d s p i h l =
    let q = solver-is (IsProper v w) v ts e p i in
    let n = (solves-both e.equal (is_zero (part_of v e)) q.1).1 in
    let g = part_slope v w e q.0 in
    elim (not_zero (part_of v e) n) [
      | inl up ↦ let u : pos 0 <ℤ slope v e.form = subst (λ z. pos 0 <ℤ z) g up in
          equation-moved v w ts e d s (slope v e.form) (neg_ℤ (height d s e.form)) i q.1 h l u (above_times d (slope v e.form) h u) (tight d s v e.form)
      | inr down ↦ let u : pos 0 <ℤ neg_ℤ (slope v e.form) = omega (arith, ints, g, down) in
          equation-moved v w ts e d s (neg_ℤ (slope v e.form)) (height d s e.form) i q.1 h l u (above_times d (neg_ℤ (slope v e.form)) h u) (tight_above d s v e.form)
    ]

-- the case of rows
all-stable : (v : ℕ) (ms : List (Option Tracked)) (d k w : ℤ) (s : Store) → pos 0 <ℤ k → AllIsMade (Level v d s) ms → AllIsMade (Level v (d *ℤ k) (moved k v w s)) ms
all-stable v ms d k w s h = AllIsMade-weaker (Level v d s) (Level v (d *ℤ k) (moved k v w s)) (λ t l. level-moves v d k w s t h l) ms

-- a line with the variable is a row
abbrev pub RowIf : ℕ → Tracked → Type 0
RowIf v t = is_zero (part_of v t) ≡ false → t.equal ≡ false

row-if : (b z : Bool) → b && not z ≡ false → z ≡ false → b ≡ false
row-if true true h k = absurd (cc)
row-if true false h k = absurd (cc)
row-if false z h k = refl

-- an upper bound holds where a tight lower bound and their pair do
pair-least : (v w : ℕ) (d : ℤ) (s : Store) (p n : Tracked) → is_up (part_of v p) ≡ true → height d s p.form ≡ pos 0 → IsMade (Level v d s) (paired v p n) → Least d s n
pair-least v w d s p n u z h =
    let x : ℤ = first_factor (part_of v p) (part_of v n) in
    let y : ℤ = second_factor (part_of v p) (part_of v n) in
    let r = is-made (Level v d s) (paired v p n) h in
    let m = mixed-is false x p y n r.0 r.1 in
    let sum = ap (height d s) m.form ∙ height-mix d s x y p.form n.form in
    let none = ap (λ h. h *ℤ x) z ∙ zero-*ℤ x in
    holds_from false (height d s n.form) y (height d s r.0.form) (second_positive (part_of v p) (part_of v n) (up-not_zero _ u)) (omega (arith, ints, sum, none)) (subst (λ b. HoldsBy b (height d s r.0.form)) m.equal r.2.0)

pairs-least : (v w : ℕ) (d : ℤ) (s : Store) (p : Tracked) → is_up (part_of v p) ≡ true → height d s p.form ≡ pos 0 → (ns : List Tracked) → AllT (λ n. IsMade (Level v d s) (paired v p n)) ns → AllT (Least d s) ns
pairs-least v w d s p u z [] h = tt
pairs-least v w d s p u z (n ∷ ns) h = (pair-least v w d s p n u z h.0, pairs-least v w d s p u z ns h.1)

up_is : (z : ℤ) → is_up z ≡ true → pos 0 <ℤ z
up_is (pos zero) h = absurd (cc)
up_is (pos (suc n)) h = omega (arith, ints)
up_is (negsuc n) h = absurd (cc)

down_is : (z : ℤ) → is_down z ≡ true → z <ℤ pos 0
down_is (pos n) h = absurd (cc)
down_is (negsuc n) h = omega (arith, ints)

ups : (v w : ℕ) (ts : List Tracked) → AllT (λ t. IsProper v w t × (bounds_below v t ≡ true)) ts → AllT (Up v) ts
ups v w [] h = tt
ups v w (t ∷ ts) h = (subst (λ z. pos 0 <ℤ z) (part_slope v w t h.0.0) (up_is (part_of v t) h.0.1), ups v w ts h.1)

downs : (v w : ℕ) (ts : List Tracked) → AllT (λ t. IsProper v w t × (bounds_above v t ≡ true)) ts → AllT (Down v) ts
downs v w [] h = tt
downs v w (t ∷ ts) h = (subst (λ z. z <ℤ pos 0) (part_slope v w t h.0.0) (down_is (part_of v t) h.0.1), downs v w ts h.1)

gather-cons : (v : ℕ) (d : ℤ) (s : Store) (t : Tracked) (z : ℤ) (fs us ns ts : List Tracked) → (is_zero z ≡ false → t.equal ≡ false) → AllT (Good d s) (if is_zero z then t ∷ fs else fs) → AllT (Least d s) (if is_up z then t ∷ us else us) → AllT (Least d s) (if is_down z then t ∷ ns else ns) → (AllT (Good d s) fs → AllT (Least d s) us → AllT (Least d s) ns → AllT (Good d s) ts) → Good d s t × AllT (Good d s) ts
gather-cons v d s t (pos zero) fs us ns ts e f u n k = (f.0, k f.1 u n)
gather-cons v d s t (pos (suc m)) fs us ns ts e f u n k = (subst (λ b. HoldsBy b (height d s t.form)) (sym (e refl)) u.0, k f u.1 n)
gather-cons v d s t (negsuc m) fs us ns ts e f u n k = (subst (λ b. HoldsBy b (height d s t.form)) (sym (e refl)) n.0, k f u n.1)

-- lines without the variable, lower bounds and upper bounds are all lines
gather : (v : ℕ) (d : ℤ) (s : Store) (ts : List Tracked) → AllT (RowIf v) ts → AllT (Good d s) (kept_by (is_free v) ts) → AllT (Least d s) (kept_by (bounds_below v) ts) → AllT (Least d s) (kept_by (bounds_above v) ts) → AllT (Good d s) ts
gather v d s [] e f u n = tt
gather v d s (t ∷ ts) e f u n =
    gather-cons v d s t (part_of v t) (kept_by (is_free v) ts) (kept_by (bounds_below v) ts) (kept_by (bounds_above v) ts) ts e.0 f u n (gather v d s ts e.1)

abbrev Frees : ℕ → List Tracked → List (Option Tracked)
Frees v ts = map Some (kept_by (is_free v) ts)

abbrev Lower : ℕ → List Tracked → List Tracked
Lower v ts = kept_by (bounds_below v) ts

abbrev Upper : ℕ → List Tracked → List Tracked
Upper v ts = kept_by (bounds_above v) ts

abbrev RowsMade : ℕ → List Tracked → ℤ → Store → Type 0
RowsMade v ts d s = AllIsMade (Level v d s) (Frees v ts ++ pairs v (Lower v ts) (Upper v ts))

frees-good : (v : ℕ) (d : ℤ) (s : Store) (ts : List Tracked) → AllIsMade (Level v d s) (map Some ts) → AllT (Good d s) ts
frees-good v d s [] h = tt
frees-good v d s (t ∷ ts) h = (h.0.0, frees-good v d s ts h.1)

-- a lower bound whose pairs hold wherever the lines that are made do
abbrev Pairs : ℕ → List Tracked → Tracked → Type 0
Pairs v ts p = (is_up (part_of v p) ≡ true) × ((d : ℤ) (s : Store) → RowsMade v ts d s → AllT (λ n. IsMade (Level v d s) (paired v p n)) (Upper v ts))

abbrev Row : Type 0
Row = Tracked

-- one lower bound's part of what is known of all
pairs-of : (v : ℕ) (ts qs : List Tracked) → ((d : ℤ) (s : Store) → RowsMade v ts d s → AllT (λ p. AllT (λ n. IsMade (Level v d s) (paired v p n)) (Upper v ts)) qs) → AllT (λ t. bounds_below v t ≡ true) qs → AllT (Pairs v ts) qs
pairs-of v ts [] f u = tt
pairs-of v ts (q ∷ qs) f u = ((u.0, λ d s h. (f d s h).0), pairs-of v ts qs (λ d s h. (f d s h).1) u.1)

all-pairs : (v : ℕ) (ts : List Tracked) → AllT (λ t. bounds_below v t ≡ true) (Lower v ts) → AllT (Pairs v ts) (Lower v ts)
all-pairs v ts u = pairs-of v ts (Lower v ts) (λ d s h. pairs-made (Level v d s) (paired v) (Lower v ts) (Upper v ts) (AllIsMade-right (Level v d s) (Frees v ts) _ h)) u

-- a point at which the made lines, the lower and the upper bounds hold
bounded : (v w : ℕ) (ts us : List Tracked) → AllT (Up v) us → AllT (Pairs v ts) us → AllT (Down v) (Upper v ts) → Point (RowsMade v ts) → Point (λ d s. RowsMade v ts d s × AllT (Least d s) us × AllT (Least d s) (Upper v ts))
bounded v w ts [] u g n p =
    let q = under (RowsMade v ts) v (λ d k z s h r. all-stable v _ d k z s h r) (Upper v ts) n p in
    record { d = q.d; s = q.s; positive = q.positive; holds = (q.holds.0, tt, q.holds.1) }
bounded v w ts (x ∷ xs) u g n p =
    let q = over (RowsMade v ts) (Pairs v ts) v (λ d k z s h r. all-stable v _ d k z s h r) x xs u g p in
    let t = q.holds.2 in
    record { d = q.d; s = q.s; positive = q.positive; holds = (q.holds.0, q.holds.1, pairs-least v w q.d q.s t.0 t.1.0 t.2 (Upper v ts) (t.1.1 q.d q.s q.holds.0)) }

rows-case : (v w : ℕ) (ts : List Tracked) (d : ℤ) (s : Store) → AllT (IsProper v w) ts → solver v ts ≡ None → pos 0 <ℤ d → RowsMade v ts d s → Point (AllGood ts)
rows-case v w ts d s p i h l =
    let lower = AllT-kept (IsProper v w) (bounds_below v) ts p in
    let upper = AllT-kept (IsProper v w) (bounds_above v) ts p in
    let tests = AllT-weaker (λ t. IsProper v w t × (bounds_below v t ≡ true)) (λ t. bounds_below v t ≡ true) (λ t k. k.1) (Lower v ts) lower in
    let q = bounded v w ts (Lower v ts) (ups v w _ lower) (all-pairs v ts tests) (downs v w _ upper) record { d = d; s = s; positive = h; holds = l } in
    let rows = AllT-weaker (λ t. solves v t ≡ false) (RowIf v) (λ t k. row-if t.equal (is_zero (part_of v t)) k) ts (solver-none v ts i) in
    record {
      d = q.d;
      s = q.s;
      positive = q.positive;
      holds = gather v q.d q.s ts rows (frees-good v q.d q.s _ (AllIsMade-left (Level v q.d q.s) (Frees v ts) _ q.holds.0)) q.holds.1 q.holds.2;
    }

stage-by : (v w : ℕ) (ts : List Tracked) (d : ℤ) (s : Store) (o : Option Tracked) → AllT (IsProper v w) ts → solver v ts ≡ o → pos 0 <ℤ d → AllIsMade (Level v d s) (made_with v o ts) → Point (AllGood ts)
stage-by v w ts d s (Some e) p i h l = equation-case v w ts e d s p i h l
stage-by v w ts d s None p i h l = rows-case v w ts d s p i h l

-- a point for the new list gives one for the list before it
pub stage-point : (v w : ℕ) (ts new : List Tracked) (room : ℕ) → AllT (IsProper v w) ts → AllT (IsProper (v + 1) w) new → sifted (made v ts) room ≡ list new → Point (AllGood new) → Point (AllGood ts)
stage-point v w ts new room p q e x =
    let levels = AllT-weaker (λ t. Good x.d x.s t × IsProper (v + 1) w t) (Level v x.d x.s) (λ t k. (k.0, slope-from v w t.form.entries k.1.from)) new (AllT-both (Good x.d x.s) (IsProper (v + 1) w) new x.holds q) in
    stage-by v w ts x.d x.s (solver v ts) p refl x.positive
    (sifted-restores (Level v x.d x.s) (λ t g. goes-good v x.d x.s t.form.entries t.form.constant t.equal t.picks x.positive g) (made v ts) room new e levels)
