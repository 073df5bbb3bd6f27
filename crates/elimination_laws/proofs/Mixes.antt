use Rattle.std.proofs.Common.{◌≡◌, ℕ, zero, suc, ◌+◌, ◌*◌, ◌/◌, ◌^◌, ◌<◌, ◌≤◌, Bool, true, false, cond, Option, Some, None, List, [], ◌∷◌, inl, inr, refl, ap, ◌∙◌, sym, subst, arith, ℤ, pos, negsuc, neg_ℤ, ◌+ℤ◌, ◌*ℤ◌, ◌<ℤ◌}
use Rattle.std.specs.Prelude.{IsTrue, unsigned_abs, option_and_then, ◌==◌}
use Rattle.std.specs.Option.{option_map}
use Prim.Native.Nat.{◌∣◌}
use Rattle.std.proofs.lemmas.Nat.Gcd.{mod-eq-zero_of_dvd}
use Rattle.std.proofs.lemmas.Bool.{cases_eq}
use Rattle.std.proofs.lemmas.Bool.Decides.{nat_tests}
use Rattle.std.proofs.lemmas.Int.{ints}
use Rattle.std.proofs.Math.IntN.{*ℤ_comm}
use Rattle.st_linear.specs.Linear.{joined, scaled_entries, with_entry, sum_of, scaled, AreEntries}
use Rattle.st_linear.proofs.Joined.{joined-ind, AreEntries-joined}
use Rattle.st_linear.proofs.Fitting.{AreEntries-scaled}
use Rattle.st_linear.proofs.Dividing.{common_divisor-divides}
use Rattle.st_linear.proofs.Ints.{neg_ℤ-*ℤ}
use Rattle.elimination_laws.specs.Mixing.{Tracked, mixed_number, mixed_entries, mixed, part, shared, first_factor, second_factor, differ, against, is_up, is_down}
use Rattle.st_linear.specs.Linear.{is_within, are_within, number_within, entries_within, is_zero}
use Rattle.basic_laws.proofs.Numbers.{cross}

abbrev Entries : Type 0
Entries = List (ℕ × ℤ)

-- what there is of a step that may fail
pub and_then-some : {A B : Type 0} (f : A → Option B) (o : Option A) (r : B) → option_and_then f o ≡ Some r → (a : A) × (o ≡ Some a) × (f a ≡ Some r)
and_then-some f None r h = absurd (cc)
and_then-some f (Some a) r h = (a, refl, h)

pub map-some : {A B : Type 0} (f : A → B) (o : Option A) (r : B) → option_map f o ≡ Some r → (a : A) × (o ≡ Some a) × (f a ≡ r)
map-some f None r h = absurd (cc)
map-some f (Some a) r h = (a, refl, cc)

by_test : {A : Type 0} (b : Bool) (x y : A) → cond b (Some x) None ≡ Some y → (x ≡ y) × IsTrue b
by_test true x y h = (cc, refl)
by_test false x y h = absurd (cc)

number_within-is : (limit : ℕ) (z r : ℤ) → number_within limit z ≡ Some r → z ≡ r
number_within-is limit z r h = (by_test (is_within limit z) z r h).0

entries_within-is : (limit : ℕ) (es r : Entries) → entries_within limit es ≡ Some r → (es ≡ r) × IsTrue (are_within limit es)
unfolding entries_within
entries_within-is limit es r h = by_test (are_within limit es) es r h

sum-parts : (a b p q r : ℤ) → a ≡ p → b ≡ q → p +ℤ q ≡ r → r ≡ a +ℤ b
sum-parts a b p q r h k l = rw (h, k) (sym l)

mixed_number-is : (limit : ℕ) (x a y b r : ℤ) → mixed_number limit x a y b ≡ Some r → r ≡ a *ℤ x +ℤ b *ℤ y
unfolding mixed_number
mixed_number-is limit x a y b r h =
    let p = and_then-some _ (number_within limit (a *ℤ x)) r h in
    let q = and_then-some _ (number_within limit (b *ℤ y)) r p.2 in
    let i = number_within-is limit (a *ℤ x) p.0 p.1 in
    let j = number_within-is limit (b *ℤ y) q.0 q.1 in
    sum-parts (a *ℤ x) (b *ℤ y) p.0 q.0 r i j (number_within-is limit (p.0 +ℤ q.0) r q.2)

joined-parts : (a b ps qs r : Entries) → a ≡ ps → b ≡ qs → joined ps qs ≡ r → r ≡ joined a b
joined-parts a b ps qs r h k l = rw (h, k) (sym l)

pub mixed_entries-is : (limit : ℕ) (x : ℤ) (xs : Entries) (y : ℤ) (ys r : Entries) → mixed_entries limit x xs y ys ≡ Some r → (r ≡ joined (scaled_entries x xs) (scaled_entries y ys)) × IsTrue (are_within limit r)
unfolding mixed_entries
mixed_entries-is limit x xs y ys r h =
    let p = and_then-some _ (entries_within limit (scaled_entries x xs)) r h in
    let q = and_then-some _ (entries_within limit (scaled_entries y ys)) r p.2 in
    let i = entries_within-is limit (scaled_entries x xs) p.0 p.1 in
    let j = entries_within-is limit (scaled_entries y ys) q.0 q.1 in
    let k = entries_within-is limit (joined p.0 q.0) r q.2 in
    (joined-parts _ _ p.0 q.0 r i.0 j.0 k.0, subst (λ es. IsTrue (are_within limit es)) k.0 k.1)

-- what a mixed line is
pub record IsMix (b : Bool) (x : ℤ) (s : Tracked) (y : ℤ) (t r : Tracked) : Type 0 where
  pub form : r.form ≡ sum_of (scaled x s.form) (scaled y t.form)
  pub equal : r.equal ≡ b
  pub picks : r.picks ≡ joined (scaled_entries x s.picks) (scaled_entries y t.picks)
  pub within : IsTrue (are_within (2 ^ 40) r.picks)

mixed-made : (b : Bool) (x : ℤ) (s : Tracked) (y : ℤ) (t r : Tracked) (c : ℤ) (es ps : Entries) → mixed_number (2 ^ 100) x s.form.constant y t.form.constant ≡ Some c → mixed_entries (2 ^ 100) x s.form.entries y t.form.entries ≡ Some es → mixed_entries (2 ^ 40) x s.picks y t.picks ≡ Some ps → record { form = record { constant = c; entries = es }; equal = b; picks = ps } ≡ r → IsMix b x s y t r
mixed-made b x s y t r c es ps h k l m =
    let i = mixed_number-is (2 ^ 100) x s.form.constant y t.form.constant c h in
    let j = mixed_entries-is (2 ^ 100) x s.form.entries y t.form.entries es k in
    let o = mixed_entries-is (2 ^ 40) x s.picks y t.picks ps l in
    subst (λ r. IsMix b x s y t r) m record { form = rw (i, j.0) refl; equal = refl; picks = o.0; within = o.1 }

pub mixed-is : (b : Bool) (x : ℤ) (s : Tracked) (y : ℤ) (t r : Tracked) → mixed b x s y t ≡ Some r → IsMix b x s y t r
unfolding mixed
mixed-is b x s y t r h =
    let p = and_then-some _ (mixed_number (2 ^ 100) x s.form.constant y t.form.constant) r h in
    let q = and_then-some _ (mixed_entries (2 ^ 100) x s.form.entries y t.form.entries) r p.2 in
    let o = map-some _ (mixed_entries (2 ^ 40) x s.picks y t.picks) r q.2 in
    mixed-made b x s y t r p.0 q.0 o.0 p.1 q.1 o.1 o.2

whole : (g a : ℕ) → 0 < g → g ∣ a → g * (a / g) ≡ a
whole g a h k = omega (arith, mod-eq-zero_of_dvd g k)

shared-divides : (a c : ℤ) → (0 < shared a c) × (shared a c ∣ unsigned_abs a) × (shared a c ∣ unsigned_abs c)
unfolding shared
shared-divides a c = let h = common_divisor-divides ((0, a) ∷ (1, c) ∷ []) in (h.0, h.1.0, h.1.1.0)

sizes : (a c : ℤ) → unsigned_abs a * (unsigned_abs c / shared a c) ≡ unsigned_abs c * (unsigned_abs a / shared a c)
sizes a c =
    let h = shared-divides a c in
    cross (shared a c) _ _ _ _ (whole (shared a c) (unsigned_abs a) h.0 h.1) (whole (shared a c) (unsigned_abs c) h.0 h.2)

opposite : (a c : ℤ) (m n : ℕ) → unsigned_abs a * n ≡ unsigned_abs c * m → differ a c ≡ true → a *ℤ pos n +ℤ c *ℤ pos m ≡ pos 0
opposite (pos a) (pos c) m n h k = absurd (cc)
opposite (pos a) (negsuc c) m n h k = omega (arith, ints)
opposite (negsuc a) (pos c) m n h k = omega (arith, ints)
opposite (negsuc a) (negsuc c) m n h k = absurd (cc)

alike_sizes : (a c : ℤ) (m n : ℕ) → unsigned_abs a * n ≡ unsigned_abs c * m → differ a c ≡ false → a *ℤ pos n ≡ c *ℤ pos m
alike_sizes (pos a) (pos c) m n h k = omega (arith, ints)
alike_sizes (pos a) (negsuc c) m n h k = absurd (cc)
alike_sizes (negsuc a) (pos c) m n h k = absurd (cc)
alike_sizes (negsuc a) (negsuc c) m n h k = omega (arith, ints)

times_neg : (c z : ℤ) → c *ℤ neg_ℤ z ≡ neg_ℤ (c *ℤ z)
times_neg c z = *ℤ_comm c (neg_ℤ z) ∙ neg_ℤ-*ℤ z c ∙ ap neg_ℤ (*ℤ_comm z c)

alike : (a c : ℤ) (m n : ℕ) → unsigned_abs a * n ≡ unsigned_abs c * m → differ a c ≡ false → a *ℤ pos n +ℤ c *ℤ neg_ℤ (pos m) ≡ pos 0
alike a c m n h k = omega (arith, ints, times_neg c (pos m), alike_sizes a c m n h k)

balanced : (a c : ℤ) (m n : ℕ) (b : Bool) → differ a c ≡ b → unsigned_abs a * n ≡ unsigned_abs c * m → a *ℤ pos n +ℤ c *ℤ (cond b (pos m) (neg_ℤ (pos m))) ≡ pos 0
balanced a c m n true e h = opposite a c m n h e
balanced a c m n false e h = alike a c m n h e

pub balance : (a c : ℤ) → a *ℤ first_factor a c +ℤ c *ℤ against a c ≡ pos 0
unfolding first_factor second_factor against
balance a c = balanced a c _ _ (differ a c) refl (sizes a c)

up_down : (a c : ℤ) → is_up a ≡ true → is_down c ≡ true → differ a c ≡ true
up_down (pos a) (pos c) h k = absurd (cc)
up_down (pos a) (negsuc c) h k = refl
up_down (negsuc a) c h k = absurd (cc)

pub balance-pair : (a c : ℤ) → is_up a ≡ true → is_down c ≡ true → a *ℤ first_factor a c +ℤ c *ℤ second_factor a c ≡ pos 0
unfolding first_factor second_factor
balance-pair a c h k = opposite a c _ _ (sizes a c) (up_down a c h k)

not_none : (z : ℤ) → is_zero z ≡ false → 0 < unsigned_abs z
not_none (pos zero) h = absurd (cc)
not_none (pos (suc n)) h = omega arith
not_none (negsuc n) h = omega arith

quotient_positive : (g a q : ℕ) → g * q ≡ a → 0 < a → 0 < q
quotient_positive g a zero h k = absurd (omega arith)
quotient_positive g a (suc q) h k = omega arith

pub first_positive : (a c : ℤ) → is_zero c ≡ false → pos 0 <ℤ first_factor a c
unfolding first_factor
first_positive a c h =
    let d = shared-divides a c in
    let p = quotient_positive (shared a c) (unsigned_abs c) (unsigned_abs c / shared a c) (whole (shared a c) (unsigned_abs c) d.0 d.2) (not_none c h) in
    omega (arith, ints, p)

pub second_positive : (a c : ℤ) → is_zero a ≡ false → pos 0 <ℤ second_factor a c
unfolding second_factor
second_positive a c h =
    let d = shared-divides a c in
    let p = quotient_positive (shared a c) (unsigned_abs a) (unsigned_abs a / shared a c) (whole (shared a c) (unsigned_abs a) d.0 d.1) (not_none a h) in
    omega (arith, ints, p)

-- what holds of each variable
abbrev pub AllVars : (ℕ → Type 0) → Entries → Type 0
AllVars P [] = Unit {0}
AllVars P (e ∷ es) = P e.0 × AllVars P es

AllVars-with_entry : (P : ℕ → Type 0) (v : ℕ) (c : ℤ) (es : Entries) → P v → AllVars P es → AllVars P (with_entry v c es)
AllVars-with_entry P v (pos zero) es h k = k
AllVars-with_entry P v (pos (suc n)) es h k = (h, k)
AllVars-with_entry P v (negsuc n) es h k = (h, k)

AllVars-scaled : (P : ℕ → Type 0) (c : ℤ) (es : Entries) → AllVars P es → AllVars P (scaled_entries c es)
AllVars-scaled P c [] h = tt
AllVars-scaled P c (e ∷ es) h = AllVars-with_entry P e.0 (e.1 *ℤ c) _ h.0 (AllVars-scaled P c es h.1)

AllVars-joined : (P : ℕ → Type 0) (xs ys : Entries) → AllVars P xs → AllVars P ys → AllVars P (joined xs ys)
AllVars-joined P =
    joined-ind (λ xs ys zs. AllVars P xs → AllVars P ys → AllVars P zs)
    (λ ys h k. k)
    (λ x xs h k. h)
    (λ x y xs ys zs o p h k. (h.0, p h.1 k))
    (λ x y xs ys zs o p h k. (k.0, p h k.1))
    (λ x y xs ys zs o p h k. AllVars-with_entry P x.0 (x.1 +ℤ y.1) zs h.0 (p h.1 k.1))

pub AllVars-mix : (P : ℕ → Type 0) (x y : ℤ) (xs ys : Entries) → AllVars P xs → AllVars P ys → AllVars P (joined (scaled_entries x xs) (scaled_entries y ys))
AllVars-mix P x y xs ys h k = AllVars-joined P _ _ (AllVars-scaled P x xs h) (AllVars-scaled P y ys k)

pub AreEntries-mix : (x y : ℤ) (xs ys : Entries) → AreEntries xs → AreEntries ys → AreEntries (joined (scaled_entries x xs) (scaled_entries y ys))
AreEntries-mix x y xs ys h k = AreEntries-joined _ _ (AreEntries-scaled x xs h) (AreEntries-scaled y ys k)

abbrev pub From : ℕ → ℕ → ℕ → Type 0
From v w u = (v ≤ u) × (u < w)

-- without the variable v, all are from v + 1 on
pub AllVars-above : (v w : ℕ) (es : Entries) → AreEntries es → part v es ≡ pos 0 → AllVars (From v w) es → AllVars (From (v + 1) w) es
AllVars-above v w [] h e k = tt
AllVars-above v w (x ∷ es) h e k =
    elim (cases_eq x.0 v) [
      | inl same ↦ let t : (x.0 == v) ≡ true = grind (arith, nat_tests) in absurd (h.1 (rw t at e))
      | inr other ↦ let t : (x.0 == v) ≡ false = grind (arith, nat_tests) in ((omega (arith, k.0), k.0.1), AllVars-above v w es h.2 (rw t at e) k.1)
    ]
