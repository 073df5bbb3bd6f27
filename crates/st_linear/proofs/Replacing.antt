-- Replacements and evaluations have the values that they should have.
use Rattle.std.proofs.Common.{◌≡◌, ℕ, ◌+◌, ◌<◌, Bool, true, false, cond, List, [], ◌∷◌, length, drop, get_or, refl, ap, ◌∙◌, sym, arith, ℤ, pos, ◌+ℤ◌, ◌*ℤ◌, Option, Some, None}
use Rattle.std.specs.Option.{option_map}
use Rattle.std.specs.Prelude.{IfSome, ◌↔◌, ◌≤ℤ◌, int_le, IsTrue, is_some, option_and_then, if◌then◌else◌, zero, suc, slice_index_or}
use Rattle.std.proofs.lemmas.Bool.{and_from, and_parts}
use Rattle.std.proofs.lemmas.Int.{ints}
use Rattle.std.proofs.lemmas.List.{drop_more}
use Rattle.std.proofs.lemmas.Bool.Decides.{nat_tests}
use mir.Syntax.{w128}
use mir.Val.{to_z, of_z}
use Rattle.std.proofs.lemmas.Int.{to_z-of_z, fits_signed_from_abs}
use Rattle.std.proofs.Math.IntN.{*ℤ_comm, +ℤ_assoc}
use Rattle.st_linear.specs.Linear.{is_within, Linear, is_small, is_wide, narrow, are_small, fitting, sum_of, value, entries_value, AreEntries, AllAbove, scaled, form_for, kept_entries, plus_scaled, with_listed, with_one, value_or, changed, replaced, evaluated, valuation, AllBelow}
use Rattle.st_linear.proofs.Fitting.{fitting-is, value-sum_of, value-scaled}
use Rattle.st_linear.proofs.Joins.{none}

abbrev Entries : Type 0
Entries = List (ℕ × ℤ)

pub are_small-kept : (ps : List (ℕ × Linear)) (es : Entries) → IsTrue (are_small es) → IsTrue (are_small (kept_entries ps es))
are_small-kept ps [] h = h
are_small-kept ps (e ∷ es) h =
    let p = and_parts _ _ h in
    let rest = are_small-kept ps es p.1 in
    elim (is_some (form_for e.0 ps)) as (λ b. IsTrue (are_small (if b then kept_entries ps es else e ∷ kept_entries ps es))) [ true ↦ rest | false ↦ and_from _ _ p.0 rest ]

AllAbove-kept : (v : ℕ) (ps : List (ℕ × Linear)) (es : Entries) → AllAbove v es → AllAbove v (kept_entries ps es)
AllAbove-kept v ps [] h = tt
AllAbove-kept v ps (e ∷ es) h =
    let rest = AllAbove-kept v ps es h.1 in
    elim (is_some (form_for e.0 ps)) as (λ b. AllAbove v (if b then kept_entries ps es else e ∷ kept_entries ps es)) [ true ↦ rest | false ↦ (h.0, rest) ]

pub AreEntries-kept : (ps : List (ℕ × Linear)) (es : Entries) → AreEntries es → AreEntries (kept_entries ps es)
AreEntries-kept ps [] h = tt
AreEntries-kept ps (e ∷ es) h =
    let rest = AreEntries-kept ps es h.2 in
    elim (is_some (form_for e.0 ps)) as (λ b. AreEntries (if b then kept_entries ps es else e ∷ kept_entries ps es)) [ true ↦ rest | false ↦ (AllAbove-kept e.0 ps es h.0, h.1, rest) ]

pub bind-some : {A B : Type 0} (m : A → Option B) (o : Option A) (r : B) → option_and_then m o ≡ Some r → (x : A) × (o ≡ Some x) × (m x ≡ Some r)
bind-some m None r h = absurd (cc)
bind-some m (Some x) r h = (x, refl, h)

value-plus_scaled : (store : ℕ → ℤ) (f : Linear) (c : ℤ) (g h : Linear) → plus_scaled f c g ≡ Some h → value store h ≡ value store f +ℤ value store g *ℤ c
value-plus_scaled store f c g h k =
    let p = bind-some _ (fitting (scaled c g)) h k in
    let product : scaled c g ≡ p.0 = fitting-is _ _ p.1 in
    let sum : sum_of f p.0 ≡ h = fitting-is _ _ p.2 in
    ap (value store) (sym sum) ∙ value-sum_of store f p.0 ∙ ap (λ x. value store f +ℤ value store x) (sym product) ∙ ap (λ x. value store f +ℤ x) (value-scaled store c g)

listed-step : (store : ℕ → ℤ) (o : Option Linear) (e : ℕ × ℤ) (more : Linear → Option Linear) (k : Entries) (rest : ℤ) (f r : Linear)
    → ((h : Linear) → more h ≡ Some r → value store r +ℤ entries_value store k ≡ value store h +ℤ rest)
    → with_one o e.1 more f ≡ Some r
    → value store r +ℤ entries_value store (if is_some o then k else e ∷ k) ≡ value store f +ℤ (e.1 *ℤ value_or (store e.0) store o +ℤ rest)
listed-step store None e more k rest f r ih h = let i = ih f h in omega (arith, ints, i)
listed-step store (Some g) e more k rest f r ih h =
    let p = bind-some more (plus_scaled f e.1 g) r h in
    let i = ih p.0 p.2 in
    let v = value-plus_scaled store f e.1 g p.0 p.1 in
    i ∙ ap (λ x. x +ℤ rest) (v ∙ ap (λ x. value store f +ℤ x) (*ℤ_comm (value store g) e.1)) ∙ +ℤ_assoc (value store f) (e.1 *ℤ value store g) rest

value-with_listed : (store : ℕ → ℤ) (ps : List (ℕ × Linear)) (es : Entries) (f r : Linear) → with_listed ps es f ≡ Some r → value store r +ℤ entries_value store (kept_entries ps es) ≡ value store f +ℤ entries_value (changed store ps) es
value-with_listed store ps [] f r h = let e : f ≡ r = cc in ap (λ x. value store x +ℤ pos 0) (sym e)
value-with_listed store ps (e ∷ es) f r h = listed-step store (form_for e.0 ps) e (with_listed ps es) (kept_entries ps es) _ f r (λ g. value-with_listed store ps es g r) h

pub value-replaced : (store : ℕ → ℤ) (ps : List (ℕ × Linear)) (f r : Linear) → replaced ps f ≡ Some r → value store r ≡ value (changed store ps) f
value-replaced store ps f r h = omega (arith, ints, value-with_listed store ps f.entries _ r h)

by_width : (b : Bool) (z s : ℤ) → cond b None (Some z) ≡ Some s → (z ≡ s) × (b ≡ false)
by_width true z s h = absurd (cc)
by_width false z s h = (cc, refl)

pub narrow-some : (z s : ℤ) → narrow z ≡ Some s → (z ≡ s) × (is_wide z ≡ false)
narrow-some z s h = by_width (is_wide z) z s h

pub AllBelow-at : (n : ℕ) (es : Entries) (i : ℕ) → AllBelow n es → i < length es → (get_or es i none).0 < n
AllBelow-at n [] i h k = absurd (omega arith)
AllBelow-at n (e ∷ es) zero h k = h.0
AllBelow-at n (e ∷ es) (suc i) h k = AllBelow-at n es i h.1 (omega arith)

pub evaluated-more : (values : List ℤ) (es : Entries) (i : ℕ) (z p s : ℤ) → i < length es → narrow ((get_or es i none).1 *ℤ slice_index_or values (get_or es i none).0 (pos 0)) ≡ Some p → narrow (z +ℤ p) ≡ Some s → evaluated values (drop i es) z ≡ evaluated values (drop (i + 1) es) s
evaluated-more values es i z p s h k l = rw (drop_more es i none, k, l)

pub to_z-narrow : (z : ℤ) → is_wide z ≡ false → to_z w128 (of_z w128 z) ≡ z
unfolding is_wide
to_z-narrow z h = to_z-of_z w128 z (fits_signed_from_abs w128 z (grind (arith, nat_tests)))

pub small-not_wide : (z : ℤ) → IsTrue (is_small z) → is_wide z ≡ false
unfolding is_within is_wide
small-not_wide z h = grind (arith, nat_tests)

-- the value that is found is the value
pub value-evaluated : (values : List ℤ) (es : Entries) (z r : ℤ) → evaluated values es z ≡ Some r → r ≡ z +ℤ entries_value (valuation values) es
value-evaluated values [] z r h = let e : z ≡ r = cc in omega (arith, ints, e)
value-evaluated values (e ∷ es) z r h =
    let p = bind-some _ (narrow (e.1 *ℤ slice_index_or values e.0 (pos 0))) r h in
    let q = bind-some _ (narrow (z +ℤ p.0)) r p.2 in
    let product = narrow-some _ _ p.1 in
    let sum = narrow-some _ _ q.1 in
    let rest = value-evaluated values es q.0 r q.2 in
    omega (arith, ints, rest, sum.0, product.0)

-- so the test of the sign is the test of the value
pub sign-evaluated : (values : List ℤ) (f : Linear) → IfSome (option_map (λ z. int_le (pos 0) z) (evaluated values f.entries f.constant)) (λ yes'. IsTrue yes' ↔ (pos 0 ≤ℤ value (valuation values) f))
sign-evaluated values f = by_value (evaluated values f.entries f.constant) (λ r h. value-evaluated values f.entries f.constant r h)
  where
    by_sign : (r v : ℤ) → r ≡ v → IsTrue (int_le (pos 0) r) ↔ (pos 0 ≤ℤ v)
    by_sign r v e = rw (← e) (grind (arith, ints), grind (arith, ints))

    by_value : (o : Option ℤ) → ((r : ℤ) → o ≡ Some r → r ≡ value (valuation values) f) → IfSome (option_map (λ z. int_le (pos 0) z) o) (λ yes'. IsTrue yes' ↔ (pos 0 ≤ℤ value (valuation values) f))
    by_value None h = tt
    by_value (Some r) h = by_sign r _ (h r refl)
