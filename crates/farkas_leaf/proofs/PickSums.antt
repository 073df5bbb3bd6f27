-- Sums over picks, one pick after the other.
use Rattle.std.proofs.Common.{◌≡◌, ℕ, zero, suc, ◌+◌, ◌-◌, ◌*◌, ◌<◌, ◌≤◌, ◌^◌, Bool, true, false, List, [], ◌∷◌, length, drop, get_or, map, refl, ap, ◌∙◌, sym, subst, inl, inr, arith, ℤ, pos, ◌+ℤ◌, ◌*ℤ◌, Option, Some, None}
use Rattle.std.specs.Prelude.{unsigned_abs, nat_lt, if◌then◌else◌, IfSome}
use Rattle.std.proofs.lemmas.Int.{ints}
use Rattle.std.proofs.Math.IntN.{zero-*ℤ}
use Rattle.std.proofs.lemmas.List.{drop_more}
use Rattle.std.proofs.lemmas.Bool.{cases_lt}
use Rattle.std.proofs.lemmas.Bool.Decides.{nat_tests}
use Rattle.st_linear.specs.declared.rows.Line.{Line}
use Rattle.st_linear.specs.Linear.{AreEntries, scaled_entries}
use Rattle.st_linear.proofs.Joined.{AreEntries-joined}
use Rattle.st_linear.proofs.Fitting.{AreEntries-scaled}
use Rattle.farkas_leaf.specs.Lines.{line_at, total, RiseWithin, coefficient, signed_picks}
use Rattle.farkas_leaf.specs.Windows.{AgreeUpTo, IsClear, nearer}
use Rattle.farkas_leaf.proofs.Coefficients.{coefficient-joined, coefficient-scaled}

abbrev Picks : Type 0
Picks = List (ℕ × ℤ)

-- the pick that comes next, and its line
pub next-pick : {M : Type 0} (f : M → ℤ) (ps : List (ℕ × M)) (i : ℕ) (p : ℕ × M) → i < length ps → p ≡ get_or ps i p → signed_picks f (drop i ps) ≡ (p.0, f p.1) ∷ signed_picks f (drop (i + 1) ps)
next-pick f ps i p h e = ap (signed_picks f) (drop_more ps i p h ∙ ap (λ q. q ∷ drop (i + 1) ps) (sym e))

pub next-line : {L : Type 0} (f : L → Line) (ls : List L) (k : ℕ) (l : L) → k < length ls → l ≡ get_or ls k l → line_at (map f ls) k ≡ f l
next-line f [] k l h e = absurd (omega arith)
next-line f (x ∷ ls) zero l h e = ap f (sym e)
next-line f (x ∷ ls) (suc k) l h e = next-line f ls k l (omega arith) e

RiseWithin-lower : (n low high : ℕ) (ps : Picks) → low ≤ high → RiseWithin n high ps → RiseWithin n low ps
RiseWithin-lower n low high [] h k = tt
RiseWithin-lower n low high (p ∷ ps) h k = (omega (arith, k.0), k.1, k.2)

pub rise-next : (n : ℕ) (p : ℕ × ℤ) (ps : Picks) → RiseWithin n 0 (p ∷ ps) → (p.0 < n) × RiseWithin n 0 ps
rise-next n p ps h = (h.1, RiseWithin-lower n 0 (p.0 + 1) ps (omega arith) h.2)

-- a partial sum of products is not large
pub sum-grows : (s t : ℤ) (i : ℕ) → unsigned_abs s ≤ 2 ^ 110 * i → unsigned_abs t ≤ 2 ^ 110 → unsigned_abs (s +ℤ t) ≤ 2 ^ 110 * (i + 1)
sum-grows s t i h k = omega (arith, ints, h, k)

-- the constant of the sum
pub constant-step : (lines : List Line) (p : ℕ × ℤ) (ps : Picks) (line : Line) (s t whole : ℤ) → line_at lines p.0 ≡ line → t ≡ line.form.constant *ℤ p.1 → s +ℤ (total lines (p ∷ ps)).constant ≡ whole → (s +ℤ t) +ℤ (total lines ps).constant ≡ whole
constant-step lines p ps line s t whole h e k =
    let here = ap (λ l. l.form.constant *ℤ p.1) h in
    omega (arith, ints, e, here, k)

-- the sum's coefficients, and that variables rise in it
pub coefficient-total : (v : ℕ) (lines : List Line) (p : ℕ × ℤ) (ps : Picks) → coefficient v (total lines (p ∷ ps)).entries ≡ coefficient v (line_at lines p.0).form.entries *ℤ p.1 +ℤ coefficient v (total lines ps).entries
coefficient-total v lines p ps =
    coefficient-joined v (scaled_entries p.1 (line_at lines p.0).form.entries) (total lines ps).entries
    ∙ ap (λ x. x +ℤ coefficient v (total lines ps).entries) (coefficient-scaled v p.1 (line_at lines p.0).form.entries)

pub kept-total : (lines : List Line) (p : ℕ × ℤ) (ps : Picks) → AreEntries (line_at lines p.0).form.entries → AreEntries (total lines ps).entries → AreEntries (total lines (p ∷ ps)).entries
kept-total lines p ps h k = AreEntries-joined _ _ (AreEntries-scaled _ _ h) k

pub coefficient-step : (v : ℕ) (lines : List Line) (p : ℕ × ℤ) (ps : Picks) (line : Line) (s t whole : ℤ) → line_at lines p.0 ≡ line → t ≡ s +ℤ coefficient v line.form.entries *ℤ p.1
    → s +ℤ coefficient v (total lines (p ∷ ps)).entries ≡ whole → t +ℤ coefficient v (total lines ps).entries ≡ whole
coefficient-step v lines p ps line s t whole h e k =
    let here = ap (λ l. coefficient v l.form.entries *ℤ p.1) h in
    omega (arith, ints, e, here, k, coefficient-total v lines p ps)

-- what agrees up to one variable, and further up to another, agrees up to the nearer one
both : (from v w : ℕ) (f g h : ℕ → ℤ) (b : Bool) → nat_lt w v ≡ b → AgreeUpTo from (Some v) f g → AgreeUpTo from (Some w) g h → AgreeUpTo from (if b then Some w else Some v) f h
both from v w f g h true e x y = (y.0, λ u a b. let k : u < v = grind (arith, nat_tests) in x.1 u a k ∙ y.1 u a b)
both from v w f g h false e x y = (x.0, λ u a b. let k : u < w = grind (arith, nat_tests) in x.1 u a b ∙ y.1 u a k)

pub agree-nearer : (from : ℕ) (a b : Option ℕ) (f g h : ℕ → ℤ) → AgreeUpTo from a f g → AgreeUpTo from b g h → AgreeUpTo from (nearer a b) f h
agree-nearer from None None f g h x y = λ u l. x u l ∙ y u l
agree-nearer from None (Some w) f g h x y = (y.0, λ u l k. x u l ∙ y.1 u l k)
agree-nearer from (Some v) None f g h x y = (x.0, λ u l k. x.1 u l k ∙ y u l)
agree-nearer from (Some v) (Some w) f g h x y = both from v w f g h (nat_lt w v) refl x y

bound_by : (b : Bool) (v w n : ℕ) → v < n → w < n → IfSome (if b then Some w else Some v) (λ u. u < n)
bound_by true v w n h k = k
bound_by false v w n h k = h

pub bound-nearer : (n : ℕ) (a b : Option ℕ) → IfSome a (λ u. u < n) → IfSome b (λ u. u < n) → IfSome (nearer a b) (λ u. u < n)
bound-nearer n None b h k = k
bound-nearer n (Some v) None h k = h
bound-nearer n (Some v) (Some w) h k = bound_by (nat_lt w v) v w n h k

lacks : (v : ℕ) (lines : List Line) (p : ℕ × ℤ) (ps : Picks) → coefficient v (line_at lines p.0).form.entries ≡ pos 0 → coefficient v (total lines (p ∷ ps)).entries ≡ coefficient v (total lines ps).entries
lacks v lines p ps e = coefficient-total v lines p ps ∙ ap (λ x. x *ℤ p.1 +ℤ coefficient v (total lines ps).entries) e ∙ omega (arith, ints, zero-*ℤ p.1)

-- a line that lacks the variables adds nothing to their coefficients
pub agree-step : (from : ℕ) (next : Option ℕ) (lines : List Line) (p : ℕ × ℤ) (ps : Picks) → AgreeUpTo from next (λ v. coefficient v (line_at lines p.0).form.entries) (λ v. pos 0)
    → AgreeUpTo from next (λ v. coefficient v (total lines (p ∷ ps)).entries) (λ v. coefficient v (total lines ps).entries)
agree-step from None lines p ps h = λ v k. lacks v lines p ps (h v k)
agree-step from (Some n) lines p ps h = (h.0, λ v k l. lacks v lines p ps (h.1 v k l))

elsewhere : (base : ℕ) (f : ℕ → ℤ) (v : ℕ) → ((u : ℕ) → 0 ≤ u → u < base → f u ≡ pos 0) → ((j : ℕ) → j < 64 → f (base + j) ≡ pos 0) → (base + 64 ≤ v → f v ≡ pos 0) → f v ≡ pos 0
elsewhere base f v h k l =
    elim (cases_lt v base) [
      | inl less ↦ h v (omega arith) less
      | inr more ↦ elim (cases_lt v (base + 64)) [
        | inl within ↦ let e : base + (v - base) ≡ v = omega arith in subst (λ (u : ℕ). f u ≡ pos 0) e (k (v - base) (omega arith))
        | inr behind ↦ l behind
      ]
    ]

-- a function of variables that is 0 before a window, in it, and behind it
pub clear-on : (base : ℕ) (next : Option ℕ) (f : ℕ → ℤ) → IsClear 0 (Some base) f → ((j : ℕ) → j < 64 → f (base + j) ≡ pos 0) → IsClear (base + 64) next f → IsClear 0 next f
clear-on base None f h k l = λ v z. elsewhere base f v h.1 k (l v)
clear-on base (Some n) f h k l = (omega arith, λ v z w. elsewhere base f v h.1 k (λ a. l.1 v a w))
