-- How a point is moved along a variable until bounds hold.
use Rattle.std.proofs.Common.{◌≡◌, ℕ, List, [], ◌∷◌, ap, ◌∙◌, arith, ◌⊎◌, inl, inr, ℤ, pos, negsuc, neg_ℤ, ◌*ℤ◌, ◌≤ℤ◌, ◌<ℤ◌}
use Rattle.std.proofs.lemmas.Int.{ints}
use Rattle.std.proofs.Math.IntN.{*ℤ_comm}
use Rattle.st_linear.proofs.Ints.{neg_ℤ-*ℤ}
use Rattle.st_linear.specs.Linear.{Linear}
use Rattle.elimination_laws.specs.Mixing.{Tracked}
use Rattle.elimination_laws.proofs.Heights.{Store, height, moved, slope, height-moved, above_times, least_times}
use Rattle.elimination_laws.proofs.Lists.{AllT}

-- what holds at points
abbrev pub Facts : Type 1
Facts = ℤ → Store → Type 0

-- what stays as the point moves along v
abbrev pub Stable : ℕ → (ℤ → Store → Type 0) → Type 0
Stable v F = (d k w : ℤ) (s : Store) → pos 0 <ℤ k → F d s → F (d *ℤ k) (moved k v w s)

pub record Point (F : ℤ → Store → Type 0) : Type 0 where
  pub d : ℤ
  pub s : Store
  pub positive : pos 0 <ℤ d
  pub holds : F d s

abbrev pub Least : ℤ → Store → Tracked → Type 0
Least d s t = pos 0 ≤ℤ height d s t.form

by_sign : (z : ℤ) → (pos 0 ≤ℤ z) ⊎ (z <ℤ pos 0)
by_sign (pos n) = inl (omega (arith, ints))
by_sign (negsuc n) = inr (omega (arith, ints))

times_neg : (c z : ℤ) → c *ℤ neg_ℤ z ≡ neg_ℤ (c *ℤ z)
times_neg c z = *ℤ_comm c (neg_ℤ z) ∙ neg_ℤ-*ℤ z c ∙ ap neg_ℤ (*ℤ_comm z c)

-- a lower bound that is made tight, and others that held and hold still
pub tight : (d : ℤ) (s : Store) (v : ℕ) (f : Linear) → height (d *ℤ slope v f) (moved (slope v f) v (neg_ℤ (height d s f)) s) f ≡ pos 0
tight d s v f = omega (arith, ints, height-moved d (slope v f) v (neg_ℤ (height d s f)) s f, times_neg (slope v f) (height d s f), *ℤ_comm (slope v f) (height d s f))

rises : (d : ℤ) (s : Store) (v : ℕ) (f g : Linear) → pos 0 <ℤ slope v f → pos 0 <ℤ slope v g → height d s f <ℤ pos 0 → pos 0 ≤ℤ height d s g → pos 0 ≤ℤ height (d *ℤ slope v f) (moved (slope v f) v (neg_ℤ (height d s f)) s) g
rises d s v f g a b h k =
    let i = least_times (height d s g) (slope v f) k (omega (arith, ints)) in
    let j = least_times (slope v g) (neg_ℤ (height d s f)) (omega (arith, ints)) (omega (arith, ints)) in
    omega (arith, ints, height-moved d (slope v f) v (neg_ℤ (height d s f)) s g, i, j)

-- the same from above
pub tight_above : (d : ℤ) (s : Store) (v : ℕ) (f : Linear) → height (d *ℤ neg_ℤ (slope v f)) (moved (neg_ℤ (slope v f)) v (height d s f) s) f ≡ pos 0
tight_above d s v f = omega (arith, ints, height-moved d (neg_ℤ (slope v f)) v (height d s f) s f, times_neg (height d s f) (slope v f), *ℤ_comm (slope v f) (height d s f))

falls : (d : ℤ) (s : Store) (v : ℕ) (f g : Linear) → slope v f <ℤ pos 0 → slope v g <ℤ pos 0 → height d s f <ℤ pos 0 → pos 0 ≤ℤ height d s g → pos 0 ≤ℤ height (d *ℤ neg_ℤ (slope v f)) (moved (neg_ℤ (slope v f)) v (height d s f) s) g
falls d s v f g a b h k =
    let i = least_times (height d s g) (neg_ℤ (slope v f)) k (omega (arith, ints)) in
    let j = least_times (neg_ℤ (slope v g)) (neg_ℤ (height d s f)) (omega (arith, ints)) (omega (arith, ints)) in
    let e = neg_ℤ-*ℤ (slope v g) (neg_ℤ (height d s f)) in
    let q = times_neg (slope v g) (height d s f) in
    omega (arith, ints, height-moved d (neg_ℤ (slope v f)) v (height d s f) s g, i, j, e, q)

abbrev pub Up : ℕ → Tracked → Type 0
Up v t = pos 0 <ℤ slope v t.form

abbrev pub Down : ℕ → Tracked → Type 0
Down v t = slope v t.form <ℤ pos 0

rise_all : (d : ℤ) (s : Store) (v : ℕ) (f : Linear) → pos 0 <ℤ slope v f → height d s f <ℤ pos 0 → (ts : List Tracked) → AllT (Up v) ts → AllT (Least d s) ts → AllT (Least (d *ℤ slope v f) (moved (slope v f) v (neg_ℤ (height d s f)) s)) ts
rise_all d s v f a h [] u k = tt
rise_all d s v f a h (t ∷ ts) u k = (rises d s v f t.form a u.0 h k.0, rise_all d s v f a h ts u.1 k.1)

fall_all : (d : ℤ) (s : Store) (v : ℕ) (f : Linear) → slope v f <ℤ pos 0 → height d s f <ℤ pos 0 → (ts : List Tracked) → AllT (Down v) ts → AllT (Least d s) ts → AllT (Least (d *ℤ neg_ℤ (slope v f)) (moved (neg_ℤ (slope v f)) v (height d s f) s)) ts
fall_all d s v f a h [] u k = tt
fall_all d s v f a h (t ∷ ts) u k = (falls d s v f t.form a u.0 h k.0, fall_all d s v f a h ts u.1 k.1)

-- a point at which the upper bounds hold
abbrev pub Under : (ℤ → Store → Type 0) → List Tracked → ℤ → Store → Type 0
Under F ts d s = F d s × AllT (Least d s) ts

under-more : (F : ℤ → Store → Type 0) (v : ℕ) → Stable v F → (t : Tracked) (ts : List Tracked) → Down v t → AllT (Down v) ts → Point (Under F ts) → Point (Under F (t ∷ ts))
under-more F v stable t ts a u p =
    elim (by_sign (height p.d p.s t.form)) [
      | inl least ↦ record { d = p.d; s = p.s; positive = p.positive; holds = (p.holds.0, (least, p.holds.1)) }
      | inr less ↦ record {
        d = p.d *ℤ neg_ℤ (slope v t.form);
        s = moved (neg_ℤ (slope v t.form)) v (height p.d p.s t.form) p.s;
        positive = above_times p.d (neg_ℤ (slope v t.form)) p.positive (omega (arith, ints));
        holds = (
          stable p.d (neg_ℤ (slope v t.form)) (height p.d p.s t.form) p.s (omega (arith, ints)) p.holds.0,
          (omega (arith, ints, tight_above p.d p.s v t.form), fall_all p.d p.s v t.form a less ts u p.holds.1),
        );
      }
    ]

pub under : (F : ℤ → Store → Type 0) (v : ℕ) → Stable v F → (ts : List Tracked) → AllT (Down v) ts → Point F → Point (Under F ts)
under F v stable [] u p = record { d = p.d; s = p.s; positive = p.positive; holds = (p.holds, tt) }
under F v stable (t ∷ ts) u p = under-more F v stable t ts u.0 u.1 (under F v stable ts u.1 p)

-- a point at which the lower bounds hold, and one of them, which is a G, has the value 0
abbrev pub Tight : (Tracked → Type 0) → ℤ → Store → Type 0
Tight G d s = (t : Tracked) × G t × (height d s t.form ≡ pos 0)

abbrev pub Over : (ℤ → Store → Type 0) → (Tracked → Type 0) → List Tracked → ℤ → Store → Type 0
Over F G ts d s = F d s × AllT (Least d s) ts × Tight G d s

over-one : (F : ℤ → Store → Type 0) (G : Tracked → Type 0) (v : ℕ) → Stable v F → (t : Tracked) → Up v t → G t → Point F → Point (Over F G (t ∷ []))
over-one F G v stable t a g p = record {
  d = p.d *ℤ slope v t.form;
  s = moved (slope v t.form) v (neg_ℤ (height p.d p.s t.form)) p.s;
  positive = above_times p.d (slope v t.form) p.positive a;
  holds = (
    stable p.d (slope v t.form) (neg_ℤ (height p.d p.s t.form)) p.s a p.holds,
    (omega (arith, ints, tight p.d p.s v t.form), tt),
    (t, g, tight p.d p.s v t.form),
  );
}

over-more : (F : ℤ → Store → Type 0) (G : Tracked → Type 0) (v : ℕ) → Stable v F → (t : Tracked) (ts : List Tracked) → Up v t → G t → AllT (Up v) ts → Point (Over F G ts) → Point (Over F G (t ∷ ts))
over-more F G v stable t ts a g u p =
    elim (by_sign (height p.d p.s t.form)) [
      | inl least ↦ record { d = p.d; s = p.s; positive = p.positive; holds = (p.holds.0, (least, p.holds.1), p.holds.2) }
      | inr less ↦ record {
        d = p.d *ℤ slope v t.form;
        s = moved (slope v t.form) v (neg_ℤ (height p.d p.s t.form)) p.s;
        positive = above_times p.d (slope v t.form) p.positive a;
        holds = (
          stable p.d (slope v t.form) (neg_ℤ (height p.d p.s t.form)) p.s a p.holds.0,
          (omega (arith, ints, tight p.d p.s v t.form), rise_all p.d p.s v t.form a less ts u p.holds.1),
          (t, g, tight p.d p.s v t.form),
        );
      }
    ]

pub over : (F : ℤ → Store → Type 0) (G : Tracked → Type 0) (v : ℕ) → Stable v F → (t : Tracked) (ts : List Tracked) → AllT (Up v) (t ∷ ts) → AllT G (t ∷ ts) → Point F → Point (Over F G (t ∷ ts))
over F G v stable t [] u g p = over-one F G v stable t u.0 g.0 p
over F G v stable t (x ∷ xs) u g p = over-more F G v stable t (x ∷ xs) u.0 g.0 u.1 (over F G v stable x xs u.1 g.1 p)
