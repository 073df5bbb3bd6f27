-- The value behind a change less the value before it, by the rows of the change.
use Rattle.std.proofs.Common.{◌≡◌, ℕ, zero, suc, ◌+◌, ◌<◌, ◌≤◌, true, false, Option, Some, None, List, [], ◌∷◌, ◌++◌, inl, inr, refl, ap, ◌∙◌, sym, subst, arith, ℤ, pos, neg_ℤ, ◌+ℤ◌, ◌*ℤ◌}
use Rattle.std.specs.Prelude.{◌==◌, if◌then◌else◌}
use Rattle.std.proofs.lemmas.Int.{ints}
use Rattle.std.proofs.lemmas.Bool.{cases_eq}
use Rattle.std.proofs.lemmas.Bool.Decides.{nat_tests}
use Rattle.std.proofs.Math.IntN.{zero-*ℤ, *ℤ_comm}
use Rattle.st_linear.specs.Linear.{Linear, AreEntries, AllBelow, entries_value, form_for, value_or, changed, with_entry}
use Rattle.st_linear.proofs.Ints.{+ℤ-*ℤ, *ℤ-+ℤ, *ℤ_assoc, neg_ℤ-*ℤ}
use Rattle.st_linear.proofs.Joined.{value-with_entry}
use Rattle.st_form.specs.Exchange.{Exchange}
use Rattle.elimination_laws.specs.Mixing.{part}
use Rattle.elimination_laws.proofs.Heights.{delta}
use Rattle.null_laws.specs.Bases.{Vector}
use Rattle.basic_laws.proofs.Integers.{times_one}
use Rattle.transition_system.specs.Bounds.{RisesFrom}
use Rattle.equation_laws.specs.Sums.{total, passage, moved_value}
use Rattle.equation_laws.specs.Rows.{gain, over_changed, over_places, variable_row, constant_row}
use Rattle.equation_laws.proofs.Totals.{total-same, total-sum, total-zero, total-times, total-swap, value-append, total-one, parts-total}

-- the new forms are over the first n variables
abbrev pub AreWithin : ℕ → List (ℕ × Linear) → Type 0
AreWithin n [] = Unit {0}
AreWithin n (p ∷ ps) = (p.0 < n) × AreEntries p.1.entries × AllBelow n p.1.entries × AreWithin n ps

abbrev pub of_form : (Linear → ℤ) → Option Linear → ℤ
of_form g None = pos 0
of_form g (Some f) = g f

form-within : (n v : ℕ) (ps : List (ℕ × Linear)) (f : Linear) → AreWithin n ps → form_for v ps ≡ Some f → AreEntries f.entries × AllBelow n f.entries
form-within n v [] f h e = absurd (cc)
form-within n v (p ∷ ps) f h e =
    elim (cases_eq p.0 v) [
      | inl same ↦
          let t : (p.0 == v) ≡ true = grind (arith, nat_tests) in
          let i = rw t at e in
          let s : p.1 ≡ f = cc in
          subst (λ (f : Linear). AreEntries f.entries × AllBelow n f.entries) s (h.1, h.2)
      | inr other ↦ let t : (p.0 == v) ≡ false = grind (arith, nat_tests) in form-within n v ps f h.3 (rw t at e)
    ]

-- the new value of one variable less its old one
new_value : (s : Vector) (n v : ℕ) (o : Option Linear) → v < n → ((f : Linear) → o ≡ Some f → AreEntries f.entries × AllBelow n f.entries) → value_or (s v) s o +ℤ neg_ℤ (s v) ≡ total (λ u. of_form (gain u v) o *ℤ s u) n 0 +ℤ of_form (λ f. f.constant) o
new_value s n v None l h = omega (arith, ints, total-same (λ u. pos 0 *ℤ s u) (λ u. pos 0) n 0 (λ c i j. zero-*ℤ (s c)), total-zero n 0)
new_value s n v (Some f) l h =
    let a = h f refl in
    let e : total (λ u. (part u f.entries +ℤ neg_ℤ (delta v u)) *ℤ s u) n 0 ≡ entries_value s f.entries +ℤ neg_ℤ (s v) =
    total-same (λ u. (part u f.entries +ℤ neg_ℤ (delta v u)) *ℤ s u) (λ u. part u f.entries *ℤ s u +ℤ (delta v u *ℤ s u) *ℤ neg_ℤ (pos 1)) n 0
    (λ u i j. omega (arith, ints, +ℤ-*ℤ (part u f.entries) (neg_ℤ (delta v u)) (s u), neg_ℤ-*ℤ (delta v u) (s u), *ℤ_comm (delta v u *ℤ s u) (neg_ℤ (pos 1)), neg_ℤ-*ℤ (pos 1) (delta v u *ℤ s u), *ℤ_comm (pos 1) (delta v u *ℤ s u), times_one (delta v u *ℤ s u)))
    ∙ total-sum (λ u. part u f.entries *ℤ s u) (λ u. (delta v u *ℤ s u) *ℤ neg_ℤ (pos 1)) n 0
    ∙ omega (arith, ints, parts-total s n f.entries a.0 a.1, total-times (λ u. delta v u *ℤ s u) (neg_ℤ (pos 1)) n 0, ap (λ z. z *ℤ neg_ℤ (pos 1)) (total-one s v n 0 (omega arith) (omega arith)), *ℤ_comm (s v) (neg_ℤ (pos 1)), neg_ℤ-*ℤ (pos 1) (s v), *ℤ_comm (pos 1) (s v), times_one (s v)) in
    omega (arith, ints, e)

-- a double sum in the other order
swapped : (n : ℕ) (g : ℕ → ℕ → ℤ) (x y : Vector) → total (λ v. total (λ u. g u v *ℤ y u) n 0 *ℤ x v) n 0 ≡ total (λ u. total (λ v. g u v *ℤ x v) n 0 *ℤ y u) n 0
swapped n g x y =
    total-same (λ v. total (λ u. g u v *ℤ y u) n 0 *ℤ x v) (λ v. total (λ u. (g u v *ℤ x v) *ℤ y u) n 0) n 0
    (λ v i j.
    sym (total-times (λ u. g u v *ℤ y u) (x v) n 0)
    ∙ total-same (λ u. (g u v *ℤ y u) *ℤ x v) (λ u. (g u v *ℤ x v) *ℤ y u) n 0 (λ u a b. exchanged (g u v) (y u) (x v)))
    ∙ total-swap (λ v u. (g u v *ℤ x v) *ℤ y u) n 0 n 0
    ∙ total-same (λ u. total (λ v. (g u v *ℤ x v) *ℤ y u) n 0) (λ u. total (λ v. g u v *ℤ x v) n 0 *ℤ y u) n 0
    (λ u i j. total-times (λ v. g u v *ℤ x v) (y u) n 0)
  where
    exchanged : (a b c : ℤ) → (a *ℤ b) *ℤ c ≡ (a *ℤ c) *ℤ b
    exchanged a b c = *ℤ_assoc a b c ∙ ap (λ z. a *ℤ z) (*ℤ_comm b c) ∙ sym (*ℤ_assoc a c b)

-- entries for changed variables, as a sum over all variables
none-before : (v low : ℕ) (ps : List (ℕ × Linear)) → v < low → RisesFrom low ps → form_for v ps ≡ None
none-before v low [] l h = refl
none-before v low (p ∷ ps) l h =
    let k : low ≤ p.0 = h.0 in
    let t : (p.0 == v) ≡ false = grind (arith, nat_tests) in
    rw t (none-before v (suc p.0) ps (omega arith) h.1)

pub over_changed-total : (g : ℕ → Linear → ℤ) (x : Vector) (ps : List (ℕ × Linear)) (m n k : ℕ) → k + n ≡ m → RisesFrom k ps → AreWithin m ps → total (λ v. of_form (g v) (form_for v ps) *ℤ x v) n k ≡ entries_value x (over_changed g ps)
over_changed-total g x [] m n k e r w = total-same (λ v. pos 0 *ℤ x v) (λ v. pos 0) n k (λ c i j. zero-*ℤ (x c)) ∙ total-zero n k
over_changed-total g x (p ∷ ps) m zero k e r w = let a : p.0 < m = w.0 in let b : k ≤ p.0 = r.0 in absurd (omega arith)
over_changed-total g x (p ∷ ps) m (suc n) k e r w =
    elim (cases_eq p.0 k) [
      | inl same ↦
          let t : (p.0 == k) ≡ true = grind (arith, nat_tests) in
          let rest = total-same (λ v. of_form (g v) (form_for v (p ∷ ps)) *ℤ x v) (λ v. of_form (g v) (form_for v ps) *ℤ x v) n (k + 1)
          (λ c i j. let f : (p.0 == c) ≡ false = grind (arith, nat_tests) in rw f refl) in
          let next : RisesFrom (k + 1) ps = subst (λ (j : ℕ). RisesFrom j ps) (omega arith) r.1 in
          rw t
          (ap (λ z. g k p.1 *ℤ x k +ℤ z) (rest ∙ over_changed-total g x ps m n (k + 1) (omega arith) next w.3)
          ∙ ap (λ (j : ℕ). g j p.1 *ℤ x j +ℤ entries_value x (over_changed g ps)) (sym same)
          ∙ sym (value-with_entry x p.0 (g p.0 p.1) (over_changed g ps)))
      | inr other ↦
          let b : k ≤ p.0 = r.0 in
          let t : (p.0 == k) ≡ false = grind (arith, nat_tests) in
          let s : form_for k ps ≡ None = none-before k (suc p.0) ps (omega arith) r.1 in
          rw (t, s) (omega (arith, ints, zero-*ℤ (x k), over_changed-total g x (p ∷ ps) m n (k + 1) (omega arith) (omega arith, r.1) w))
    ]

pub over_places-total : (x : Vector) (n : ℕ) (g : ℕ → ℤ) (m l : ℕ) → entries_value x (over_places n g m l) ≡ total (λ l. g l *ℤ x (n + l)) m l
over_places-total x n g zero l = refl
over_places-total x n g (suc m) l = value-with_entry x (n + l) (g l) (over_places n g m (l + 1)) ∙ ap (λ z. g l *ℤ x (n + l) +ℤ z) (over_places-total x n g m (l + 1))

variables-moved : (n : ℕ) (ps : List (ℕ × Linear)) (x y : Vector) → AreWithin n ps → RisesFrom 0 ps
    → total (λ v. x v *ℤ (changed y ps v +ℤ neg_ℤ (y v))) n 0
    ≡ total (λ u. entries_value x (over_changed (gain u) ps) *ℤ y u) n 0 +ℤ entries_value x (over_changed (λ v f. f.constant) ps)
variables-moved n ps x y w r =
    let t : ℕ → ℤ = λ v. total (λ u. of_form (gain u v) (form_for v ps) *ℤ y u) n 0 in
    let c : ℕ → ℤ = λ v. of_form (λ f. f.constant) (form_for v ps) in
    total-same (λ v. x v *ℤ (changed y ps v +ℤ neg_ℤ (y v))) (λ v. t v *ℤ x v +ℤ c v *ℤ x v) n 0
    (λ v i j.
    ap (λ z. x v *ℤ z) (new_value y n v (form_for v ps) (omega arith) (λ f q. form-within n v ps f w q))
    ∙ *ℤ-+ℤ (t v) (c v) (x v)
    ∙ ap (λ z. z +ℤ x v *ℤ c v) (*ℤ_comm (x v) (t v))
    ∙ ap (λ z. t v *ℤ x v +ℤ z) (*ℤ_comm (x v) (c v)))
    ∙ total-sum (λ v. t v *ℤ x v) (λ v. c v *ℤ x v) n 0
    ∙ ap (λ z. z +ℤ total (λ v. c v *ℤ x v) n 0)
    (swapped n (λ u v. of_form (gain u v) (form_for v ps)) x y
    ∙ total-same (λ u. total (λ v. of_form (gain u v) (form_for v ps) *ℤ x v) n 0 *ℤ y u) (λ u. entries_value x (over_changed (gain u) ps) *ℤ y u) n 0
    (λ u i j. ap (λ z. z *ℤ y u) (over_changed-total (gain u) x ps n n 0 (omega arith) r w)))
    ∙ ap (λ z. total (λ u. entries_value x (over_changed (gain u) ps) *ℤ y u) n 0 +ℤ z) (over_changed-total (λ v f. f.constant) x ps n n 0 (omega arith) r w)

pub moved-rows : (n locations : ℕ) (change : Exchange) (x y : Vector) → AreWithin n change.numbers → RisesFrom 0 change.numbers
    → moved_value n locations x change y ≡ total (λ u. entries_value x (variable_row change u) *ℤ y u) n 0 +ℤ entries_value x (constant_row n locations change)
moved-rows n locations change x y w r =
    let places = total-same (λ l. x (n + l) *ℤ passage change l) (λ l. passage change l *ℤ x (n + l)) locations 0 (λ l i j. *ℤ_comm (x (n + l)) (passage change l)) in
    omega (
      arith,
      ints,
      variables-moved n change.numbers x y w r,
      places,
      over_places-total x n (passage change) locations 0,
      value-append x (over_changed (λ v f. f.constant) change.numbers) (over_places n (passage change) locations 0),
    )
