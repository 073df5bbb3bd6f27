-- The value at the start, by the rows of the start.
use Rattle.std.proofs.Common.{◌≡◌, ℕ, zero, suc, ◌+◌, ◌<◌, ◌≤◌, true, false, List, [], ◌∷◌, ◌++◌, refl, ap, ◌∙◌, sym, arith, ℤ, pos, neg_ℤ, ◌+ℤ◌, ◌*ℤ◌}
use Rattle.std.proofs.lemmas.Int.{ints}
use Rattle.std.proofs.Math.IntN.{zero-*ℤ, *ℤ_comm}
use Rattle.st_linear.specs.Linear.{Linear, AreEntries, AllBelow, entries_value, value}
use Rattle.st_linear.proofs.Ints.{+ℤ-*ℤ, *ℤ_assoc, neg_ℤ-*ℤ}
use Rattle.st_linear.proofs.Joined.{value-with_entry}
use Rattle.st_form.specs.Exchange.{is_listed}
use Rattle.elimination_laws.specs.Mixing.{part}
use Rattle.null_laws.specs.Bases.{Vector}
use Rattle.basic_laws.proofs.Integers.{times_one}
use Rattle.equation_laws.specs.Sums.{total, presence, first_value}
use Rattle.equation_laws.specs.Space.{combination}
use Rattle.equation_laws.specs.Rows.{over_places, over_forms, first_variable_row, first_constant_row}
use Rattle.equation_laws.proofs.Totals.{total-same, total-sum, total-zero, total-times, value-append, parts-total}
use Rattle.equation_laws.proofs.Changing.{over_places-total}

-- forms over the first n variables
abbrev pub AreForms : ℕ → List Linear → Type 0
AreForms n [] = Unit {0}
AreForms n (f ∷ fs) = AreEntries f.entries × AllBelow n f.entries × AreForms n fs

-- what something of each form comes to, times the number in its column
abbrev spread : (Linear → ℤ) → Vector → ℕ → List Linear → ℤ
spread g y k [] = pos 0
spread g y k (f ∷ fs) = g f *ℤ y k +ℤ spread g y (k + 1) fs

over_forms-spread : (g : Linear → ℤ) (y : Vector) (k : ℕ) (fs : List Linear) → entries_value y (over_forms g k fs) ≡ neg_ℤ (spread g y k fs)
over_forms-spread g y k [] = refl
over_forms-spread g y k (f ∷ fs) =
    omega (arith, ints, value-with_entry y k (neg_ℤ (g f)) (over_forms g (k + 1) fs), neg_ℤ-*ℤ (g f) (y k), over_forms-spread g y (k + 1) fs)

-- of all variables together
spread-total : (n : ℕ) (y store : Vector) (k : ℕ) (fs : List Linear) → AreForms n fs → total (λ u. spread (λ f. part u f.entries) y k fs *ℤ store u) n 0 ≡ spread (λ f. entries_value store f.entries) y k fs
spread-total n y store k [] h = total-same (λ u. pos 0 *ℤ store u) (λ u. pos 0) n 0 (λ u i j. zero-*ℤ (store u)) ∙ total-zero n 0
spread-total n y store k (f ∷ fs) h =
    total-same (λ u. (part u f.entries *ℤ y k +ℤ spread (λ f. part u f.entries) y (k + 1) fs) *ℤ store u) (λ u. (part u f.entries *ℤ store u) *ℤ y k +ℤ spread (λ f. part u f.entries) y (k + 1) fs *ℤ store u) n 0
    (λ u i j. +ℤ-*ℤ (part u f.entries *ℤ y k) (spread (λ f. part u f.entries) y (k + 1) fs) (store u) ∙ ap (λ z. z +ℤ spread (λ f. part u f.entries) y (k + 1) fs *ℤ store u) (turned (part u f.entries) (y k) (store u)))
    ∙ total-sum (λ u. (part u f.entries *ℤ store u) *ℤ y k) (λ u. spread (λ f. part u f.entries) y (k + 1) fs *ℤ store u) n 0
    ∙ omega (arith, ints, total-times (λ u. part u f.entries *ℤ store u) (y k) n 0, ap (λ z. z *ℤ y k) (parts-total store n f.entries h.0 h.1), spread-total n y store (k + 1) fs h.2)
  where
    turned : (a b c : ℤ) → (a *ℤ b) *ℤ c ≡ (a *ℤ c) *ℤ b
    turned a b c = *ℤ_assoc a b c ∙ ap (λ z. a *ℤ z) (*ℤ_comm b c) ∙ sym (*ℤ_assoc a c b)

-- constants and entries make the forms' values
spread-value : (y store factors : Vector) (k j : ℕ) (fs : List Linear) → ((i : ℕ) → y (k + i) ≡ factors (j + i)) → combination factors j fs store ≡ spread (λ f. entries_value store f.entries) y k fs +ℤ spread (λ f. f.constant) y k fs
spread-value y store factors k j [] h = refl
spread-value y store factors k j (f ∷ fs) h =
    let here : y k ≡ factors j = ap y (omega arith) ∙ h 0 ∙ ap factors (omega arith) in
    let next : (i : ℕ) → y ((k + 1) + i) ≡ factors ((j + 1) + i) = λ i. ap y (omega arith) ∙ h (1 + i) ∙ ap factors (omega arith) in
    omega (
      arith,
      ints,
      ap (λ z. value store f *ℤ z) (sym here),
      +ℤ-*ℤ f.constant (entries_value store f.entries) (y k),
      spread-value y store factors (k + 1) (j + 1) fs next,
    )

pub first-rows : (n locations : ℕ) (firsts : List ℕ) (forms : List Linear) (y store factors : Vector) → AreForms n forms → ((i : ℕ) → y (n + locations + 1 + i) ≡ factors i)
    → first_value n locations firsts y store
    ≡ (total (λ u. entries_value y (first_variable_row (n + locations + 1) forms u) *ℤ store u) n 0 +ℤ entries_value y (first_constant_row n locations firsts forms)) +ℤ combination factors 0 forms store
first-rows n locations firsts forms y store factors w h =
    let k : ℕ = n + locations + 1 in
    let s : ℕ → ℤ = λ u. spread (λ f. part u f.entries) y k forms in
    let places : ℕ → ℤ = λ l. presence (is_listed l firsts) in
    let rows : total (λ u. entries_value y (first_variable_row k forms u) *ℤ store u) n 0 ≡ total (λ u. y u *ℤ store u) n 0 +ℤ total (λ u. s u *ℤ store u) n 0 *ℤ neg_ℤ (pos 1) =
    total-same (λ u. entries_value y (first_variable_row k forms u) *ℤ store u) (λ u. y u *ℤ store u +ℤ (s u *ℤ store u) *ℤ neg_ℤ (pos 1)) n 0 (λ u i j. one_row (y u) (s u) (entries_value y (over_forms (λ f. part u f.entries) k forms)) (store u) (over_forms-spread (λ f. part u f.entries) y k forms))
    ∙ total-sum (λ u. y u *ℤ store u) (λ u. (s u *ℤ store u) *ℤ neg_ℤ (pos 1)) n 0
    ∙ ap (λ z. total (λ u. y u *ℤ store u) n 0 +ℤ z) (total-times (λ u. s u *ℤ store u) (neg_ℤ (pos 1)) n 0) in
    let turned = less_one (total (λ u. s u *ℤ store u) n 0) in
    let located = total-same (λ l. y (n + l) *ℤ places l) (λ l. places l *ℤ y (n + l)) locations 0 (λ l i j. *ℤ_comm (y (n + l)) (places l)) in
    let one = times_one (y (n + locations)) in
    let flip = *ℤ_comm (pos 1) (y (n + locations)) in
    omega (
      arith,
      ints,
      rows,
      turned,
      located,
      one,
      flip,
      over_places-total y n places locations 0,
      value-append y (over_places n places locations 0) ((n + locations, pos 1) ∷ over_forms (λ f. f.constant) k forms),
      over_forms-spread (λ f. f.constant) y k forms,
      spread-total n y store k forms w,
      spread-value y store factors k 0 forms (λ i. h i ∙ ap factors (omega arith)),
    )
  where
    less_one : (a : ℤ) → a *ℤ neg_ℤ (pos 1) ≡ neg_ℤ a
    less_one a = omega (arith, ints, *ℤ_comm a (neg_ℤ (pos 1)), neg_ℤ-*ℤ (pos 1) a, *ℤ_comm (pos 1) a, times_one a)

    one_row : (a b e c : ℤ) → e ≡ neg_ℤ b → (pos 1 *ℤ a +ℤ e) *ℤ c ≡ a *ℤ c +ℤ (b *ℤ c) *ℤ neg_ℤ (pos 1)
    one_row a b e c h =
        let one : pos 1 *ℤ a ≡ a = *ℤ_comm (pos 1) a ∙ times_one a in
        +ℤ-*ℤ (pos 1 *ℤ a) e c
        ∙ ap (λ z. z *ℤ c +ℤ e *ℤ c) one
        ∙ ap (λ z. a *ℤ c +ℤ z) (ap (λ z. z *ℤ c) h ∙ neg_ℤ-*ℤ b c ∙ sym (less_one (b *ℤ c)))
