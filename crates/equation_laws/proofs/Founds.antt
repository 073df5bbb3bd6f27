-- The equations that are found: their coefficients, their values, and what they span.
use Rattle.std.proofs.Common.{◌≡◌, ◌≢◌, ℕ, zero, suc, ◌+◌, ◌-◌, ◌<◌, ◌≤◌, Bool, true, false, Some, List, [], ◌∷◌, map, inl, inr, refl, ap, ◌∙◌, sym, subst, arith, ℤ, pos, ◌+ℤ◌, ◌*ℤ◌}
use Rattle.std.specs.Prelude.{nat_lt, ◌==◌, if◌then◌else◌}
use Rattle.std.proofs.lemmas.Int.{ints}
use Rattle.std.proofs.lemmas.Bool.{cases_lt, cases_eq}
use Rattle.std.proofs.lemmas.Bool.Decides.{nat_tests}
use Rattle.std.proofs.Math.IntN.{zero-*ℤ}
use Rattle.st_linear.specs.Linear.{AreEntries, AllAbove, AllBelow}
use Rattle.st_form.specs.Formula.{Situation}
use Rattle.elimination_laws.specs.Mixing.{part}
use Rattle.null_laws.specs.Reduction.{Entries}
use Rattle.null_laws.specs.Bases.{Vector, AllMeet, IsEchelon, IsBasis, at_columns, first_column, combined}
use Rattle.null_laws.proofs.Rows.{part_before}
use Rattle.transition_system.specs.Systems.{System}
use Rattle.transition_system.specs.Bounds.{IsSystem}
use Rattle.equation_laws.specs.Sums.{total, presence, equation_value}
use Rattle.equation_laws.specs.Space.{IsInductive, variables_of, columns_of}
use Rattle.equation_laws.specs.Rows.{basis_of}
use Rattle.equation_laws.specs.Equations.{PlainEquation, worth, entries_below, entries_between, equation_of, with_variables, found_in, coefficient, sum_by, IsSpannedBy, AreInductive, AreFound}
use Rattle.equation_laws.proofs.Totals.{total-same, parts-total}
use Rattle.equation_laws.proofs.Closing.{inductive-plus, inductive-none, inductive-same}
use Rattle.equation_laws.proofs.Within.{the-basis}

-- a column before all entries
before-all : (c v : ℕ) (es : Entries) → AllAbove v es → c ≤ v → part c es ≡ pos 0
before-all c v es h l = part_before c v es h l

-- the entries of variables
part-below : (n c : ℕ) (es : Entries) → AreEntries es → c < n → part c (entries_below n es) ≡ part c es
part-below n c [] h l = refl
part-below n c (e ∷ es) h l =
    elim (cases_lt e.0 n) [
      | inl less ↦
          let t : nat_lt e.0 n ≡ true = grind (arith, nat_tests) in
          rw t (elim (cases_eq e.0 c) [
            | inl same ↦ let s : (e.0 == c) ≡ true = grind (arith, nat_tests) in rw s refl
            | inr other ↦ let s : (e.0 == c) ≡ false = grind (arith, nat_tests) in rw s (part-below n c es h.2 l)
          ])
      | inr more ↦
          let t : nat_lt e.0 n ≡ false = grind (arith, nat_tests) in
          let s : (e.0 == c) ≡ false = grind (arith, nat_tests) in
          rw (t, s) (sym (before-all c e.0 es h.0 (omega arith)))
    ]

below-above : (n v : ℕ) (es : Entries) → AllAbove v es → AllAbove v (entries_below n es)
below-above n v [] h = tt
below-above n v (e ∷ es) h =
    elim (cases_lt e.0 n) [
      | inl less ↦ let t : nat_lt e.0 n ≡ true = grind (arith, nat_tests) in rw t (h.0, below-above n v es h.1)
      | inr more ↦ let t : nat_lt e.0 n ≡ false = grind (arith, nat_tests) in rw t tt
    ]

pub below-entries : (n : ℕ) (es : Entries) → AreEntries es → AreEntries (entries_below n es)
below-entries n [] h = tt
below-entries n (e ∷ es) h =
    elim (cases_lt e.0 n) [
      | inl less ↦ let t : nat_lt e.0 n ≡ true = grind (arith, nat_tests) in rw t (below-above n e.0 es h.0, h.1, below-entries n es h.2)
      | inr more ↦ let t : nat_lt e.0 n ≡ false = grind (arith, nat_tests) in rw t tt
    ]

pub below-below : (n : ℕ) (es : Entries) → AllBelow n (entries_below n es)
below-below n [] = tt
below-below n (e ∷ es) =
    elim (cases_lt e.0 n) [
      | inl less ↦ let t : nat_lt e.0 n ≡ true = grind (arith, nat_tests) in rw t (less, below-below n es)
      | inr more ↦ let t : nat_lt e.0 n ≡ false = grind (arith, nat_tests) in rw t tt
    ]

-- the entries of locations: where an entry stands
record Stands (n locations : ℕ) (e : ℕ × ℤ) (es : Entries) : Type 0 where
  pub before : e.0 < n → entries_between n locations (e ∷ es) ≡ entries_between n locations es
  pub among : n ≤ e.0 → e.0 < n + locations → entries_between n locations (e ∷ es) ≡ (e.0 - n, e.1) ∷ entries_between n locations es
  pub behind : n + locations ≤ e.0 → entries_between n locations (e ∷ es) ≡ []

stands : (n locations : ℕ) (e : ℕ × ℤ) (es : Entries) → Stands n locations e es
stands n locations e es = record {
  before = λ l. (let t : nat_lt e.0 n ≡ true = grind (arith, nat_tests) in rw t refl);
  among = λ l k. (let t : nat_lt e.0 n ≡ false = grind (arith, nat_tests) in let s : nat_lt e.0 (n + locations) ≡ true = grind (arith, nat_tests) in rw (t, s) refl);
  behind = λ l. (let t : nat_lt e.0 n ≡ false = grind (arith, nat_tests) in let s : nat_lt e.0 (n + locations) ≡ false = grind (arith, nat_tests) in rw (t, s) refl);
}

-- by where an entry stands
by_place : (n locations : ℕ) (e : ℕ × ℤ) (es : Entries) (P : Entries → Type 0) → (e.0 < n → P (entries_between n locations es)) → (n ≤ e.0 → e.0 < n + locations → P ((e.0 - n, e.1) ∷ entries_between n locations es)) → (n + locations ≤ e.0 → P []) → P (entries_between n locations (e ∷ es))
by_place n locations e es P f g h =
    elim (cases_lt e.0 n) [
      | inl less ↦ subst P (sym ((stands n locations e es).before less)) (f less)
      | inr more ↦ elim (cases_lt e.0 (n + locations)) [
        | inl less ↦ subst P (sym ((stands n locations e es).among (omega arith) less)) (g (omega arith) less)
        | inr last ↦ subst P (sym ((stands n locations e es).behind (omega arith))) (h (omega arith))
      ]
    ]

between-above : (n locations v : ℕ) (es : Entries) → n ≤ v → AllAbove v es → AllAbove (v - n) (entries_between n locations es)
between-above n locations v [] l h = tt
between-above n locations v (e ∷ es) l h =
    let k : v < e.0 = h.0 in
    by_place n locations e es (λ xs. AllAbove (v - n) xs) (λ i. absurd (omega arith)) (λ i j. (omega arith, between-above n locations v es l h.1)) (λ i. tt)

pub between-entries : (n locations : ℕ) (es : Entries) → AreEntries es → AreEntries (entries_between n locations es)
between-entries n locations [] h = tt
between-entries n locations (e ∷ es) h =
    by_place n locations e es AreEntries (λ i. between-entries n locations es h.2) (λ i j. (between-above n locations e.0 es i h.0, h.1, between-entries n locations es h.2)) (λ i. tt)

pub between-below : (n locations : ℕ) (es : Entries) → AllBelow locations (entries_between n locations es)
between-below n locations [] = tt
between-below n locations (e ∷ es) =
    by_place n locations e es (AllBelow locations) (λ i. between-below n locations es) (λ i j. (omega arith, between-below n locations es)) (λ i. tt)

part-between : (n locations l : ℕ) (es : Entries) → AreEntries es → l < locations → part l (entries_between n locations es) ≡ part (n + l) es
part-between n locations l [] h k = refl
part-between n locations l (e ∷ es) h k =
    by_place n locations e es (λ xs. part l xs ≡ part (n + l) (e ∷ es))
    (λ i. (let s : (e.0 == n + l) ≡ false = grind (arith, nat_tests) in rw s (part-between n locations l es h.2 k)))
    (λ i j. elim (cases_eq e.0 (n + l)) [
      | inl same ↦ let s : (e.0 == n + l) ≡ true = grind (arith, nat_tests) in let t : (e.0 - n == l) ≡ true = grind (arith, nat_tests) in rw (s, t) refl
      | inr other ↦ let s : (e.0 == n + l) ≡ false = grind (arith, nat_tests) in let t : (e.0 - n == l) ≡ false = grind (arith, nat_tests) in rw (s, t) (part-between n locations l es h.2 k)
    ])
    (λ i. (let s : (e.0 == n + l) ≡ false = grind (arith, nat_tests) in rw s (sym (before-all (n + l) e.0 es h.0 (omega arith)))))

-- an equation has its vector's coefficients, and its value
pub coefficient-part : (n locations c : ℕ) (es : Entries) → AreEntries es → c < n + locations + 1 → coefficient n locations (equation_of n locations es) c ≡ part c es
coefficient-part n locations c es h l =
    elim (cases_lt c n) [
      | inl less ↦ let t : nat_lt c n ≡ true = grind (arith, nat_tests) in rw t (part-below n c es h less)
      | inr more ↦ elim (cases_lt c (n + locations)) [
        | inl less ↦
            let t : nat_lt c n ≡ false = grind (arith, nat_tests) in
            let s : nat_lt c (n + locations) ≡ true = grind (arith, nat_tests) in
            let e : n + (c - n) ≡ c = omega arith in
            rw (t, s) (part-between n locations (c - n) es h (omega arith) ∙ ap (λ k. part k es) e)
        | inr last ↦
            let t : nat_lt c n ≡ false = grind (arith, nat_tests) in
            let s : nat_lt c (n + locations) ≡ false = grind (arith, nat_tests) in
            let e : n + locations ≡ c = omega arith in
            rw (t, s) (ap (λ k. part k es) e)
      ]
    ]

pub worth-value : (n locations : ℕ) (es : Entries) (s : Situation) → AreEntries es → worth (equation_of n locations es) s ≡ equation_value n locations (at_columns es) s
worth-value n locations es s h =
    let a = sym (parts-total s.numbers n (entries_below n es) (below-entries n es h) (below-below n es))
    ∙ total-same (λ u. part u (entries_below n es) *ℤ s.numbers u) (λ u. part u es *ℤ s.numbers u) n 0 (λ c i j. ap (λ z. z *ℤ s.numbers c) (part-below n c es h (omega arith))) in
    let y : Vector = λ l. presence (s.located l) in
    let b = sym (parts-total y locations (entries_between n locations es) (between-entries n locations es h) (between-below n locations es))
    ∙ total-same (λ l. part l (entries_between n locations es) *ℤ y l) (λ l. part (n + l) es *ℤ y l) locations 0 (λ c i j. ap (λ z. z *ℤ y c) (part-between n locations c es h (omega arith))) in
    omega (arith, ints, a, b)

-- factors of the vectors that are found, and what the others come to
abbrev picked : ℕ → List ℤ → List Entries → List ℤ
picked n ks [] = []
picked n [] (b ∷ bs) = []
picked n (k ∷ ks) (b ∷ bs) = if nat_lt (first_column b) n then k ∷ picked n ks bs else picked n ks bs

abbrev others : ℕ → List ℤ → List Entries → Vector
others n ks [] c = pos 0
others n [] (b ∷ bs) c = pos 0
others n (k ∷ ks) (b ∷ bs) c = if nat_lt (first_column b) n then others n ks bs c else part c b *ℤ k +ℤ others n ks bs c

combined-none : (bs : List Entries) (c : ℕ) → combined [] bs c ≡ pos 0
combined-none [] c = refl
combined-none (b ∷ bs) c = refl

combined-split : (n : ℕ) (ks : List ℤ) (bs : List Entries) (c : ℕ) → combined ks bs c ≡ combined (picked n ks bs) (with_variables n bs) c +ℤ others n ks bs c
combined-split n ks [] c = refl
combined-split n [] (b ∷ bs) c = omega (arith, ints, combined-none (with_variables n (b ∷ bs)) c)
combined-split n (k ∷ ks) (b ∷ bs) c = by_test (nat_lt (first_column b) n) (combined-split n ks bs c)
  where
    by_test : (t : Bool) → combined ks bs c ≡ combined (picked n ks bs) (with_variables n bs) c +ℤ others n ks bs c
        → part c b *ℤ k +ℤ combined ks bs c ≡ combined (if t then k ∷ picked n ks bs else picked n ks bs) (if t then b ∷ with_variables n bs else with_variables n bs) c +ℤ (if t then others n ks bs c else part c b *ℤ k +ℤ others n ks bs c)
    by_test true e = omega (arith, ints, e)
    by_test false e = omega (arith, ints, e)

others-inductive : (system : System) (n : ℕ) (ks : List ℤ) (bs : List Entries) → AllMeet (λ b. IsInductive system (at_columns b)) bs → IsInductive system (others n ks bs)
others-inductive system n ks [] h = inductive-none system
others-inductive system n [] (b ∷ bs) h = inductive-none system
others-inductive system n (k ∷ ks) (b ∷ bs) h = by_test (nat_lt (first_column b) n) (others-inductive system n ks bs h.1)
  where
    by_test : (t : Bool) → IsInductive system (others n ks bs) → IsInductive system (λ c. if t then others n ks bs c else part c b *ℤ k +ℤ others n ks bs c)
    by_test true i = i
    by_test false i = inductive-plus system (at_columns b) (others n ks bs) k h.0 i

no_variable : (n v : ℕ) (b : Entries) → AreEntries b → nat_lt (first_column b) n ≡ false → v < n → part v b ≡ pos 0
no_variable n v [] h t l = refl
no_variable n v (e ∷ es) h t l =
    let k : n ≤ e.0 = grind (arith, nat_tests) in
    let s : (e.0 == v) ≡ false = grind (arith, nat_tests) in
    rw s (before-all v e.0 es h.0 (omega arith))

others-free : (n v : ℕ) (ks : List ℤ) (bs : List Entries) → AllMeet AreEntries bs → v < n → others n ks bs v ≡ pos 0
others-free n v ks [] h l = refl
others-free n v [] (b ∷ bs) h l = refl
others-free n v (k ∷ ks) (b ∷ bs) h l = by_test (nat_lt (first_column b) n) refl (others-free n v ks bs h.1 l)
  where
    by_test : (t : Bool) → nat_lt (first_column b) n ≡ t → others n ks bs v ≡ pos 0 → (if t then others n ks bs v else part v b *ℤ k +ℤ others n ks bs v) ≡ pos 0
    by_test true t e = e
    by_test false t e = omega (arith, ints, ap (λ z. z *ℤ k) (no_variable n v b h.0 t l), zero-*ℤ k, e)

found-sum : (n locations c : ℕ) (ks : List ℤ) (bs : List Entries) → AllMeet AreEntries bs → c < n + locations + 1 → sum_by n locations ks (map (equation_of n locations) bs) c ≡ combined ks bs c
found-sum n locations c [] [] h l = refl
found-sum n locations c [] (b ∷ bs) h l = refl
found-sum n locations c (k ∷ ks) [] h l = refl
found-sum n locations c (k ∷ ks) (b ∷ bs) h l =
    ap (λ z. z *ℤ k +ℤ sum_by n locations ks (map (equation_of n locations) bs) c) (coefficient-part n locations c b h.0 l)
    ∙ ap (λ z. part c b *ℤ k +ℤ z) (found-sum n locations c ks bs h.1 l)

pub with-meets : (P : Entries → Type 0) (n : ℕ) (bs : List Entries) → AllMeet P bs → AllMeet P (with_variables n bs)
with-meets P n [] h = tt
with-meets P n (b ∷ bs) h = by_test (nat_lt (first_column b) n) (with-meets P n bs h.1)
  where
    by_test : (t : Bool) → AllMeet P (with_variables n bs) → AllMeet P (if t then b ∷ with_variables n bs else with_variables n bs)
    by_test true i = (h.0, i)
    by_test false i = i

pub echelon-entries : (bs : List Entries) → IsEchelon bs → AllMeet AreEntries bs
echelon-entries [] h = tt
echelon-entries (b ∷ bs) h = (h.0, echelon-entries bs h.4)

found-inductive : (system : System) (bs : List Entries) → AllMeet AreEntries bs → AllMeet (λ b. IsInductive system (at_columns b)) bs → AreInductive system (map (equation_of (variables_of system) system.locations) bs)
found-inductive system [] h k = tt
found-inductive system (b ∷ bs) h k = (
  inductive-same system (at_columns b) _ (λ c l. coefficient-part (variables_of system) system.locations c b h.0 l) k.0,
  found-inductive system bs h.1 k.1,
)

pub are-found : (system : System) (bs : List Entries) → IsSystem system → basis_of system ≡ Some bs → AreFound system (found_in system bs)
are-found system bs s e =
    let n = variables_of system in
    let b = the-basis system bs s e in
    let entries = echelon-entries bs b.echelon in
    record {
      inductive = found-inductive system (with_variables n bs) (with-meets AreEntries n bs entries) (with-meets (λ b. IsInductive system (at_columns b)) n bs b.within);
      span = λ x i.
          let p = b.spans x i in
          record {
            times = p.times;
            factors = picked n p.factors bs;
            rest = others n p.factors bs;
            positive = p.positive;
            sum = λ c l. p.sum c l ∙ combined-split n p.factors bs c
                ∙ ap (λ z. z +ℤ others n p.factors bs c) (sym (found-sum n system.locations c (picked n p.factors bs) (with_variables n bs) (with-meets AreEntries n bs entries) l));
            free = λ v l. others-free n v p.factors bs entries l;
            inductive = others-inductive system n p.factors bs b.within;
          };
    }
