-- Sums of multiples of equations of the space are in it.
use Rattle.std.proofs.Common.{◌≡◌, ℕ, zero, suc, ◌+◌, ◌*◌, ◌<◌, ◌≤◌, List, [], ◌∷◌, refl, ap, ◌∙◌, sym, arith, ℤ, pos, neg_ℤ, ◌+ℤ◌, ◌*ℤ◌}
use Rattle.std.proofs.lemmas.Int.{ints}
use Rattle.std.proofs.Math.IntN.{zero-*ℤ, *ℤ_comm}
use Rattle.st_linear.specs.Linear.{Linear, value, changed}
use Rattle.st_linear.proofs.Ints.{+ℤ-*ℤ, *ℤ-+ℤ, *ℤ_assoc}
use Rattle.st_form.specs.Exchange.{Exchange, is_listed}
use Rattle.null_laws.specs.Bases.{Vector}
use Rattle.basic_laws.proofs.Integers.{times_one, times_zero}
use Rattle.null_laws.proofs.Extending.{positive_product}
use Rattle.transition_system.specs.Systems.{PlainMode, System}
use Rattle.equation_laws.specs.Sums.{total, presence, passage, moved_value, first_value}
use Rattle.equation_laws.specs.Space.{AreKept, Starts, IsInductive, combination, start_forms, start_places, modes_of, variables_of, columns_of}
use Rattle.equation_laws.proofs.Totals.{total-same, total-sum, total-zero, total-times}
use Rattle.equation_laws.proofs.Spaces.{moved-times, first-times, turned}

total-plus : (x y d : Vector) (column : ℕ → ℕ) (a : ℤ) (n k : ℕ) → total (λ c. (x (column c) *ℤ a +ℤ y (column c)) *ℤ d c) n k ≡ total (λ c. x (column c) *ℤ d c) n k *ℤ a +ℤ total (λ c. y (column c) *ℤ d c) n k
total-plus x y d column a n k =
    total-same (λ c. (x (column c) *ℤ a +ℤ y (column c)) *ℤ d c) (λ c. (x (column c) *ℤ d c) *ℤ a +ℤ y (column c) *ℤ d c) n k
    (λ c i j. +ℤ-*ℤ (x (column c) *ℤ a) (y (column c)) (d c) ∙ ap (λ z. z +ℤ y (column c) *ℤ d c) (turned (x (column c)) a (d c)))
    ∙ total-sum (λ c. (x (column c) *ℤ d c) *ℤ a) (λ c. y (column c) *ℤ d c) n k
    ∙ ap (λ z. z +ℤ total (λ c. y (column c) *ℤ d c) n k) (total-times (λ c. x (column c) *ℤ d c) a n k)

abbrev plus : Vector → ℤ → Vector → Vector
plus x a y c = x c *ℤ a +ℤ y c

moved-plus : (n locations : ℕ) (x y : Vector) (a : ℤ) (change : Exchange) (store : ℕ → ℤ) → moved_value n locations (plus x a y) change store ≡ moved_value n locations x change store *ℤ a +ℤ moved_value n locations y change store
moved-plus n locations x y a change store =
    let d : Vector = λ v. changed store change.numbers v +ℤ neg_ℤ (store v) in
    let p = total-plus x y d (λ v. v) a n 0 in
    let q = total-plus x y (passage change) (λ l. n + l) a locations 0 in
    omega (arith, ints, p, q, +ℤ-*ℤ (total (λ v. x v *ℤ d v) n 0) (total (λ l. x (n + l) *ℤ passage change l) locations 0) a)

first-plus : (n locations : ℕ) (firsts : List ℕ) (x y : Vector) (a : ℤ) (store : ℕ → ℤ) → first_value n locations firsts (plus x a y) store ≡ first_value n locations firsts x store *ℤ a +ℤ first_value n locations firsts y store
first-plus n locations firsts x y a store =
    let d : Vector = λ l. presence (is_listed l firsts) in
    let p = total-plus x y store (λ v. v) a n 0 in
    let q = total-plus x y d (λ l. n + l) a locations 0 in
    let tx : ℤ = total (λ v. x v *ℤ store v) n 0 in
    let lx : ℤ = total (λ l. x (n + l) *ℤ d l) locations 0 in
    omega (arith, ints, p, q, +ℤ-*ℤ tx (lx +ℤ x (n + locations)) a, +ℤ-*ℤ lx (x (n + locations)) a)

combination-plus : (f g : Vector) (a b : ℤ) (k : ℕ) (fs : List Linear) (store : ℕ → ℤ) → combination (λ i. f i *ℤ a +ℤ g i *ℤ b) k fs store ≡ combination f k fs store *ℤ a +ℤ combination g k fs store *ℤ b
combination-plus f g a b k [] store = omega (arith, ints, zero-*ℤ a, zero-*ℤ b)
combination-plus f g a b k (h ∷ fs) store =
    let v = value store h in
    omega (
      arith,
      ints,
      *ℤ-+ℤ (f k *ℤ a) (g k *ℤ b) v,
      *ℤ_assoc v (f k) a,
      *ℤ_assoc v (g k) b,
      combination-plus f g a b (k + 1) fs store,
      +ℤ-*ℤ (v *ℤ f k) (combination f (k + 1) fs store) a,
      +ℤ-*ℤ (v *ℤ g k) (combination g (k + 1) fs store) b,
    )

combination-none : (k : ℕ) (fs : List Linear) (store : ℕ → ℤ) → combination (λ i. pos 0) k fs store ≡ pos 0
combination-none k [] store = refl
combination-none k (f ∷ fs) store = omega (arith, ints, times_zero (value store f), combination-none (k + 1) fs store)

kept-plus : (n locations : ℕ) (x y : Vector) (a : ℤ) (ms : List PlainMode) → AreKept n locations x ms → AreKept n locations y ms → AreKept n locations (plus x a y) ms
kept-plus n locations x y a [] h k = tt
kept-plus n locations x y a (m ∷ ms) h k = (
  λ store. omega (arith, ints, moved-plus n locations x y a m.change store, ap (λ z. z *ℤ a) (h.0 store), zero-*ℤ a, k.0 store),
  kept-plus n locations x y a ms h.1 k.1,
)

-- (x a + y) s t, where x s and y t are known
cross : (x y a s t c d : ℤ) → x *ℤ s ≡ c → y *ℤ t ≡ d → (x *ℤ a +ℤ y) *ℤ (s *ℤ t) ≡ c *ℤ (a *ℤ t) +ℤ d *ℤ s
cross x y a s t c d h k =
    let p : (x *ℤ a) *ℤ (s *ℤ t) ≡ c *ℤ (a *ℤ t) = sym (*ℤ_assoc (x *ℤ a) s t) ∙ ap (λ z. z *ℤ t) (turned x a s ∙ ap (λ z. z *ℤ a) h) ∙ *ℤ_assoc c a t in
    let q : y *ℤ (s *ℤ t) ≡ d *ℤ s = ap (λ z. y *ℤ z) (*ℤ_comm s t) ∙ sym (*ℤ_assoc y t s) ∙ ap (λ z. z *ℤ s) k in
    omega (arith, ints, +ℤ-*ℤ (x *ℤ a) y (s *ℤ t), p, q)

pub inductive-plus : (system : System) (x y : Vector) (a : ℤ) → IsInductive system x → IsInductive system y → IsInductive system (plus x a y)
inductive-plus system x y a h k =
    let s = h.starts in
    let t = k.starts in
    let n = variables_of system in
    record {
      kept = kept-plus n system.locations x y a (modes_of system) h.kept k.kept;
      starts = record {
        times = s.times * t.times;
        factors = λ i. s.factors i *ℤ (a *ℤ pos t.times) +ℤ t.factors i *ℤ pos s.times;
        positive = positive_product s.times t.times s.positive t.positive;
        combines = λ store.
            ap (λ z. z *ℤ (pos s.times *ℤ pos t.times)) (first-plus n system.locations (start_places system) x y a store)
            ∙ cross _ _ a (pos s.times) (pos t.times) _ _ (s.combines store) (t.combines store)
            ∙ sym (combination-plus s.factors t.factors (a *ℤ pos t.times) (pos s.times) 0 (start_forms system) store);
      };
    }

total-none : (d : Vector) (n k : ℕ) → total (λ c. pos 0 *ℤ d c) n k ≡ pos 0
total-none d n k = total-same (λ c. pos 0 *ℤ d c) (λ c. pos 0) n k (λ c i j. zero-*ℤ (d c)) ∙ total-zero n k

kept-none : (n locations : ℕ) (ms : List PlainMode) → AreKept n locations (λ c. pos 0) ms
kept-none n locations [] = tt
kept-none n locations (m ∷ ms) = (
  λ store. (let a = total-none (λ v. changed store m.change.numbers v +ℤ neg_ℤ (store v)) n 0 in let b = total-none (passage m.change) locations 0 in omega (arith, ints, a, b)),
  kept-none n locations ms,
)

pub inductive-none : (system : System) → IsInductive system (λ c. pos 0)
inductive-none system =
    let n = variables_of system in
    record {
      kept = kept-none n system.locations (modes_of system);
      starts = record {
        times = 1;
        factors = λ i. pos 0;
        positive = omega arith;
        combines = λ store. (let a = total-none store n 0 in let b = total-none (λ l. presence (is_listed l (start_places system))) system.locations 0 in
            let e : first_value n system.locations (start_places system) (λ c. pos 0) store ≡ pos 0 = omega (arith, ints, a, b) in
            ap (λ z. z *ℤ pos 1) e ∙ zero-*ℤ (pos 1) ∙ sym (combination-none 0 (start_forms system) store));
      };
    }

-- equal in the columns of the system
pub inductive-same : (system : System) (x y : Vector) → ((c : ℕ) → c < columns_of system → y c ≡ x c) → IsInductive system x → IsInductive system y
inductive-same system x y h i =
    let n = variables_of system in
    let s = i.starts in
    let once : (c : ℕ) → c < columns_of system → y c ≡ x c *ℤ pos 1 = λ c l. h c l ∙ sym (times_one (x c)) in
    record {
      kept = kept-same (modes_of system) once i.kept;
      starts = record {
        times = s.times;
        factors = s.factors;
        positive = s.positive;
        combines = λ store. ap (λ z. z *ℤ pos s.times) (first-times n system.locations 1 (start_places system) x y store once ∙ times_one _) ∙ s.combines store;
      };
    }
  where
    kept-same : (ms : List PlainMode) → ((c : ℕ) → c < columns_of system → y c ≡ x c *ℤ pos 1) → AreKept (variables_of system) system.locations x ms → AreKept (variables_of system) system.locations y ms
    kept-same [] h k = tt
    kept-same (m ∷ ms) h k = (λ store. moved-times (variables_of system) system.locations 1 x y m.change store h ∙ times_one _ ∙ k.0 store, kept-same ms h k.1)
