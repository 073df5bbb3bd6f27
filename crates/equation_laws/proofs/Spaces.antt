-- The vectors that all rows take to 0 are the equations of the space.
use Rattle.std.proofs.Common.{◌≡◌, ℕ, zero, suc, ◌+◌, ◌-◌, ◌<◌, ◌≤◌, true, false, List, [], ◌∷◌, ◌++◌, length, inl, inr, refl, ap, ◌∙◌, sym, subst, arith, ℤ, pos, neg_ℤ, ◌+ℤ◌, ◌*ℤ◌}
use Rattle.std.specs.Prelude.{nat_lt, if◌then◌else◌}
use Rattle.std.proofs.lemmas.Int.{ints}
use Rattle.std.proofs.lemmas.Bool.{cases_eq}
use Rattle.std.proofs.lemmas.Bool.Decides.{nat_tests}
use Rattle.std.proofs.Math.IntN.{zero-*ℤ, *ℤ_comm}
use Rattle.st_linear.specs.Linear.{Linear, entries_value, changed}
use Rattle.st_linear.proofs.Ints.{+ℤ-*ℤ, *ℤ_assoc}
use Rattle.st_form.specs.Exchange.{Exchange, is_listed}
use Rattle.null_laws.specs.Reduction.{Entries}
use Rattle.null_laws.specs.Bases.{Vector, AllMeet, IsNull, IsNullFront, IsBasis, at_columns}
use Rattle.null_laws.proofs.Rows.{zero_product, pos_nonzero}
use Rattle.transition_system.specs.Bounds.{RisesFrom}
use Rattle.transition_system.specs.Systems.{PlainMode, System}
use Rattle.equation_laws.specs.Sums.{total, presence, passage, moved_value, first_value}
use Rattle.equation_laws.specs.Space.{AreKept, Starts, IsInductive, combination, start_forms, start_places, modes_of, variables_of, columns_of}
use Rattle.equation_laws.specs.Rows.{with_row, variable_row, constant_row, first_variable_row, first_constant_row, variable_rows, mode_rows, first_rows, rows_of}
use Rattle.equation_laws.proofs.Totals.{total-same, total-times}
use Rattle.equation_laws.proofs.Changing.{AreWithin, moved-rows}
use Rattle.equation_laws.proofs.Starting.{AreForms, first-rows}
use Rattle.equation_laws.proofs.Zeros.{IsZero, is_zero-from, is_zero-to}

-- a row in front of others
of_row : (x : Vector) (r : Entries) (rows : List Entries) → IsNull (with_row r rows) x → (entries_value x r ≡ pos 0) × IsNull rows x
of_row x [] rows h = (refl, h)
of_row x (e ∷ es) rows h = h

to_row : (x : Vector) (r : Entries) (rows : List Entries) → entries_value x r ≡ pos 0 → IsNull rows x → IsNull (with_row r rows) x
to_row x [] rows e h = h
to_row x (e ∷ es) rows q h = (q, h)

record Parts (make : ℕ → Entries) (m k : ℕ) (after : List Entries) (x : Vector) : Type 0 where
  pub variables : (u : ℕ) → k ≤ u → u < k + m → entries_value x (make u) ≡ pos 0
  pub rest : IsNull after x

of_rows : (make : ℕ → Entries) (m k : ℕ) (after : List Entries) (x : Vector) → IsNull (variable_rows make m k after) x → Parts make m k after x
of_rows make zero k after x h = record { variables = λ u i j. absurd (omega arith); rest = h }
of_rows make (suc m) k after x h =
    let r = of_row x (make k) (variable_rows make m (k + 1) after) h in
    let p = of_rows make m (k + 1) after x r.1 in
    record {
      variables = λ u i j. elim (cases_eq k u) [ inl same ↦ subst (λ u. entries_value x (make u) ≡ pos 0) same r.0 | inr other ↦ p.variables u (omega arith) (omega arith) ];
      rest = p.rest;
    }

to_rows : (make : ℕ → Entries) (m k : ℕ) (after : List Entries) (x : Vector) → ((u : ℕ) → k ≤ u → u < k + m → entries_value x (make u) ≡ pos 0) → IsNull after x → IsNull (variable_rows make m k after) x
to_rows make zero k after x f h = h
to_rows make (suc m) k after x f h = to_row x (make k) (variable_rows make m (k + 1) after) (f k (omega arith) (omega arith)) (to_rows make m (k + 1) after x (λ u i j. f u (omega arith) (omega arith)) h)

-- the modes' new forms are over the first n variables, and the variables that a mode changes rise
abbrev pub ModesWithin : ℕ → List PlainMode → Type 0
ModesWithin n [] = Unit {0}
ModesWithin n (m ∷ ms) = AreWithin n m.change.numbers × RisesFrom 0 m.change.numbers × ModesWithin n ms

-- both ways for all modes
modes-kept : (n locations : ℕ) (ms : List PlainMode) (after : List Entries) (x : Vector) → ModesWithin n ms → IsNull (mode_rows n locations ms after) x → AreKept n locations x ms × IsNull after x
modes-kept n locations [] after x w h = (tt, h)
modes-kept n locations (m ∷ ms) after x w h =
    let p = of_rows (variable_row m.change) n 0 (with_row (constant_row n locations m.change) (mode_rows n locations ms after)) x h in
    let r = of_row x (constant_row n locations m.change) (mode_rows n locations ms after) p.rest in
    let z : IsZero (λ u. entries_value x (variable_row m.change u)) (entries_value x (constant_row n locations m.change)) n = record { constant = r.0; coefficients = λ u l. p.variables u (omega arith) (omega arith) } in
    let rest = modes-kept n locations ms after x w.2 r.1 in
    ((λ store. moved-rows n locations m.change x store w.0 w.1 ∙ is_zero-to (λ u. entries_value x (variable_row m.change u)) (entries_value x (constant_row n locations m.change)) n store z, rest.0), rest.1)

kept-modes : (n locations : ℕ) (ms : List PlainMode) (after : List Entries) (x : Vector) → ModesWithin n ms → AreKept n locations x ms → IsNull after x → IsNull (mode_rows n locations ms after) x
kept-modes n locations [] after x w k h = h
kept-modes n locations (m ∷ ms) after x w k h =
    let z = is_zero-from (λ u. entries_value x (variable_row m.change u)) (entries_value x (constant_row n locations m.change)) n (λ store. sym (moved-rows n locations m.change x store w.0 w.1) ∙ k.0 store) in
    to_rows (variable_row m.change) n 0 (with_row (constant_row n locations m.change) (mode_rows n locations ms after)) x (λ u i j. z.coefficients u (omega arith))
    (to_row x (constant_row n locations m.change) (mode_rows n locations ms after) z.constant (kept-modes n locations ms after x w.2 k.1 h))

-- both ways for the start
abbrev FactorsFrom : ℕ → Vector → Vector → Type 0
FactorsFrom k y factors = (i : ℕ) → y (k + i) ≡ factors i

start-combines : (n locations : ℕ) (firsts : List ℕ) (forms : List Linear) (y factors : Vector) → AreForms n forms → FactorsFrom (n + locations + 1) y factors → IsNull (first_rows n locations firsts forms) y → (store : ℕ → ℤ) → first_value n locations firsts y store ≡ combination factors 0 forms store
start-combines n locations firsts forms y factors w f h store =
    let k : ℕ = n + locations + 1 in
    let p = of_rows (first_variable_row k forms) n 0 (with_row (first_constant_row n locations firsts forms) []) y h in
    let r = of_row y (first_constant_row n locations firsts forms) [] p.rest in
    let z : IsZero (λ u. entries_value y (first_variable_row k forms u)) (entries_value y (first_constant_row n locations firsts forms)) n = record { constant = r.0; coefficients = λ u l. p.variables u (omega arith) (omega arith) } in
    let e = is_zero-to (λ u. entries_value y (first_variable_row k forms u)) (entries_value y (first_constant_row n locations firsts forms)) n store z in
    omega (arith, ints, first-rows n locations firsts forms y store factors w f, e)

combines-start : (n locations : ℕ) (firsts : List ℕ) (forms : List Linear) (y factors : Vector) → AreForms n forms → FactorsFrom (n + locations + 1) y factors → ((store : ℕ → ℤ) → first_value n locations firsts y store ≡ combination factors 0 forms store) → IsNull (first_rows n locations firsts forms) y
combines-start n locations firsts forms y factors w f h =
    let k : ℕ = n + locations + 1 in
    let z = is_zero-from (λ u. entries_value y (first_variable_row k forms u)) (entries_value y (first_constant_row n locations firsts forms)) n
    (λ store. (let a = first-rows n locations firsts forms y store factors w f in let b = h store in omega (arith, ints, a, b))) in
    to_rows (first_variable_row k forms) n 0 (with_row (first_constant_row n locations firsts forms) []) y (λ u i j. z.coefficients u (omega arith))
    (to_row y (first_constant_row n locations firsts forms) [] z.constant tt)

-- multiples
abbrev TimesIn : ℕ → ℕ → Vector → Vector → Type 0
TimesIn k t x w = (c : ℕ) → c < k → w c ≡ x c *ℤ pos t

pub turned : (a b c : ℤ) → (a *ℤ b) *ℤ c ≡ (a *ℤ c) *ℤ b
turned a b c = *ℤ_assoc a b c ∙ ap (λ z. a *ℤ z) (*ℤ_comm b c) ∙ sym (*ℤ_assoc a c b)

total-multiple : (x w d : Vector) (column : ℕ → ℕ) (t n k : ℕ) → ((c : ℕ) → k ≤ c → c < k + n → w (column c) ≡ x (column c) *ℤ pos t) → total (λ c. w (column c) *ℤ d c) n k ≡ total (λ c. x (column c) *ℤ d c) n k *ℤ pos t
total-multiple x w d column t n k h =
    total-same (λ c. w (column c) *ℤ d c) (λ c. (x (column c) *ℤ d c) *ℤ pos t) n k (λ c i j. ap (λ z. z *ℤ d c) (h c i j) ∙ turned (x (column c)) (pos t) (d c))
    ∙ total-times (λ c. x (column c) *ℤ d c) (pos t) n k

pub moved-times : (n locations t : ℕ) (x w : Vector) (change : Exchange) (store : ℕ → ℤ) → TimesIn (n + locations + 1) t x w → moved_value n locations w change store ≡ moved_value n locations x change store *ℤ pos t
moved-times n locations t x w change store h =
    let d : Vector = λ v. changed store change.numbers v +ℤ neg_ℤ (store v) in
    let a = total-multiple x w d (λ v. v) t n 0 (λ c i j. h c (omega arith)) in
    let b = total-multiple x w (passage change) (λ l. n + l) t locations 0 (λ c i j. h (n + c) (omega arith)) in
    omega (arith, ints, a, b, +ℤ-*ℤ (total (λ v. x v *ℤ d v) n 0) (total (λ l. x (n + l) *ℤ passage change l) locations 0) (pos t))

pub first-times : (n locations t : ℕ) (firsts : List ℕ) (x w : Vector) (store : ℕ → ℤ) → TimesIn (n + locations + 1) t x w → first_value n locations firsts w store ≡ first_value n locations firsts x store *ℤ pos t
first-times n locations t firsts x w store h =
    let d : Vector = λ l. presence (is_listed l firsts) in
    let a = total-multiple x w store (λ v. v) t n 0 (λ c i j. h c (omega arith)) in
    let b = total-multiple x w d (λ l. n + l) t locations 0 (λ c i j. h (n + c) (omega arith)) in
    let e = h (n + locations) (omega arith) in
    omega (
      arith,
      ints,
      a,
      b,
      e,
      +ℤ-*ℤ (total (λ v. x v *ℤ store v) n 0) (total (λ l. x (n + l) *ℤ d l) locations 0 +ℤ x (n + locations)) (pos t),
      +ℤ-*ℤ (total (λ l. x (n + l) *ℤ d l) locations 0) (x (n + locations)) (pos t),
    )

kept-part : (n locations t : ℕ) (x w : Vector) (ms : List PlainMode) → 0 < t → TimesIn (n + locations + 1) t x w → AreKept n locations w ms → AreKept n locations x ms
kept-part n locations t x w [] p h k = tt
kept-part n locations t x w (m ∷ ms) p h k = (
  λ store. zero_product (moved_value n locations x m.change store) (pos t) (pos_nonzero t p) (sym (moved-times n locations t x w m.change store h) ∙ k.0 store),
  kept-part n locations t x w ms p h k.1,
)

kept-multiple : (n locations t : ℕ) (x w : Vector) (ms : List PlainMode) → TimesIn (n + locations + 1) t x w → AreKept n locations x ms → AreKept n locations w ms
kept-multiple n locations t x w [] h k = tt
kept-multiple n locations t x w (m ∷ ms) h k = (λ store. moved-times n locations t x w m.change store h ∙ ap (λ z. z *ℤ pos t) (k.0 store) ∙ zero-*ℤ (pos t), kept-multiple n locations t x w ms h k.1)

-- what a system's numbers are within
pub record SystemWithin (system : System) : Type 0 where
  pub modes : ModesWithin (variables_of system) (modes_of system)
  pub forms : AreForms (variables_of system) (start_forms system)

front-inductive : (system : System) (x : Vector) → SystemWithin system → IsNullFront (rows_of system) (columns_of system) x → IsInductive system x
front-inductive system x w f =
    let n = variables_of system in
    let p = modes-kept n system.locations (modes_of system) (first_rows n system.locations (start_places system) (start_forms system)) f.whole w.modes f.null in
    let factors : Vector = λ i. f.whole (n + system.locations + 1 + i) in
    let c = start-combines n system.locations (start_places system) (start_forms system) f.whole factors w.forms (λ i. refl) p.1 in
    record {
      kept = kept-part n system.locations f.times x f.whole (modes_of system) f.positive f.same p.0;
      starts = record {
        times = f.times;
        factors = factors;
        positive = f.positive;
        combines = λ store. sym (first-times n system.locations f.times (start_places system) x f.whole store f.same) ∙ c store;
      };
    }

inductive-front : (system : System) (x : Vector) → SystemWithin system → IsInductive system x → IsNullFront (rows_of system) (columns_of system) x
inductive-front system x w i =
    let n = variables_of system in
    let k : ℕ = columns_of system in
    let s = i.starts in
    let whole : Vector = λ c. if nat_lt c k then x c *ℤ pos s.times else s.factors (c - k) in
    let same : TimesIn k s.times x whole = λ c l. (let t : nat_lt c k ≡ true = grind (arith, nat_tests) in rw t refl) in
    let from : FactorsFrom k whole s.factors = λ i. (let t : nat_lt (k + i) k ≡ false = grind (arith, nat_tests) in rw t (ap s.factors (omega arith))) in
    record {
      times = s.times;
      whole = whole;
      positive = s.positive;
      same = same;
      null = kept-modes n system.locations (modes_of system) (first_rows n system.locations (start_places system) (start_forms system)) whole w.modes
          (kept-multiple n system.locations s.times x whole (modes_of system) same i.kept)
          (combines-start n system.locations (start_places system) (start_forms system) whole s.factors w.forms from
          (λ store. first-times n system.locations s.times (start_places system) x whole store same ∙ s.combines store));
    }

each-meets : (P Q : Entries → Type 0) (bs : List Entries) → ((b : Entries) → P b → Q b) → AllMeet P bs → AllMeet Q bs
each-meets P Q [] f h = tt
each-meets P Q (b ∷ bs) f h = (f b h.0, each-meets P Q bs f h.1)

pub basis-space : (system : System) (bs : List Entries) → SystemWithin system → IsBasis (IsNullFront (rows_of system) (columns_of system)) (columns_of system) bs → IsBasis (IsInductive system) (columns_of system) bs
basis-space system bs w b = record {
  below = b.below;
  within = each-meets (λ b. IsNullFront (rows_of system) (columns_of system) (at_columns b)) (λ b. IsInductive system (at_columns b)) bs (λ b h. front-inductive system (at_columns b) w h) b.within;
  spans = λ x h. b.spans x (inductive-front system x w h);
  echelon = b.echelon;
}
