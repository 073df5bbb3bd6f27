-- Equations that are found speak of integer variables alone, and there are at most as many as variables.
use Rattle.std.proofs.Common.{◌≡◌, ℕ, suc, ◌+◌, ◌^◌, ◌<◌, ◌≤◌, nat_lt, Bool, true, false, cond, List, [], ◌∷◌, length, Some, refl, sym, ap, subst, ◌∙◌, arith, ℤ, pos, ◌+ℤ◌, ◌*ℤ◌, unsigned_abs}
use Rattle.std.specs.Prelude.{◌==◌, slice_get, get_or}
use Rattle.std.proofs.lemmas.Int.{ints}
use Rattle.std.proofs.lemmas.List.{length-map}
use Rattle.std.proofs.lemmas.Option.{slice_get-get_or}
use Rattle.std.proofs.lemmas.Bool.Decides.{nat_tests}
use Rattle.std.proofs.Math.IntN.{zero-*ℤ, *ℤ_comm}
use Rattle.basic_laws.proofs.Integers.{times_zero}
use Rattle.st_linear.specs.Linear.{Linear, AreEntries, AllBelow, entries_value, value}
use Rattle.st_linear.proofs.Ints.{+ℤ-*ℤ}
use Rattle.elimination_laws.specs.Mixing.{part}
use Rattle.elimination_laws.proofs.Heights.{delta}
use Rattle.elimination_laws.proofs.Mixes.{map-some}
use Rattle.null_laws.specs.Reduction.{Entries}
use Rattle.null_laws.proofs.Rows.{zero_product}
use Rattle.null_laws.specs.Bases.{Vector, first_column, IsApart, IsEchelon}
use Rattle.transition_system.specs.Systems.{System}
use Rattle.transition_system.specs.Bounds.{EntriesWithin, IsSystem}
use Rattle.st_form.specs.Exchange.{is_listed}
use Rattle.equation_laws.specs.Sums.{total, presence, first_value}
use Rattle.equation_laws.specs.Space.{start_forms, start_places, variables_of, combination, IsInductive}
use Rattle.equation_laws.specs.Rows.{basis_of}
use Rattle.equation_laws.specs.Equations.{PlainEquation, AreInductive, equation_of, with_variables, found_in, found, coefficient}
use Rattle.equation_laws.proofs.Totals.{total-same, total-zero, total-one}
use Rattle.equation_laws.proofs.Within.{AllLinear, start-linear, the-basis}

differ : (truths : List Bool) (u v : ℕ) → slice_get truths u ≡ Some false → slice_get truths v ≡ Some true → (u == v) ≡ false
differ truths u v h k = by (u == v) refl
  where
    by : (b : Bool) → (u == v) ≡ b → b ≡ false
    by true e = let same : u ≡ v = grind (arith, nat_tests, e) in let bad : Some false ≡ Some true = sym h ∙ ap (slice_get truths) same ∙ k in absurd cc
    by false e = refl

-- what the start says of an equation, with a boolean variable as 1 and as 0
module _ (system : System) (v : ℕ) (boolean : slice_get system.truths v ≡ Some true) where
  abbrev none : ℕ → ℤ
  none u = pos 0

  entries-same : (bound : ℕ) (es : Entries) → EntriesWithin system.truths bound es → entries_value (delta v) es ≡ entries_value none es
  entries-same bound [] h = refl
  entries-same bound (e ∷ es) h =
      let d : delta v e.0 ≡ pos 0 = rw (differ system.truths e.0 v h.0 boolean) refl in
      ap (λ z. e.1 *ℤ z +ℤ entries_value (delta v) es) d ∙ ap (λ z. e.1 *ℤ pos 0 +ℤ z) (entries-same bound es h.2)

  combination-same : (bound : ℕ) (factors : ℕ → ℤ) (k : ℕ) (fs : List Linear) → AllLinear system.truths bound fs → combination factors k fs (delta v) ≡ combination factors k fs none
  combination-same bound factors k [] h = refl
  combination-same bound factors k (f ∷ fs) h =
      ap (λ z. (f.constant +ℤ z) *ℤ factors k +ℤ combination factors (k + 1) fs (delta v)) (entries-same bound f.entries h.0.entries)
      ∙ ap (λ z. value none f *ℤ factors k +ℤ z) (combination-same bound factors (k + 1) fs h.1)

  one-total : (x : Vector) (n : ℕ) → v < n → total (λ u. x u *ℤ delta v u) n 0 ≡ x v
  one-total x n l = total-same (λ u. x u *ℤ delta v u) (λ u. delta v u *ℤ x u) n 0 (λ c i j. *ℤ_comm (x c) (delta v c)) ∙ total-one x v n 0 (omega arith) (omega (arith, l))

  none-total : (x : Vector) (n : ℕ) → total (λ u. x u *ℤ none u) n 0 ≡ pos 0
  none-total x n = total-same (λ u. x u *ℤ none u) (λ u. pos 0) n 0 (λ c i j. times_zero (x c)) ∙ total-zero n 0

  sums : (a b r : ℤ) (t : ℕ) → b ≡ pos 0 → (a +ℤ r) *ℤ pos t ≡ (b +ℤ r) *ℤ pos t → a *ℤ pos t ≡ pos 0
  sums a b r t e h =
      let left = +ℤ-*ℤ a r (pos t) in
      let right = +ℤ-*ℤ b r (pos t) in
      let gone : b *ℤ pos t ≡ pos 0 = ap (λ z. z *ℤ pos t) e ∙ zero-*ℤ (pos t) in
      omega (arith, ints, left, right, gone, h)

  pub no_truth : (x : Vector) → IsSystem system → IsInductive system x → v < variables_of system → x v ≡ pos 0
  no_truth x is h l =
      let s = h.starts in
      let n = variables_of system in
      let r : ℤ = total (λ k. x (n + k) *ℤ presence (is_listed k (start_places system))) system.locations 0 +ℤ x (n + system.locations) in
      let both : first_value n system.locations (start_places system) x (delta v) *ℤ pos s.times ≡ first_value n system.locations (start_places system) x none *ℤ pos s.times =
      s.combines (delta v) ∙ combination-same (2 ^ 32) s.factors 0 (start_forms system) (start-linear system is) ∙ sym (s.combines none) in
      let product : total (λ u. x u *ℤ delta v u) n 0 *ℤ pos s.times ≡ pos 0 = sums (total (λ u. x u *ℤ delta v u) n 0) (total (λ u. x u *ℤ none u) n 0) r s.times (none-total x n) both in
      sym (one-total x n l) ∙ zero_product (total (λ u. x u *ℤ delta v u) n 0) (pos s.times) (λ none. omega (arith, s.positive, ap unsigned_abs none)) product

-- each entry is of an integer variable
abbrev pub AreFalse : List Bool → Entries → Type 0
AreFalse truths [] = Unit {0}
AreFalse truths (e ∷ es) = (slice_get truths e.0 ≡ Some false) × AreFalse truths es

same-number : (v : ℕ) → (v == v) ≡ true
same-number v = grind (arith, nat_tests)

-- no entry is of a boolean variable
abbrev NoTruth : List Bool → Entries → Type 0
NoTruth truths es = (v : ℕ) → slice_get truths v ≡ Some true → v < length truths → part v es ≡ pos 0

all-false : (truths : List Bool) (es : Entries) → AreEntries es → AllBelow (length truths) es → NoTruth truths es → AreFalse truths es
all-false truths [] a b h = tt
all-false truths (e ∷ es) a b h = by (λ more. all-false truths es a.2 b.1 more) (get_or truths e.0 false) (slice_get-get_or truths e.0 false b.0)
  where
    first : part e.0 (e ∷ es) ≡ e.1
    first = rw (same-number e.0) refl

    rest : slice_get truths e.0 ≡ Some false → NoTruth truths es
    rest own v boolean l = ap (λ (t : Bool). cond t e.1 (part v es)) (sym (differ truths e.0 v own boolean)) ∙ h v boolean l

    by : (NoTruth truths es → AreFalse truths es) → (x : Bool) → slice_get truths e.0 ≡ Some x → AreFalse truths (e ∷ es)
    by again true g = absurd (a.1 (sym first ∙ h e.0 g b.0))
    by again false g = (g, again (rest g))

-- of the equations that are found
abbrev pub AllFalse : List Bool → List PlainEquation → Type 0
AllFalse truths [] = Unit {0}
AllFalse truths (e ∷ es) = AreFalse truths e.numbers × AllFalse truths es

abbrev pub AllRows : System → List PlainEquation → Type 0
AllRows system [] = Unit {0}
AllRows system (e ∷ es) = AreEntries e.numbers × AllBelow (variables_of system) e.numbers × AllRows system es

variable-part : (n locations v : ℕ) (e : PlainEquation) → v < n → coefficient n locations e v ≡ part v e.numbers
variable-part n locations v e l = let t : nat_lt v n ≡ true = grind (arith, nat_tests, l) in rw t refl

pub found-false : (system : System) → IsSystem system → (es : List PlainEquation) → AllRows system es → AreInductive system es → AllFalse system.truths es
found-false system is [] r i = tt
found-false system is (e ∷ es) r i = (
  all-false system.truths e.numbers r.0 r.1 (λ v boolean l. sym (variable-part (variables_of system) system.locations v e l) ∙ no_truth system v boolean (coefficient (variables_of system) system.locations e) is i.0 l),
  found-false system is es r.2 i.1,
)

-- how many there are
abbrev AllFrom : ℕ → List Entries → Type 0
AllFrom k [] = Unit {0}
AllFrom k (b ∷ bs) = (k ≤ first_column b) × AllFrom k bs

from-apart : (b : Entries) (ds : List Entries) → IsApart b ds → AllFrom (suc (first_column b)) ds
from-apart b [] h = tt
from-apart b (d ∷ ds) h = (omega (arith, h.0), from-apart b ds h.2)

few-with : (n k : ℕ) (bs : List Entries) → k ≤ n → AllFrom k bs → IsEchelon bs → k + length (with_variables n bs) ≤ n
few-with n k [] le h e = omega arith
few-with n k (b ∷ bs) le h e = by (λ j least from. few-with n j bs least from e.4) (nat_lt (first_column b) n) refl
  where
    by : ((j : ℕ) → j ≤ n → AllFrom j bs → j + length (with_variables n bs) ≤ n) → (t : Bool) → nat_lt (first_column b) n ≡ t → k + length (cond t (b ∷ with_variables n bs) (with_variables n bs)) ≤ n
    by again true i =
        let less : first_column b < n = grind (arith, nat_tests, i) in
        omega (arith, h.0, again (suc (first_column b)) (omega (arith, less)) (from-apart b bs e.3))
    by again false i = again k le h.1

all-from-zero : (bs : List Entries) → AllFrom 0 bs
all-from-zero [] = tt
all-from-zero (b ∷ bs) = (omega arith, all-from-zero bs)

pub few-found : (system : System) (es : List PlainEquation) → IsSystem system → found system ≡ Some es → length es ≤ length system.truths
few-found system es is e =
    let f = map-some (found_in system) (basis_of system) es e in
    let n = variables_of system in
    let count : length (found_in system f.0) ≤ n = omega (arith, length-map (with_variables n f.0) (equation_of n system.locations), few-with n 0 f.0 (omega arith) (all-from-zero f.0) (the-basis system f.0 is f.1).echelon) in
    subst (λ (xs : List PlainEquation). length xs ≤ n) f.2 count
