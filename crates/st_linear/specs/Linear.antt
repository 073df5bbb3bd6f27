-- Linear forms over whole numbers as plain data: what their values are, and what sums, multiples and replacements are. Entries are
-- kept by rising variable without a coefficient 0, so that equal forms are equal data. Where a number grows to a limit there is no
-- form: `fitting`, `replaced` and the like then give None.
use Rattle.std.specs.Prelude.{◌≢◌, IsTrue, ℕ, zero, ◌^◌, ◌<◌, Bool, true, ◌&&◌, ◌||◌, not, false, ◌+◌, ◌==◌, nat_lt, nat_le, is_some, option_and_then, slice_index_or, if◌then◌else◌, List, [], ◌∷◌, ℤ, pos, ◌+ℤ◌, ◌*ℤ◌, unsigned_abs, All, Option, Some, None}

-- a linear form: a constant, and a coefficient for each of some variables
pub record Linear : Type 0 where
  pub constant : ℤ
  pub entries : List (ℕ × ℤ)

-- the sum of the entries, each variable having its value in the store
abbrev pub entries_value : (ℕ → ℤ) → List (ℕ × ℤ) → ℤ
entries_value store [] = pos 0
entries_value store (e ∷ es) = e.1 *ℤ store e.0 +ℤ entries_value store es

-- the value of a form in a store
abbrev pub value : (ℕ → ℤ) → Linear → ℤ
value store f = f.constant +ℤ entries_value store f.entries

-- a size below a limit
unfoldable pub is_within : ℕ → ℤ → Bool
is_within limit z = nat_lt (unsigned_abs z) limit

abbrev pub are_within : ℕ → List (ℕ × ℤ) → Bool
are_within limit [] = true
are_within limit (e ∷ es) = is_within limit e.1 && are_within limit es

-- a number, and entries, if they are within a limit
abbrev pub number_within : ℕ → ℤ → Option ℤ
number_within limit z = if is_within limit z then Some z else None

unfoldable pub entries_within : ℕ → List (ℕ × ℤ) → Option (List (ℕ × ℤ))
entries_within limit es = if are_within limit es then Some es else None

-- a number that a form may hold
abbrev pub is_small : ℤ → Bool
is_small = is_within (2 ^ 100)

abbrev pub are_small : List (ℕ × ℤ) → Bool
are_small = are_within (2 ^ 100)

abbrev pub small : ℤ → Option ℤ
small = number_within (2 ^ 100)

abbrev pub small_entries : List (ℕ × ℤ) → Option (List (ℕ × ℤ))
small_entries = entries_within (2 ^ 100)

-- an entry in front, unless its coefficient is 0
abbrev pub with_entry : ℕ → ℤ → List (ℕ × ℤ) → List (ℕ × ℤ)
with_entry v (pos zero) es = es
with_entry v c es = (v, c) ∷ es

-- the entries x and xs in front of others, joined with a list by variable
abbrev pub joined_with : ℕ × ℤ → List (ℕ × ℤ) → (List (ℕ × ℤ) → List (ℕ × ℤ)) → List (ℕ × ℤ) → List (ℕ × ℤ)
joined_with x xs rest [] = x ∷ xs
joined_with x xs rest (y ∷ ys) =
    if nat_lt x.0 y.0 then x ∷ rest (y ∷ ys)
    else (if nat_lt y.0 x.0 then y ∷ joined_with x xs rest ys
    else with_entry x.0 (x.1 +ℤ y.1) (rest ys))

-- the entries of a sum, by variable
abbrev pub joined : List (ℕ × ℤ) → List (ℕ × ℤ) → List (ℕ × ℤ)
joined [] ys = ys
joined (x ∷ xs) ys = joined_with x xs (joined xs) ys

abbrev pub sum_of : Linear → Linear → Linear
sum_of f g = record { constant = f.constant +ℤ g.constant; entries = joined f.entries g.entries }

-- each variable is above v
abbrev pub AllAbove : ℕ → List (ℕ × ℤ) → Type 0
AllAbove v [] = Unit {0}
AllAbove v (e ∷ es) = (v < e.0) × AllAbove v es

-- variables rise, and no coefficient is 0
abbrev pub AreEntries : List (ℕ × ℤ) → Type 0
AreEntries [] = Unit {0}
AreEntries (e ∷ es) = AllAbove e.0 es × (e.1 ≢ pos 0) × AreEntries es

-- each number is small
abbrev pub fits : Linear → Bool
fits f = is_small f.constant && are_small f.entries

-- what a form keeps
pub record IsLinear (f : Linear) : Type 0 where
  pub constant_small : IsTrue (is_small f.constant)
  pub entries_small : IsTrue (are_small f.entries)
  pub entries : AreEntries f.entries

-- the form, if each of its numbers is small
unfoldable pub fitting : Linear → Option Linear
fitting f = if fits f then Some f else None

-- the entries of a multiple
abbrev pub scaled_entries : ℤ → List (ℕ × ℤ) → List (ℕ × ℤ)
scaled_entries c [] = []
scaled_entries c (e ∷ es) = with_entry e.0 (e.1 *ℤ c) (scaled_entries c es)

abbrev pub scaled : ℤ → Linear → Linear
scaled c f = record { constant = f.constant *ℤ c; entries = scaled_entries c f.entries }

-- the form that is listed for a variable
abbrev pub form_for : ℕ → List (ℕ × Linear) → Option Linear
form_for v [] = None
form_for v (p ∷ ps) = if p.0 == v then Some p.1 else form_for v ps

-- the entries of the variables that are not listed
abbrev pub kept_entries : List (ℕ × Linear) → List (ℕ × ℤ) → List (ℕ × ℤ)
kept_entries ps [] = []
kept_entries ps (e ∷ es) = if is_some (form_for e.0 ps) then kept_entries ps es else e ∷ kept_entries ps es

-- a sum with a multiple, if each number of both is small
abbrev pub plus_scaled : Linear → ℤ → Linear → Option Linear
plus_scaled f c g = option_and_then (λ p. fitting (sum_of f p)) (fitting (scaled c g))

abbrev pub with_one : Option Linear → ℤ → (Linear → Option Linear) → Linear → Option Linear
with_one None c more f = more f
with_one (Some g) c more f = option_and_then more (plus_scaled f c g)

-- a sum, and the multiples of the forms that are listed for the entries' variables, in the entries' order
abbrev pub with_listed : List (ℕ × Linear) → List (ℕ × ℤ) → Linear → Option Linear
with_listed ps [] f = Some f
with_listed ps (e ∷ es) f = with_one (form_for e.0 ps) e.1 (with_listed ps es) f

-- the form with the listed variables replaced at once
abbrev pub replaced : List (ℕ × Linear) → Linear → Option Linear
replaced ps f = with_listed ps f.entries (record { constant = f.constant; entries = kept_entries ps f.entries })

-- a number on the way to a value
unfoldable pub is_wide : ℤ → Bool
is_wide z = nat_le (2 ^ 126) (unsigned_abs z)

abbrev pub narrow : ℤ → Option ℤ
narrow z = if is_wide z then None else Some z

-- the value of the entries on top of a number, if no number on the way is wide
abbrev pub evaluated : List ℤ → List (ℕ × ℤ) → ℤ → Option ℤ
evaluated values [] z = Some z
evaluated values (e ∷ es) z =
    option_and_then (λ p. option_and_then (evaluated values es) (narrow (z +ℤ p))) (narrow (e.1 *ℤ slice_index_or values e.0 (pos 0)))

-- the store in which variable number k has the k-th value
abbrev pub valuation : List ℤ → ℕ → ℤ
valuation values v = slice_index_or values v (pos 0)

-- each variable has a value
abbrev pub AllBelow : ℕ → List (ℕ × ℤ) → Type 0
AllBelow n [] = Unit {0}
AllBelow n (e ∷ es) = (e.0 < n) × AllBelow n es

-- a number as a form, and a variable
abbrev pub number : ℤ → Linear
number z = record { constant = z; entries = [] }

abbrev pub variable : ℕ → Linear
variable v = record { constant = pos 0; entries = (v, pos 1) ∷ [] }

abbrev pub value_or : ℤ → (ℕ → ℤ) → Option Linear → ℤ
value_or z store None = z
value_or z store (Some f) = value store f

-- the store in which the listed variables have their forms' values
abbrev pub changed : (ℕ → ℤ) → List (ℕ × Linear) → ℕ → ℤ
changed store ps v = value_or (store v) store (form_for v ps)

abbrev pub is_zero : ℤ → Bool
is_zero (pos zero) = true
is_zero z = false

-- variables rise from low on, and coefficients are small and not 0
abbrev pub rise_from : ℕ → List (ℕ × ℤ) → Bool
rise_from low [] = true
rise_from low (e ∷ es) = if nat_lt e.0 low || is_zero e.1 || not (is_small e.1) then false else rise_from (e.0 + 1) es

-- the form with this constant and these entries, if they are such
abbrev pub of_entries : ℤ → List (ℕ × ℤ) → Option Linear
of_entries c es = if is_small c && rise_from 0 es then Some (record { constant = c; entries = es }) else None

-- each number is below 2^70 in size
pub record IsSlim (f : Linear) : Type 0 where
  pub constant : unsigned_abs f.constant < 2 ^ 70
  pub entries : All (λ e. unsigned_abs e.1 < 2 ^ 70) f.entries
