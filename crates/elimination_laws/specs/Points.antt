-- The trial point: variables get whole values in the opposite order of their elimination. An equation gives the value, if it is
-- whole; else it is the least number that all lower bounds allow, or the greatest that all upper bounds allow, or 0. It need not
-- exist where a point in fractions does.
use Rattle.std.specs.Prelude.{ℕ, ◌+◌, ◌==◌, ◌%◌, ◌&&◌, Bool, true, false, if◌then◌else◌, List, [], ◌∷◌, length, ℤ, pos, neg_ℤ, ◌+ℤ◌, ◌*ℤ◌, unsigned_abs, int_le, int_lt, Option, Some, None, option_and_then, slice_index_or, slice_set, replicate}
use Rattle.std.specs.Option.{option_map}
use Rattle.std.specs.Int.{int_div_euclid}
use Rattle.st_linear.specs.Linear.{Linear, narrow, small}
use Rattle.st_linear.specs.declared.rows.Line.{Line}
use Rattle.elimination_laws.specs.Mixing.{part, is_up}
use Rattle.st_linear.specs.Linear.{is_zero}
use Rattle.elimination_laws.specs.Stages.{Use, by_equation, by_bounds}

-- the entries but v's own, with the values so far, on top of a number, if no number on the way is wide
abbrev pub evaluated_but : ℕ → List ℤ → List (ℕ × ℤ) → ℤ → Option ℤ
evaluated_but v values [] z = Some z
evaluated_but v values (e ∷ es) z =
    if e.0 == v then evaluated_but v values es z
    else option_and_then (λ p. option_and_then (evaluated_but v values es) (narrow (z +ℤ p))) (narrow (e.1 *ℤ slice_index_or values e.0 (pos 0)))

abbrev pub rest_value : ℕ → List ℤ → Linear → Option ℤ
rest_value v values f = option_and_then (evaluated_but v values f.entries) (narrow f.constant)

-- a number divided by the size of a coefficient, rounded down; the coefficient is never 0 here
abbrev pub floor_by : ℤ → ℤ → ℤ
floor_by a r = if is_zero a then pos 0 else int_div_euclid r (pos (unsigned_abs a))

-- the least whole number that a lower bound allows, and the greatest that an upper bound allows
abbrev pub least_allowed : ℤ → ℤ → ℤ
least_allowed a r = neg_ℤ (floor_by a r)

abbrev pub greatest_allowed : ℤ → ℤ → ℤ
greatest_allowed a r = floor_by a r

abbrev pub raised : Option ℤ → ℤ → ℤ
raised None x = x
raised (Some y) x = if int_lt y x then x else y

abbrev pub lowered : Option ℤ → ℤ → ℤ
lowered None x = x
lowered (Some y) x = if int_lt x y then x else y

-- the least number that all lower bounds allow, if there are any
abbrev pub highest : ℕ → List ℤ → List Linear → Option ℤ → Option (Option ℤ)
highest v values [] best = Some best
highest v values (f ∷ fs) best = option_and_then (λ r. highest v values fs (Some (raised best (least_allowed (part v f.entries) r)))) (rest_value v values f)

abbrev pub lowest : ℕ → List ℤ → List Linear → Option ℤ → Option (Option ℤ)
lowest v values [] best = Some best
lowest v values (f ∷ fs) best = option_and_then (λ r. lowest v values fs (Some (lowered best (greatest_allowed (part v f.entries) r)))) (rest_value v values f)

abbrev pub chosen : Option ℤ → Option ℤ → ℤ
chosen (Some x) high = x
chosen None (Some y) = y
chosen None None = pos 0

-- the number that an equation with the coefficient c asks for, if it is whole
abbrev pub solution : ℤ → ℤ → Option ℤ
solution c r =
    if is_zero c then None
    else (if unsigned_abs r % unsigned_abs c == 0 then small (if is_up c then neg_ℤ (floor_by c r) else floor_by c r)
    else None)

-- a variable's value, with the values of those above it
abbrev pub value_for : ℕ → List ℤ → Use → Option ℤ
value_for v values (by_equation f) = option_and_then (solution (part v f.entries)) (rest_value v values f)
value_for v values (by_bounds ls us) = option_and_then (λ low. option_and_then (λ high. small (chosen low high)) (lowest v values us None)) (highest v values ls None)

-- the values from the last variable down to v
abbrev pub pointed : ℕ → List Use → List ℤ → Option (List ℤ)
pointed v [] values = Some values
pointed v (u ∷ us) values = option_and_then (λ above. option_map (λ z. slice_set above v z) (value_for v above u)) (pointed (v + 1) us values)

abbrev pub meets : Bool → ℤ → Bool
meets equal z = if equal then is_zero z else int_le (pos 0) z

abbrev pub meets_if : Bool → Option ℤ → Bool
meets_if equal None = false
meets_if equal (Some z) = meets equal z

-- a line holds at values, and no number on the way is wide; no variable's entry is left out: none is as large as the number of values
abbrev pub holds_at : List ℤ → Line → Bool
holds_at values l = meets_if l.equal (rest_value (length values) values l.form)

abbrev pub all_hold_at : List ℤ → List Line → Bool
all_hold_at values [] = true
all_hold_at values (l ∷ ls) = holds_at values l && all_hold_at values ls

abbrev pub if_all_hold : List Line → List ℤ → Option (List ℤ)
if_all_hold lines values = if all_hold_at values lines then Some values else None

-- the trial point
abbrev pub point_of : List Line → ℕ → List Use → Option (List ℤ)
point_of lines n us = option_and_then (if_all_hold lines) (pointed 0 us (replicate n (pos 0)))
