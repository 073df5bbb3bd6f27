-- What a simplified formula is.
use Rattle.std.specs.Prelude.{◌≡◌, ℕ, ◌%◌, ◌<◌, ◌^◌, Bool, true, false, not, ◌==◌, if◌then◌else◌, List, [], ◌∷◌, slice_index_or, ℤ, pos, int_le, int_lt, unsigned_abs, Option, Some, None, option_and_then}
use Rattle.std.specs.Option.{option_map}
use Rattle.st_linear.specs.Linear.{Linear}
use Rattle.st_linear.specs.Simple.{common_divisor, divided, complement, lowered, negated}
use Rattle.st_form.specs.Formula.{Formula, Formulas, truth_value, row, equal, bool_var, at, negation, every, some, none, more, is_zero, Situation, truth}

abbrev pub no_entries : List (ℕ × ℤ) → Bool
no_entries [] = true
no_entries (e ∷ es) = false

abbrev pub is_constant : Linear → Bool
is_constant f = no_entries f.entries

abbrev pub leads_negative : List (ℕ × ℤ) → Bool
leads_negative [] = false
leads_negative (e ∷ es) = int_lt e.1 (pos 0)

abbrev pub simple_row : Linear → Formula
simple_row f = if is_constant f then truth_value (int_le (pos 0) f.constant) else row (divided (common_divisor f.entries) f)

abbrev pub divides_constant : Linear → Bool
divides_constant f = unsigned_abs f.constant % common_divisor f.entries == 0

abbrev pub leading : Linear → Linear
leading f = if leads_negative f.entries then negated f else f

abbrev pub simple_equal : Linear → Formula
simple_equal f =
    if is_constant f then truth_value (is_zero f.constant)
    else (if divides_constant f then equal (leading (divided (common_divisor f.entries) f)) else truth_value false)

abbrev pub simple_apart : Linear → Formula
simple_apart f =
    if is_constant f then truth_value (not (is_zero f.constant))
    else (if divides_constant f then some (more (simple_row (lowered f)) (more (simple_row (complement f)) none)) else truth_value true)

abbrev pub append : Formulas → Formulas → Formulas
append none gs = gs
append (more f fs) gs = more f (append fs gs)

-- the parts that a part of a conjunction, or of a disjunction, gives, or none where it decides
abbrev pub parts : Bool → Formula → Option Formulas
parts all (truth_value true) = if all then Some none else None
parts all (truth_value false) = if all then None else Some none
parts all (every gs) = if all then Some gs else Some (more (every gs) none)
parts all (some gs) = if all then Some (more (some gs) none) else Some gs
parts all f = Some (more f none)

abbrev pub gathered : Bool → Formulas → Option Formulas
gathered all none = Some none
gathered all (more f fs) = option_and_then (λ gs. option_map (append gs) (gathered all fs)) (parts all f)

abbrev pub closed : Bool → Formulas → Formula
closed all none = truth_value all
closed all (more f none) = f
closed true fs = every fs
closed false fs = some fs

-- a conjunction, or a disjunction, of simple parts
abbrev pub joined_parts : Bool → Option Formulas → Formula
joined_parts all None = truth_value (not all)
joined_parts all (Some fs) = closed all fs

abbrev pub signed : Bool → Formula → Formula
signed true f = f
signed false f = negation f

-- the parts of a conjunction, or the formula alone
abbrev pub opened : Formula → Formulas
opened (every gs) = gs
opened g = more g none

-- truth values that are decided: of variables, and of being at locations
pub record Decided : Type 0 where
  pub truths : ℕ → Option Bool
  pub places : ℕ → Option Bool

-- the decided truth values in two tables, by number
abbrev pub tabled : List (Option Bool) → List (Option Bool) → Decided
tabled ts ps = record { truths = λ v. slice_index_or ts v None; places = λ l. slice_index_or ps l None }

-- nothing is decided
abbrev pub nothing : Decided
nothing = record { truths = λ _. None; places = λ _. None }

-- a literal under a sign, or its truth value where that is decided
abbrev pub literal : Bool → Formula → Option Bool → Formula
literal plus f None = signed plus f
literal plus f (Some b) = truth_value (if plus then b else not b)

abbrev mutual
  -- the simplified formula under a sign, with some truth values decided
  pub simple : Decided → Formula → Bool → Formula
  simple d (truth_value b) plus = truth_value (if plus then b else not b)
  simple d (row f) plus = simple_row (if plus then f else complement f)
  simple d (equal f) plus = if plus then simple_equal f else simple_apart f
  simple d (bool_var v) plus = literal plus (bool_var v) (d.truths v)
  simple d (at l) plus = literal plus (at l) (d.places l)
  simple d (negation f) plus = simple d f (not plus)
  simple d (every fs) plus = joined_parts plus (gathered plus (simples d fs plus))
  simple d (some fs) plus = joined_parts (not plus) (gathered (not plus) (simples d fs plus))

  pub simples : Decided → Formulas → Bool → Formulas
  simples d none plus = none
  simples d (more f fs) plus = more (simple d f plus) (simples d fs plus)

-- a truth value under a sign
abbrev pub under : Bool → Bool → Bool
under true b = b
under false b = not b

-- a situation has the decided truth values
pub record Agrees (s : Situation) (d : Decided) : Type 0 where
  pub truths : (v : ℕ) (b : Bool) → d.truths v ≡ Some b → s.truths v ≡ b
  pub places : (l : ℕ) (b : Bool) → d.places l ≡ Some b → s.located l ≡ b

abbrev mutual
  -- the constants are below 2^99 in size
  pub IsModest : Formula → Type 0
  IsModest (truth_value b) = Unit {0}
  IsModest (row f) = unsigned_abs f.constant < 2 ^ 99
  IsModest (equal f) = unsigned_abs f.constant < 2 ^ 99
  IsModest (bool_var v) = Unit {0}
  IsModest (at l) = Unit {0}
  IsModest (negation f) = IsModest f
  IsModest (every fs) = AreModest fs
  IsModest (some fs) = AreModest fs

  pub AreModest : Formulas → Type 0
  AreModest none = Unit {0}
  AreModest (more f fs) = IsModest f × AreModest fs

-- what a part leaves behind others
abbrev pub TakesPart : Bool → Formulas → Formulas → Option Formulas → Type 0
TakesPart goes old new None = goes ≡ false
TakesPart goes old new (Some gs) = (goes ≡ true) × (new ≡ append old gs)

-- the law of simplification: where the decisions are right, the simplified formula has the formula's truth value under the sign
abbrev pub KeepsTruth : Type 0
KeepsTruth = (d : Decided) (f : Formula) (plus : Bool) (s : Situation) → Agrees s d → truth s (simple d f plus) ≡ under plus (truth s f)
