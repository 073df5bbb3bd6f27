-- Sizes that keep the check within 128 bits. A condition's numbers are below 2^69. After the first simplification signs
-- stand before literals alone, so no later simplification turns a comparison again, and every row stays below 2^70; a sum
-- of 4,096 multiples below 2^40 then stays below 2^122.
use Rattle.std.specs.Prelude.{◌<◌, ◌≤◌, ◌^◌, List, [], ◌∷◌, length, All, unsigned_abs, Option, Some, None}
use Rattle.st_linear.specs.Linear.{Linear}
use Rattle.st_linear.specs.Linear.{IsSlim}
use Rattle.st_form.specs.Formula.{Formula, Formulas, truth_value, row, equal, bool_var, at, negation, every, some, none, more}
use Rattle.st_certificate.specs.Tree.{Step, by_cut, Tree, Trees, impossible, branch, farkas, linear, no_tree, with_tree}
use Rattle.farkas_check.specs.Problem.{Problem}

-- each number is below 2^69 in size
pub record IsSlight (f : Linear) : Type 0 where
  pub constant : unsigned_abs f.constant < 2 ^ 69
  pub entries : All (λ e. unsigned_abs e.1 < 2 ^ 69) f.entries

abbrev mutual
  -- each number of a formula is below 2^69 in size
  pub IsNarrow : Formula → Type 0
  IsNarrow (truth_value b) = Unit {0}
  IsNarrow (row f) = IsSlight f
  IsNarrow (equal f) = IsSlight f
  IsNarrow (bool_var v) = Unit {0}
  IsNarrow (at l) = Unit {0}
  IsNarrow (negation f) = IsNarrow f
  IsNarrow (every fs) = AreNarrow fs
  IsNarrow (some fs) = AreNarrow fs

  pub AreNarrow : Formulas → Type 0
  AreNarrow none = Unit {0}
  AreNarrow (more f fs) = IsNarrow f × AreNarrow fs

abbrev pub IsLiteral : Formula → Type 0
IsLiteral (bool_var v) = Unit {0}
IsLiteral (at l) = Unit {0}
IsLiteral f = ⊥

abbrev mutual
  -- each number is below 2^70 in size, and only literals are negated
  pub IsSettled : Formula → Type 0
  IsSettled (truth_value b) = Unit {0}
  IsSettled (row f) = IsSlim f
  IsSettled (equal f) = IsSlim f
  IsSettled (bool_var v) = Unit {0}
  IsSettled (at l) = Unit {0}
  IsSettled (negation f) = IsLiteral f
  IsSettled (every fs) = AreSettled fs
  IsSettled (some fs) = AreSettled fs

  pub AreSettled : Formulas → Type 0
  AreSettled none = Unit {0}
  AreSettled (more f fs) = IsSettled f × AreSettled fs

abbrev pub AreFit : Option Formulas → Type 0
AreFit None = Unit {0}
AreFit (Some fs) = AreSettled fs

abbrev pub AllFit : List Problem → Type 0
AllFit [] = Unit {0}
AllFit (p ∷ ps) = AreFit p.conjuncts × AllFit ps

abbrev pub DivisionFits : Option (List Problem) → Type 0
DivisionFits None = Unit {0}
DivisionFits (Some ps) = AllFit ps

abbrev pub IsLimitedStep : Step → Type 0
IsLimitedStep (by_cut f) = IsSlight f
IsLimitedStep s = Unit {0}

abbrev mutual
  -- numbers of cuts, multipliers and picks are within their limits
  pub IsLimited : Tree → Type 0
  IsLimited impossible = Unit {0}
  IsLimited (branch s ts) = IsLimitedStep s × AreLimited ts
  IsLimited (farkas ps) = All (λ p. p.1 < 2 ^ 40) ps × (length ps ≤ 4096)
  IsLimited (linear ps) = All (λ p. unsigned_abs p.1 < 2 ^ 40) ps × (length ps ≤ 4096)

  pub AreLimited : Trees → Type 0
  AreLimited no_tree = Unit {0}
  AreLimited (with_tree t ts) = IsLimited t × AreLimited ts
