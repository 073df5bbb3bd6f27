-- Where a value is too large to be computed.
--
-- A form is evaluated from its constant on, entry after entry. It is wide where a product or a partial sum on the way has
-- size 2^126 or more. What is evaluated in a state are the tests and right sides at its front, each whole; and in a group
-- those that are met on a walk up to its first test that is false there.
use Rattle.std.specs.Prelude.{ℕ, Bool, false, ◌||◌, if◌then◌else◌, List, [], ◌∷◌, ℤ, ◌+ℤ◌, ◌*ℤ◌, Option, Some, None}
use Rattle.std.specs.List.{list_any}
use Rattle.st_linear.specs.Linear.{Linear, is_wide}
use Rattle.st_form.specs.Formula.{Formula, Formulas, truth_value, row, equal, bool_var, at, negation, every, some, none, more}
use Rattle.st_program.specs.Tree.{Term, number, truth, Statement, stated, Action, skip, critical, noncritical, assign, await, request, release, if_then, if_else, while_do, block, select, cooperate, group, Statements, no_statement, statement, Processes}
use Rattle.st_program.specs.Groups.{Link, tested, given, paths_along}
use Rattle.st_program.specs.Spots.{Spot, spot}
use Rattle.st_program.specs.Residuals.{Rest, Done, Run, Then, Again, Inside, Rests, no_rest, rests}
use Rattle.spl_semantics.specs.Stores.{Store, holds, assigned, one_less, one_more, is_wanted}

-- a product or a sum on the way is wide, z being the sum so far
abbrev pub wide_on : (ℕ → ℤ) → List (ℕ × ℤ) → ℤ → Bool
wide_on store [] z = false
wide_on store (e ∷ es) z =
    is_wide (e.1 *ℤ store e.0) || (is_wide (z +ℤ e.1 *ℤ store e.0) || wide_on store es (z +ℤ e.1 *ℤ store e.0))

abbrev pub wide_form : Linear → Store → Bool
wide_form f s = wide_on s.numbers f.entries f.constant

-- some form of the formula is wide
abbrev mutual
  pub wide_formula : Formula → Store → Bool
  wide_formula (truth_value b) s = false
  wide_formula (row f) s = wide_form f s
  wide_formula (equal f) s = wide_form f s
  wide_formula (bool_var v) s = false
  wide_formula (at l) s = false
  wide_formula (negation f) s = wide_formula f s
  wide_formula (every fs) s = wide_formulas fs s
  wide_formula (some fs) s = wide_formulas fs s

  pub wide_formulas : Formulas → Store → Bool
  wide_formulas none s = false
  wide_formulas (more f fs) s = wide_formula f s || wide_formulas fs s

abbrev pub wide_term : Term → Store → Bool
wide_term (number f) s = wide_form f s
wide_term (truth f) s = wide_formula f s

abbrev pub wide_targets : List (ℕ × Term) → Store → Bool
wide_targets [] s = false
wide_targets (x ∷ xs) s = wide_term x.1 s || wide_targets xs s

-- met on the walk of a path
abbrev pub wide_path : List Link → Store → Bool
wide_path [] s = false
wide_path (tested f b ∷ path) s = wide_formula f s || (if is_wanted b (holds f s) then wide_path path s else false)
wide_path (given xs ∷ path) s = wide_targets xs s || wide_path path (assigned xs s)

abbrev pub wide_paths : List (List Link) → Store → Bool
wide_paths paths s = list_any (λ path. wide_path path s) paths

-- what a statement can do first
abbrev mutual
  pub wide_first : Statement → Store → Bool
  wide_first (stated o l a) s = wide_own a s

  pub wide_own : Action → Store → Bool
  wide_own skip s = false
  wide_own critical s = false
  wide_own noncritical s = false
  wide_own (assign xs) s = wide_targets xs s
  wide_own (await t) s = wide_formula t s
  wide_own (request v) s = wide_form (one_less v) s
  wide_own (release v) s = wide_form (one_more v) s
  wide_own (if_then t y) s = wide_formula t s
  wide_own (if_else t y n) s = wide_formula t s
  wide_own (while_do t b) s = wide_formula t s
  wide_own (block ss) s = wide_along ss s
  wide_own (select ss) s = wide_among ss s
  wide_own (cooperate ps) s = false
  wide_own (group xs) s = wide_paths (paths_along xs) s

  pub wide_along : Statements → Store → Bool
  wide_along no_statement s = false
  wide_along (statement x ss) s = wide_first x s

  pub wide_among : Statements → Store → Bool
  wide_among no_statement s = false
  wide_among (statement x ss) s = wide_first x s || wide_among ss s

abbrev pub wide_at : Option Spot → Store → Bool
wide_at None s = false
wide_at (Some x) s = wide_first x.stmt s

-- at the front of what is left
abbrev mutual
  pub wide_rest : Rest → Processes → Store → Bool
  wide_rest Done p s = false
  wide_rest (Run n) p s = wide_at (spot p n) s
  wide_rest (Then r b k) p s = wide_rest r p s
  wide_rest (Again r w) p s = wide_rest r p s
  wide_rest (Inside c rs) p s = wide_rests rs p s

  pub wide_rests : Rests → Processes → Store → Bool
  wide_rests no_rest p s = false
  wide_rests (rests r rs) p s = wide_rest r p s || wide_rests rs p s
