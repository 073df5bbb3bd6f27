-- Forms and statements that use each variable by its type, with numbers as small as the texts write them.
use Rattle.std.specs.Prelude.{◌≡◌, ◌≢◌, ℕ, suc, ◌^◌, ◌<◌, Bool, true, false, List, [], ◌∷◌, slice_get, unsigned_abs, ℤ, Option, Some, ⊤}
use Rattle.std.specs.Option.{option_map}
use Rattle.st_linear.specs.Linear.{Linear, AreEntries}
use Rattle.st_form.specs.Formula.{Formula, Formulas, truth_value, row, equal, bool_var, at, negation, every, some, none, more}
use Rattle.st_form.specs.declared.variables.Variable.{Variable}
use Rattle.st_program.specs.Tree.{Term, number, truth, Piece, Pieces, piece_skip, piece_assign, piece_await, piece_if, no_piece, piece, Action, skip, critical, noncritical, assign, await, request, release, if_then, if_else, while_do, block, select, cooperate, group}
use Rattle.st_program.specs.Groups.{GroupFits}

-- whether a variable is boolean, if it is one of the list
abbrev pub type_of : List Variable → ℕ → Option Bool
type_of vs v = option_map (λ x. x.truth) (slice_get vs v)

-- each entry is of an integer variable and below the bound in size
abbrev pub EntriesFit : List Variable → ℕ → List (ℕ × ℤ) → Type 0
EntriesFit vs bound [] = ⊤
EntriesFit vs bound (e ∷ es) = (type_of vs e.0 ≡ Some false) × (unsigned_abs e.1 < bound) × EntriesFit vs bound es

-- variables rise in it, as in every form
pub record LinearFits (vs : List Variable) (bound : ℕ) (f : Linear) : Type 0 where
  pub rising : AreEntries f.entries
  pub constant : unsigned_abs f.constant < bound
  pub entries : EntriesFit vs bound f.entries

-- a formula that speaks of variables alone
abbrev mutual
  pub FormulaFits : List Variable → ℕ → Formula → Type 0
  FormulaFits vs bound (truth_value b) = ⊤
  FormulaFits vs bound (row f) = LinearFits vs bound f
  FormulaFits vs bound (equal f) = LinearFits vs bound f
  FormulaFits vs bound (bool_var v) = type_of vs v ≡ Some true
  FormulaFits vs bound (at l) = ⊥
  FormulaFits vs bound (negation f) = FormulaFits vs bound f
  FormulaFits vs bound (every fs) = FormulasFit vs bound fs
  FormulaFits vs bound (some fs) = FormulasFit vs bound fs

  pub FormulasFit : List Variable → ℕ → Formulas → Type 0
  FormulasFit vs bound none = ⊤
  FormulasFit vs bound (more f fs) = FormulaFits vs bound f × FormulasFit vs bound fs

-- the numbers of a written comparison are below 2^32 in size, those of a right side at most 2^30
abbrev pub TestFits : List Variable → Formula → Type 0
TestFits vs t = FormulaFits vs (2 ^ 32) t

abbrev pub TermFits : List Variable → Term → Type 0
TermFits vs (number f) = LinearFits vs (suc (2 ^ 30)) f
TermFits vs (truth f) = TestFits vs f

abbrev pub is_truth : Term → Bool
is_truth (number f) = false
is_truth (truth f) = true

-- the program may change the variable, which has this type
abbrev pub MayChange : List Variable → ℕ → Bool → Type 0
MayChange vs v boolean = slice_get vs v ≡ Some (record { input = false; truth = boolean })

abbrev pub IsNoTarget : ℕ → List (ℕ × Term) → Type 0
IsNoTarget v [] = ⊤
IsNoTarget v (x ∷ xs) = (x.0 ≢ v) × IsNoTarget v xs

-- targets are distinct, may be changed, and have their right sides' types
abbrev pub TargetsFit : List Variable → List (ℕ × Term) → Type 0
TargetsFit vs [] = ⊤
TargetsFit vs (x ∷ xs) = MayChange vs x.0 (is_truth x.1) × TermFits vs x.1 × IsNoTarget x.0 xs × TargetsFit vs xs

abbrev mutual
  pub PieceFits : List Variable → Piece → Type 0
  PieceFits vs piece_skip = ⊤
  PieceFits vs (piece_assign xs) = TargetsFit vs xs
  PieceFits vs (piece_await t) = TestFits vs t
  PieceFits vs (piece_if t y n) = TestFits vs t × PiecesFit vs y × PiecesFit vs n

  pub PiecesFit : List Variable → Pieces → Type 0
  PiecesFit vs no_piece = ⊤
  PiecesFit vs (piece x xs) = PieceFits vs x × PiecesFit vs xs

-- what a statement itself uses, what stands in it left out
abbrev pub ActionFits : List Variable → Action → Type 0
ActionFits vs skip = ⊤
ActionFits vs critical = ⊤
ActionFits vs noncritical = ⊤
ActionFits vs (assign xs) = TargetsFit vs xs
ActionFits vs (await t) = TestFits vs t
ActionFits vs (request v) = MayChange vs v false
ActionFits vs (release v) = MayChange vs v false
ActionFits vs (if_then t y) = TestFits vs t
ActionFits vs (if_else t y n) = TestFits vs t
ActionFits vs (while_do t b) = TestFits vs t
ActionFits vs (block ss) = ⊤
ActionFits vs (select ss) = ⊤
ActionFits vs (cooperate ps) = ⊤
ActionFits vs (group xs) = PiecesFit vs xs × GroupFits xs
