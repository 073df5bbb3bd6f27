-- Stores of the program as stores: a variable has the value of its datum.
use Rattle.std.specs.Prelude.{◌≡◌, ◌≤◌, ℕ, Bool, length, true, false, List, [], ◌∷◌, map, slice_get, ℤ, pos, Option, Some, None, ⊤}
use Rattle.st_form.specs.Formula.{Situation}
use Rattle.st_form.specs.Exchange.{is_listed}
use Rattle.st_form.specs.declared.variables.Variable.{Variable}
use Rattle.st_program.specs.declared.residuals.Datum.{Datum}
use Rattle.st_program.specs.declared.residuals.Datum.TheVariants.{Number, Truth}
use Rattle.st_program.specs.Tree.{Term, number, truth, Piece, Pieces, piece_skip, piece_assign, piece_await, piece_if, no_piece, piece, Statement, stated, Action, skip, assign, request, release, block, select, group, Statements, no_statement, statement}
use Rattle.st_program.specs.Groups.{paths_along}
use Rattle.st_program.specs.Types.{is_truth, IsNoTarget}
use Rattle.st_program.specs.Residuals.{Rest, Done, Run, Then, Again, Inside}
use Rattle.spl_semantics.specs.Stores.{Store, situation, holds}
use Rattle.st_linear.specs.Linear.{value}

-- the number of a datum, and its truth value; 0 and false where there is none
abbrev pub number_in : Option Datum → ℤ
number_in None = pos 0
number_in (Some (Number z)) = z
number_in (Some (Truth b)) = pos 0

abbrev pub truth_in : Option Datum → Bool
truth_in None = false
truth_in (Some (Number z)) = false
truth_in (Some (Truth b)) = b

abbrev pub store_of : List Datum → Store
store_of ds = record { numbers = λ v. number_in (slice_get ds v); truths = λ v. truth_in (slice_get ds v) }

-- what is seen of the store, with control at these locations
abbrev pub seen_at : List Datum → List ℕ → Situation
seen_at store fronts = situation (store_of store) (λ l. is_listed l fronts)

-- what a right side gives
abbrev pub datum_of : Term → Store → Datum
datum_of (number f) s = Number (value s.numbers f)
datum_of (truth f) s = Truth (holds f s)

abbrev pub is_boolean : Datum → Bool
is_boolean (Number z) = false
is_boolean (Truth b) = true

abbrev pub types : List Datum → List Bool
types ds = map is_boolean ds

-- a store has a datum of its type for each variable
abbrev pub StoreFits : List Variable → List Datum → Type 0
StoreFits vs ds = types ds ≡ map (λ v. v.truth) vs

-- targets are distinct, and each has its right side's type
abbrev pub TargetsMeet : List Bool → List (ℕ × Term) → Type 0
TargetsMeet ts [] = ⊤
TargetsMeet ts (x ∷ xs) = (slice_get ts x.0 ≡ Some (is_truth x.1)) × IsNoTarget x.0 xs × TargetsMeet ts xs

abbrev mutual
  pub PieceMeets : List Bool → Piece → Type 0
  PieceMeets ts piece_skip = ⊤
  PieceMeets ts (piece_assign xs) = TargetsMeet ts xs
  PieceMeets ts (piece_await t) = ⊤
  PieceMeets ts (piece_if t y n) = PiecesMeet ts y × PiecesMeet ts n

  pub PiecesMeet : List Bool → Pieces → Type 0
  PiecesMeet ts no_piece = ⊤
  PiecesMeet ts (piece x xs) = PieceMeets ts x × PiecesMeet ts xs

-- what a statement can do first finds its targets, and a group has few paths
abbrev mutual
  pub FirstMeets : List Bool → Statement → Type 0
  FirstMeets ts (stated o l a) = OwnMeets ts a

  pub OwnMeets : List Bool → Action → Type 0
  OwnMeets ts skip = ⊤
  OwnMeets ts (assign xs) = TargetsMeet ts xs
  OwnMeets ts (request v) = slice_get ts v ≡ Some false
  OwnMeets ts (release v) = slice_get ts v ≡ Some false
  OwnMeets ts (block ss) = AlongMeets ts ss
  OwnMeets ts (select ss) = AmongMeet ts ss
  OwnMeets ts (group xs) = PiecesMeet ts xs × (length (paths_along xs) ≤ 64)
  OwnMeets ts _ = ⊤

  pub AlongMeets : List Bool → Statements → Type 0
  AlongMeets ts no_statement = ⊤
  AlongMeets ts (statement s ss) = FirstMeets ts s

  pub AmongMeet : List Bool → Statements → Type 0
  AmongMeet ts no_statement = ⊤
  AmongMeet ts (statement s ss) = FirstMeets ts s × AmongMeet ts ss

-- nothing is left
abbrev pub is_done : Rest → Bool
is_done Done = true
is_done (Run n) = false
is_done (Then r b k) = false
is_done (Again r w) = false
is_done (Inside c rs) = false
