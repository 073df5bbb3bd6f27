-- Grouped statements: their paths, and what a path amounts to.
--
-- A path chooses a branch at each conditional that it meets; it is a list of tests with the values that they must have,
-- and of assignments. Composed along a path, each test and right side is a form over the store before the step. Paths
-- are ordered by their choices, the true branch before the false one, the first choice weighing most.
use Rattle.std.specs.Prelude.{ℕ, ◌^◌, Bool, true, false, ◌&&◌, ◌==◌, nat_lt, nat_le, if◌then◌else◌, List, [], ◌∷◌, ◌++◌, map, flat_map, length, ℤ, unsigned_abs, ◌≤◌, Option, Some, None, IsSome, option_and_then}
use Rattle.std.specs.Option.{option_map}
use Rattle.st_linear.specs.Linear.{Linear, replaced}
use Rattle.st_form.specs.Formula.{Formula, negation}
use Rattle.st_form.specs.Exchange.{Exchange, exchanged}
use Rattle.st_program.specs.Tree.{Term, number, truth, Piece, Pieces, piece_skip, piece_assign, piece_await, piece_if, no_piece, piece}
use Rattle.st_program.specs.Member.{Member}

-- a test that must have this value, or an assignment
pub data Link : Type 0 where
  tested : Formula → Bool → Link
  given : List (ℕ × Term) → Link

-- the paths through a statement, and through a list of them
abbrev mutual
  pub paths : Piece → List (List Link)
  paths piece_skip = [] ∷ []
  paths (piece_assign xs) = (given xs ∷ []) ∷ []
  paths (piece_await t) = (tested t true ∷ []) ∷ []
  paths (piece_if t y n) =
      map (λ path. tested t true ∷ path) (paths_along y) ++ map (λ path. tested t false ∷ path) (paths_along n)

  pub paths_along : Pieces → List (List Link)
  paths_along no_piece = [] ∷ []
  paths_along (piece x xs) = flat_map (λ path. map (λ further. path ++ further) (paths_along xs)) (paths x)

-- a value in its place by rising variable; it replaces an earlier one
abbrev pub inserted : {X : Type 0} → ℕ → X → List (ℕ × X) → List (ℕ × X)
inserted v x [] = (v, x) ∷ []
inserted v x (p ∷ ps) =
    if nat_lt v p.0 then (v, x) ∷ p ∷ ps
    else (if v == p.0 then (v, x) ∷ ps
    else p ∷ inserted v x ps)

-- the composed tests so far, and the composed values that stand, by rising variable
pub record Composed : Type 0 where
  pub tests : List Formula
  pub numbers : List (ℕ × Linear)
  pub truths : List (ℕ × Formula)

abbrev pub nothing_composed : Composed
nothing_composed = record { tests = []; numbers = []; truths = [] }

abbrev pub exchange_of : Composed → Exchange
exchange_of c = record { numbers = c.numbers; truths = c.truths; leaves = []; enters = [] }

-- a number as the texts may write it
unfoldable pub is_written_number : ℤ → Bool
is_written_number z = nat_le (unsigned_abs z) (2 ^ 30)

abbrev pub are_written : List (ℕ × ℤ) → Bool
are_written [] = true
are_written (e ∷ es) = is_written_number e.1 && are_written es

abbrev pub is_written : Linear → Bool
is_written f = is_written_number f.constant && are_written f.entries

abbrev pub if_written : Linear → Option Linear
if_written f = if is_written f then Some f else None

-- a right side over the store before the step; its numbers stay as small as written ones
abbrev pub composed_term : Composed → Term → Option Term
composed_term c (number f) = option_map number (option_and_then if_written (replaced c.numbers f))
composed_term c (truth f) = option_map truth (exchanged (exchange_of c) f)

abbrev pub put : ℕ → Term → Composed → Composed
put v (number f) c = record { tests = c.tests; numbers = inserted v f c.numbers; truths = c.truths }
put v (truth f) c = record { tests = c.tests; numbers = c.numbers; truths = inserted v f c.truths }

-- all right sides are read before the first value is put
abbrev pub put_all : Composed → List (ℕ × Term) → Composed → Option Composed
put_all before [] c = Some c
put_all before (x ∷ xs) c = option_and_then (λ term. put_all before xs (put x.0 term c)) (composed_term before x.1)

abbrev pub signed : Bool → Formula → Formula
signed true f = f
signed false f = negation f

abbrev pub met : Formula → Composed → Composed
met f c = record { tests = c.tests ++ f ∷ []; numbers = c.numbers; truths = c.truths }

abbrev pub composed_link : Link → Composed → Option Composed
composed_link (tested f b) c = option_map (λ g. met (signed b g) c) (exchanged (exchange_of c) f)
composed_link (given xs) c = put_all c xs c

-- what a path amounts to behind what is composed before it, if its numbers stay small
abbrev pub composed : List Link → Composed → Option Composed
composed [] c = Some c
composed (link ∷ path) c = option_and_then (composed path) (composed_link link c)

-- a group has at most 64 paths, and the numbers on each of them stay as small as written ones
pub record GroupFits (xs : Pieces) : Type 0 where
  pub few : length (paths_along xs) ≤ 64
  pub small : (path : List Link) → Member path (paths_along xs) → IsSome (composed path nothing_composed)
