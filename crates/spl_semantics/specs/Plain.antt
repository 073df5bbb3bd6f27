-- Steps of the program as plain data.
use Rattle.std.specs.Prelude.{◌≡◌, ℕ, Bool, List, [], ◌∷◌, map, ⊤, Option, Some, None}
use Rattle.std.specs.declared.vec.Vec.{Vec}
use Rattle.std.specs.declared.alloc.Global.{Global}
use Rattle.st_program.specs.declared.residuals.Datum.{Datum}
use Rattle.st_program.specs.declared.residuals.Residual as GResidual
use Rattle.st_program.specs.Residuals.{Rest, Rests, rests, plain_residual, plain_residuals}
use Rattle.spl_semantics.specs.declared.acts.Act.{Act}
use Rattle.spl_semantics.specs.declared.acts.Move.{Move}
use Rattle.st_program.specs.declared.residuals.State as GState
use Rattle.spl_semantics.specs.Runs.{State}
use Rattle.spl_semantics.specs.Going as going
use Rattle.spl_semantics.specs.Data.{store_of, types}
use Rattle.spl_semantics.specs.Walks.{Walk}

abbrev pub plain_act : Act → going.Act Rest
plain_act a = record { name = a.name; mode = a.mode; left = plain_residual a.left; store = store_of a.store.items }

abbrev pub plain_acts : List Act → List (going.Act Rest)
plain_acts xs = map plain_act xs

abbrev pub plain_move : Move → going.Act Rests
plain_move m = record { name = m.name; mode = m.mode; left = plain_residuals m.state.residuals.items; store = store_of m.state.store.items }

abbrev pub plain_moves : List Move → List (going.Act Rests)
plain_moves xs = map plain_move xs

-- the data of the stores behind steps
abbrev pub act_stores : List Act → List (List Datum)
act_stores xs = map (λ a. a.store.items) xs

abbrev pub move_stores : List Move → List (List Datum)
move_stores xs = map (λ m. m.state.store.items) xs

-- each of these stores has data of these types
abbrev pub AllOfTypes : List Bool → List (List Datum) → Type 0
AllOfTypes ts [] = ⊤
AllOfTypes ts (ds ∷ rest) = (types ds ≡ ts) × AllOfTypes ts rest

-- a state of the program as a state of its runs
abbrev pub plain_state : GState.State → State
plain_state s = record { left = plain_residuals s.residuals.items; store = store_of s.store.items }

-- the walk through a group
abbrev pub plain_walk : Option (ℕ × Vec Datum Global) → Walk
plain_walk None = None
plain_walk (Some w) = Some (w.0, store_of w.1.items)

abbrev pub WalkOfTypes : List Bool → Option (ℕ × Vec Datum Global) → Type 0
WalkOfTypes ts None = ⊤
WalkOfTypes ts (Some w) = types w.1.items ≡ ts

-- residuals in front of others
abbrev pub in_front : List GResidual.Residual → Rests → Rests
in_front [] rs = rs
in_front (x ∷ xs) rs = rests (plain_residual x) (in_front xs rs)
