-- How a list of lines grows while it is sifted: one line at a time, as the code does it. Nobody has to believe this.
use Rattle.std.specs.Prelude.{◌≡◌, ℕ, Option, Some, None, Result, Ok, Err, List, [], ◌∷◌, ◌++◌, length, nat_lt, if◌then◌else◌, false, Vec, ◌<◌, ◌+◌, slice_index_or, take, drop, map, ◌≤◌, ℤ, true, vec_len}
use Rattle.elimination_laws.specs.Mixing.{Tracked, part, is_up, is_down}
use Rattle.st_linear.specs.Linear.{is_zero}
use Rattle.elimination_laws.specs.Stages.{Judgement, stays, goes, clashes, judged, Sifted, list, clash, wide, Use, by_equation, by_bounds, forms, solver, others, kept_by, is_free, bounds_below, bounds_above}
use Rattle.row_elimination.specs.declared.row.Row.{Row}
use Rattle.row_elimination.specs.declared.halt.Halt.{Halt}
use Rattle.row_elimination.specs.declared.halt.Halt.TheVariants.{Clash, Wide, Memory}
use Rattle.row_elimination.specs.Plain.{tracked_row, rows}
use Rattle.std.specs.Global.{Global}
use Rattle.row_elimination.specs.declared.stage.Used.{Used}
use Rattle.row_elimination.specs.declared.stage.Used.TheVariants.{Equation, Bounds}
use Rattle.row_elimination.specs.declared.stage.Stage.{Stage}
use Rattle.row_elimination.specs.declared.stage.Sorted.{Sorted}
use Rattle.row_elimination.specs.declared.stage.Side.{Side}
use Rattle.row_elimination.specs.declared.stage.Side.TheVariants.{Free, Below, Above}

abbrev pub placed_by : Judgement → List Tracked → Tracked → Sifted
placed_by stays ts t = if nat_lt (length ts) 4096 then list (ts ++ t ∷ []) else wide
placed_by goes ts t = list ts
placed_by (clashes ps) ts t = clash ps

-- a list, and one more line that is made
abbrev pub placed_on : List Tracked → Tracked → Sifted
placed_on ts t = placed_by (judged t) ts t

abbrev pub placed_next : List Tracked → Option Tracked → Sifted
placed_next ts None = wide
placed_next ts (Some t) = placed_on ts t

abbrev pub then_sifted : Sifted → (List Tracked → Sifted) → Sifted
then_sifted (list ts) f = f ts
then_sifted (clash ps) f = clash ps
then_sifted wide f = wide

-- a list, and more lines that are made
abbrev pub sift_from : List Tracked → List (Option Tracked) → Sifted
sift_from ts [] = list ts
sift_from ts (m ∷ ms) = then_sifted (placed_next ts m) (λ us. sift_from us ms)

abbrev pub Halts : Halt → Sifted → Type 0
Halts (Clash ps) s = s ≡ clash ps.items
Halts Wide s = s ≡ wide
Halts Memory s = Unit {0}

-- an answer: the list is now new, or why there is none
abbrev pub Places : {A : Type 0} → Result A Halt → List Tracked → Sifted → Type 0
Places (Ok x) new s = s ≡ list new
Places (Err halt) new s = Halts halt s

abbrev pub GivesRows : Result (Vec Row Global) Halt → Sifted → Type 0
GivesRows (Ok v) s = s ≡ list (rows v.items)
GivesRows (Err halt) s = Halts halt s

-- each line has the variable
abbrev pub HaveAll : ℕ → List Row → Type 0
HaveAll v [] = Unit {0}
HaveAll v (r ∷ rs) = (is_zero (part v r.entries.items) ≡ false) × HaveAll v rs

abbrev pub use_plain : Used → Use
use_plain (Equation r) = by_equation (tracked_row r).form
use_plain (Bounds ls us) = by_bounds (forms (rows ls.items)) (forms (rows us.items))

abbrev pub GivesStage : Result Stage Halt → Sifted → Use → Type 0
GivesStage (Ok stage) s u = (s ≡ list (rows stage.next.items)) × (use_plain stage.used ≡ u)
GivesStage (Err halt) s u = Halts halt s

-- the place of the first equation with the variable
pub record IsSolver (v : ℕ) (ls : List Row) (k : ℕ) : Type 0 where
  pub within : k < length ls
  pub here : (d : Row) → solver v (rows ls) ≡ Some (tracked_row (slice_index_or ls k d))
  pub rest : others v (rows ls) ≡ rows (take k ls ++ drop (k + 1) ls)

abbrev pub IsSide : ℤ → Side → Type 0
IsSide a Free = is_zero a ≡ true
IsSide a Below = is_up a ≡ true
IsSide a Above = is_down a ≡ true

pub record IsSorted (v : ℕ) (ts : List Tracked) (s : Sorted) : Type 0 where
  pub free : sift_from [] (map Some (kept_by (is_free v) ts)) ≡ list (rows s.next.items)
  pub room : vec_len s.next ≤ 4096
  pub lower : rows s.lowers.items ≡ kept_by (bounds_below v) ts
  pub upper : rows s.uppers.items ≡ kept_by (bounds_above v) ts
  pub lower_have : HaveAll v s.lowers.items
  pub upper_have : HaveAll v s.uppers.items

abbrev pub GivesSorted : Result Sorted Halt → ℕ → List Tracked → Type 0
GivesSorted (Ok s) v ts = IsSorted v ts s
GivesSorted (Err halt) v ts = Halts halt (sift_from [] (map Some (kept_by (is_free v) ts)))
