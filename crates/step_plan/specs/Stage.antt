-- What a stage of a run comes to: a value to go on with, or the run's end.
use Rattle.std.specs.Prelude.{ℕ, List, ◌≡◌}
use Rattle.std.specs.declared.vec.Vec.{Vec}
use Rattle.std.specs.declared.alloc.Global.{Global}
use Rattle.step_plan.specs.declared.stage.Stage.{Stage}
use Rattle.step_plan.specs.declared.stage.Stage.TheVariants.{On, Over}
use Rattle.step_plan.specs.Outcome.{ended_view, IsDecided}
use Rattle.step_plan.specs.Plan.{Told, Counts, Plan, ends, goes_on, LeadsTo, Follows}

-- a stage that follows a plan
abbrev pub Comes : {V A : Type 0} → (V → A) → Told → Counts → Counts → Plan A → Stage V → Type 0
Comes view told before now plan (On v) = (now ≡ before) × LeadsTo told plan (view v)
Comes view told before now plan (Over ended) = Follows told before now plan ended

-- a stage over texts, that asks for no file
abbrev pub Settles : {V A : Type 0} → (V → A) → Plan A → Stage V → Type 0
Settles view plan (On v) = plan ≡ goes_on (view v)
Settles view plan (Over ended) = (plan ≡ ends (ended_view ended)) × IsDecided ended.status

-- the bytes of a file
abbrev pub bytes_view : Vec ℕ Global → List ℕ
bytes_view bytes = bytes.items

-- so it is of the value with which the run goes on
abbrev pub IfOn : {V : Type 0} → Stage V → (V → Type 0) → Type 0
IfOn (On v) P = P v
IfOn (Over ended) P = Unit {0}
