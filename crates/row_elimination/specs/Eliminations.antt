-- What an elimination answers: which it is, and what it means.
use Rattle.std.specs.Prelude.{◌≡◌, ℕ, Option, Some, None, List, [], ◌∷◌, ℤ, pos, Vec, slice_index_or, Result, Ok, IfOk}
use Rattle.std.specs.Option.{option_map}
use Rattle.std.specs.Global.{Global}
use Rattle.st_linear.specs.Linear.{AllBelow}
use Rattle.st_linear.specs.declared.rows.Line.{Line}
use Rattle.elimination_laws.specs.Stages.{Use, through, contradiction, ending}
use Rattle.farkas_leaf.specs.Lines.{Closes, HaveNoSolution, AllHold}
use Rattle.elimination_laws.specs.Laws.{IsLimited, HaveNoRefutation}
use Rattle.row_elimination.specs.declared.top.Elimination.{Elimination}
use Rattle.row_elimination.specs.declared.top.Elimination.TheVariants.{Contradiction, NoContradiction, Wide}
use Rattle.st_memory.specs.declared.Memory.{Memory}
use Rattle.row_elimination.specs.declared.top.Stop.{Stop}
use Rattle.row_elimination.specs.declared.top.Stop.TheVariants as stop
use Rattle.row_elimination.specs.Runs.{StopsAt}
use Rattle.elimination_laws.specs.Points.{point_of}

-- each variable is below n
abbrev pub AreBelow : ℕ → List Line → Type 0
AreBelow n [] = Unit {0}
AreBelow n (l ∷ ls) = AllBelow n l.form.entries × AreBelow n ls

-- the answer is the one that is defined
abbrev pub IsElimination : List Line → ℕ → Elimination → Type 0
IsElimination lines n (Contradiction ps) = ending lines n ≡ contradiction ps.items
IsElimination lines n (NoContradiction point) = (us : List Use) × (ending lines n ≡ through us) × (option_map (λ v. v.items) point ≡ point_of lines n us)
IsElimination lines n (Wide stage) = StopsAt stage (ending lines n)

abbrev pub HoldAt : List Line → Option (Vec ℤ Global) → Type 0
HoldAt lines None = Unit {0}
HoldAt lines (Some v) = AllHold (λ k. slice_index_or v.items k (pos 0)) lines

-- what an answer means
abbrev pub IsSound : List Line → Elimination → Type 0
IsSound lines (Contradiction ps) = Closes lines ps.items × IsLimited ps.items × HaveNoSolution lines
IsSound lines (NoContradiction point) = HaveNoRefutation lines × HoldAt lines point
IsSound lines (Wide stage) = Unit {0}

abbrev pub StopGives : Stop → Result Elimination Memory → Type 0
StopGives (stop.Clash ps) r = r ≡ Ok (Contradiction ps)
StopGives (stop.Wide w) r = r ≡ Ok (Wide w)
StopGives stop.Memory r = IfOk r (λ e. ⊥)
