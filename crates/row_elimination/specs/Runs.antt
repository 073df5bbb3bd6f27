-- The stops of the code, and the plain data of what it keeps on its way.
use Rattle.std.specs.Prelude.{◌≡◌, ℕ, ◌^◌, Result, Ok, Err, List, [], ◌∷◌, map, pos, IsTrue, Vec}
use Rattle.std.specs.Global.{Global}
use Rattle.st_linear.specs.declared.rows.Line.{Line}
use Rattle.elimination_laws.specs.Mixing.{Tracked}
use Rattle.st_linear.specs.Linear.{are_within}
use Rattle.elimination_laws.specs.Stages.{Use, Ending, through, contradiction, too_wide, with_use, at_rows, at_variable}
use Rattle.row_elimination.specs.declared.halt.Halt.{Halt}
use Rattle.row_elimination.specs.declared.halt.Halt.TheVariants as halt
use Rattle.row_elimination.specs.declared.stage.Used.{Used}
use Rattle.row_elimination.specs.declared.top.Stop.{Stop}
use Rattle.row_elimination.specs.declared.top.Stop.TheVariants.{Clash, Wide, Memory}
use Rattle.elimination_laws.specs.declared.stage.WideStage.{WideStage}
use Rattle.elimination_laws.specs.declared.stage.WideStage.TheVariants.{Tree, Rows, Variable}
use Rattle.row_elimination.specs.Places.{use_plain}

abbrev pub first_row : ℕ → Line → Tracked
first_row k l = record { form = l.form; equal = l.equal; picks = (k, pos 1) ∷ [] }

abbrev pub AllWithin : List Line → Type 0
AllWithin [] = Unit {0}
AllWithin (l ∷ ls) = IsTrue (are_within (2 ^ 100) l.form.entries) × AllWithin ls

abbrev pub IsStop : Halt → WideStage → Stop → Type 0
IsStop (halt.Clash ps) w s = s ≡ Clash ps
IsStop halt.Wide w s = s ≡ Wide w
IsStop halt.Memory w s = s ≡ Memory

abbrev pub StopsAt : WideStage → Ending → Type 0
StopsAt Tree e = ⊥
StopsAt Rows e = e ≡ too_wide at_rows
StopsAt (Variable v) e = e ≡ too_wide (at_variable v)

abbrev pub Stops : Stop → Ending → Type 0
Stops (Clash ps) e = e ≡ contradiction ps.items
Stops (Wide w) e = StopsAt w e
Stops Memory e = Unit {0}

abbrev pub uses_plain : List Used → List Use
uses_plain us = map use_plain us

abbrev pub GivesUses : Result (Vec Used Global) Stop → Ending → Type 0
GivesUses (Ok v) e = e ≡ through (uses_plain v.items)
GivesUses (Err stop) e = Stops stop e

abbrev pub with_uses : List Use → Ending → Ending
with_uses [] e = e
with_uses (u ∷ us) e = with_use u (with_uses us e)
