-- The certificates that are found for the conditions of a script can be written.
use Rattle.std.proofs.Common.{◌^◌, ◌<◌, List, [], ◌∷◌, length, map, arith}
use Rattle.std.specs.Prelude.{None}
use Rattle.st_certificate.specs.Tree.{Tree}
use Rattle.temporal_goals.specs.Texts.{PlainStep}
use Rattle.control_facts.proofs.Strands.{how_many_inside}
use Rattle.vc_generator.specs.Building.{Draft}
use Rattle.list_laws.specs.Each.{Each}
use Rattle.spl_semantics.proofs.FewBodies.{has_numbers}
use Rattle.spl_typer.specs.Programs.{Typed}
use Rattle.search_laws.specs.Forms.{IsInOrder}
use Rattle.search_laws.specs.Programs.{ProgramsAreInOrder}
use Rattle.search_blocks.specs.Writable.{Discharge}
use Rattle.search_blocks.specs.Laws.{FoundAreWritten}
use Rattle.step_run.specs.Source.{IsSpelled}
use Rattle.step_run.specs.Posing.{IsScript}
use Rattle.step_run.specs.Conditions.{setting_of, drafts, conditions_of}
use Rattle.step_run.specs.WellFormed.{AreFound}
use Rattle.step_run.proofs.Typed.{well_typed}
use Rattle.step_run.proofs.Headline.{Laws, IsSearched, searched_drafts}

-- a program has few components and variables
record IsReady (p : Typed) : Type 0 where
  order : IsInOrder (setting_of p).control
  parts : length (setting_of p).control.components < 2 ^ 32
  variables : length (setting_of p).variables < 2 ^ 32

ready : ProgramsAreInOrder → (p : Typed) → IsSpelled p → IsReady p
unfolding setting_of
ready ordered p spelled =
    let k = well_typed p spelled in
    let numbers = has_numbers p.variables p.initial p.processes p.locations p.statements k in
    let same = how_many_inside p.processes None 0 in
    record { order = (ordered p.processes).0; parts = omega (arith, numbers, same); variables = omega (arith, k.few_variables) }

module _ (law : Laws) (ordered : ProgramsAreInOrder) (written : FoundAreWritten) (p : Typed) (spelled : IsSpelled p) where
  discharge_drafts : (ds : List Draft) (ts : List Tree) → Each (λ d. IsSearched p d) ds → AreFound (setting_of p) (map (λ d. d.condition) ds) ts → Discharge (setting_of p) (map (λ d. d.condition) ds) ts
  discharge_drafts [] ts h found = found
  discharge_drafts (d ∷ ds) [] h found = absurd found
  discharge_drafts (d ∷ ds) (t ∷ ts) h found =
      let k = ready ordered p spelled in (
        (law.valid (setting_of p) d.condition.given d.condition.shown t h.0.given h.0.shown found.0).certificate,
        written (setting_of p) d.condition.given d.condition.shown t k.order k.parts k.variables h.0.given h.0.shown found.0,
        discharge_drafts ds ts h.1 found.1,
      )

  pub discharge : (steps : List PlainStep) (ts : List Tree) → IsScript p steps → AreFound (setting_of p) (conditions_of p steps) ts → Discharge (setting_of p) (conditions_of p steps) ts
  discharge steps ts script found = discharge_drafts (drafts p steps) ts (searched_drafts law p steps spelled script) found
