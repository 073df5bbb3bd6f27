use Rattle.std.proofs.Common.{◌≡◌, List, Some, subst}
use Rattle.st_form.specs.Plain.{plain}
use Rattle.st_program.specs.Plain.{plain_children}
use Rattle.st_program.specs.Programs.{View}
use Rattle.spl_translation.specs.Translation.{translation}
use Rattle.spl_translation.proofs.Corresponding.{corresponds}
use Rattle.spl_translation.proofs.Systemic.{translation_is_system}
use Rattle.equation_laws.specs.Equations.{PlainEquation, found}
use Rattle.equation_runs.specs.Holding.{AllHold}
use Rattle.equation_runs.proofs.Holds.{found-hold}
use Rattle.equation_runs.proofs.laws.what_is_found_holds.Goals as goal

abbrev Law : View → Type 0
Law v =
    (es : List PlainEquation) → found (translation v.variables (plain v.initial) (plain_children v.processes) v.locations) ≡ Some es
    → AllHold (plain_children v.processes) (plain v.initial) es

pub returns : goal.returns
returns c =
    let v = c.program.inside in
    let keeps = c.program.invariant in
    let p = plain_children v.processes.items in
    subst Law c.program.view_is
    (found-hold v.variables.items (plain v.initial) p v.locations keeps.well keeps.typed
    (corresponds v.variables.items (plain v.initial) p v.locations keeps.well keeps.typed keeps.start)
    (translation_is_system v.variables.items (plain v.initial) p v.locations v.statements keeps))
