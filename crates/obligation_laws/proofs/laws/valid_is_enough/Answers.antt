use Rattle.std.proofs.Common.{subst}
use Rattle.st_form.specs.Plain.{plain}
use Rattle.st_program.specs.Plain.{plain_children}
use Rattle.st_program.specs.Programs.{View}
use Rattle.spl_translation.specs.Translation.{translation}
use Rattle.obligation_laws.specs.Obligations.{ValidIsEnough}
use Rattle.obligation_laws.proofs.Enough.{enough}
use Rattle.obligation_laws.proofs.laws.valid_is_enough.Goals as goal

abbrev Law : View → Type 0
Law v = ValidIsEnough (plain_children v.processes) (plain v.initial) (translation v.variables (plain v.initial) (plain_children v.processes) v.locations)

pub returns : goal.returns
returns c =
    let v = c.program.inside in
    let p = plain_children v.processes.items in
    let initial = plain v.initial in
    subst Law c.program.view_is
    (enough p initial (translation v.variables.items initial p v.locations)
    (c.runs_meet_control.ensures.of_all p initial c.program.invariant.well)
    (c.runs_are_runs.ensures v.variables.items initial p v.locations v.statements c.program.invariant))
