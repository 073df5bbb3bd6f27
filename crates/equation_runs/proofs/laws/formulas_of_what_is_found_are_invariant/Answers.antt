use Rattle.std.proofs.Common.{◌≡◌, List, Some, subst, sym}
use Rattle.st_form.specs.Plain.{plain}
use Rattle.st_program.specs.Plain.{plain_children}
use Rattle.st_program.specs.Programs.{View}
use Rattle.spl_translation.specs.Translation.{translation}
use Rattle.spl_translation.proofs.Corresponding.{corresponds}
use Rattle.spl_translation.proofs.Systemic.{translation_is_system}
use Rattle.equation_laws.specs.Equations.{PlainEquation, found}
use Rattle.equation_runs.specs.Holding.{AllInvariant}
use Rattle.equation_runs.proofs.Invariants.{found-invariant}
use Rattle.equation_runs.proofs.laws.formulas_of_what_is_found_are_invariant.Goals as goal

abbrev Law : View → Type 0
Law v =
    (es : List PlainEquation) → found (translation v.variables (plain v.initial) (plain_children v.processes) v.locations) ≡ Some es
    → AllInvariant (plain_children v.processes) (plain v.initial) es

pub returns : goal.returns
returns c =
    let v = c.program.inside in
    let keeps = c.program.invariant in
    let p = plain_children v.processes.items in
    subst Law c.program.view_is
    (found-invariant v.variables.items (plain v.initial) p v.locations keeps.well keeps.typed
    (corresponds v.variables.items (plain v.initial) p v.locations keeps.well keeps.typed keeps.start)
    (translation_is_system v.variables.items (plain v.initial) p v.locations v.statements keeps) (sym keeps.location_count))
