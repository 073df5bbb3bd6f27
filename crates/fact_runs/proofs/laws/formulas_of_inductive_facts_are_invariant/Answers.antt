use Rattle.std.proofs.Common.{List, subst}
use Rattle.st_form.specs.Plain.{plain}
use Rattle.st_program.specs.Plain.{plain_children}
use Rattle.st_program.specs.Programs.{View}
use Rattle.control_facts.specs.Alternatives.{control_of}
use Rattle.spl_translation.specs.Translation.{translation}
use Rattle.spl_translation.proofs.Corresponding.{corresponds}
use Rattle.constant_facts.specs.declared.fact.Fact.{Fact}
use Rattle.constant_facts.specs.Facts.{AreInductive}
use Rattle.fact_runs.specs.Holding.{AllInvariant}
use Rattle.fact_runs.proofs.Runs.{all-invariant}
use Rattle.fact_runs.proofs.laws.formulas_of_inductive_facts_are_invariant.Goals as goal

abbrev Law : View → Type 0
Law v =
    (fs : List Fact) → AreInductive (control_of (plain_children v.processes)) (translation v.variables (plain v.initial) (plain_children v.processes) v.locations) fs
    → AllInvariant (plain_children v.processes) (plain v.initial) fs

pub returns : goal.returns
returns c =
    let v = c.program.inside in
    let keeps = c.program.invariant in
    let p = plain_children v.processes.items in
    subst Law c.program.view_is
    (all-invariant v.variables.items (plain v.initial) p v.locations keeps.well
    (corresponds v.variables.items (plain v.initial) p v.locations keeps.well keeps.typed keeps.start))
