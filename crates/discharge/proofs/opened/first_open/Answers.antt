use Rattle.std.proofs.Common.{◌∙◌, ap, sym}
use Rattle.farkas_check.specs.PlainProblem.{setting}
use Rattle.discharge.proofs.Marking.{end_of, first_of}
use Rattle.discharge.proofs.opened.first_open.Goals as goal
use Rattle.discharge.proofs.opened.first_open.Goals.{in-None, in-Some}

pub returns-in-None-2 : goal.returns-in-None-2
returns-in-None-2 c =
    let cs = c.args.conditions.now in
    let before = rw c.in-None-2.is at c.in_ok-first_unmarked.ensures in
    let first = first_of (setting c.args.components.now c.args.variables.now) cs c.args.found.undecided c.match-found.end c.requires.found.undecided before in
    elim c.match-found.branch [
      | in-None w ↦ first (w.end-is ∙ sym (ap (end_of cs) w.in-None.is))
      | in-Some w ↦ first (w.end-is ∙ sym (ap (end_of cs) w.in-Some.is))
    ]
