use Rattle.std.proofs.Common.{ap, ◌∙◌}
use Rattle.st_program.specs.Plain.{plain_children}
use Rattle.st_program.specs.Search.{find_among}
use Rattle.st_program.specs.Spots.{statement_at}
use Rattle.st_program.proofs.Finding.{find-statement}
use Rattle.st_program.proofs.programs.Program.statement.Goals as goal

pub returns : goal.returns
returns c =
    c.find_among.ensures
    ∙ ap (λ z. find_among (plain_children z) c.args.occ) c.deref.ensures.value
    ∙ find-statement (plain_children c.self.inside.processes.items) c.args.occ c.self.invariant.well.numbered
    ∙ ap (λ z. statement_at (plain_children z.processes) c.args.occ) c.self.view_is
