use Rattle.std.proofs.Common.{◌∙◌, ◌++◌, ◌∷◌, [], ap}
use Rattle.std.specs.String.{string_bytes}
use Rattle.st_program.specs.Names.{as_bytes}
use Rattle.proof_script.proofs.Lookups.{noted}
use Rattle.proof_script.proofs.reading.note.Goals as goal

pub returns : goal.returns
returns c =
    noted c.args.earlier.now.entries _ c.in_ok-clone.field-0 c.is_invariance.result (string_bytes c.args.step.now.name) c.in_ok-insert.ensures.entries c.in_ok-clone.ensures.cases c.requires
    ∙ ap (λ b. as_bytes c.args.earlier.now.entries ++ (string_bytes c.args.step.now.name, b) ∷ []) c.is_invariance.ensures
