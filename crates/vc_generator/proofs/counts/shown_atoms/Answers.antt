use Rattle.std.proofs.Common.{arith, List, map}
use Rattle.std.proofs.lemmas.List.{at_drop_all}
use Rattle.transition_system.specs.Plain.{plain_mode}
use Rattle.vc_generator.specs.declared.building.Case.{Case}
use Rattle.vc_generator.specs.Plain.{plain_case}
use Rattle.vc_generator.specs.Atoms.{cases_atoms}
use Rattle.vc_generator.proofs.counts.shown_atoms.Goals as goal

pub returns : goal.returns
returns c =
    omega (arith, c.loop-case.invariant, at_drop_all (λ (xs : List Case). cases_atoms (plain_mode c.args.mode.now) (map plain_case xs)) c.args.cases.now c.loop-case.case-index (omega arith))
