use Rattle.std.proofs.Common.{subst}
use Rattle.transition_system.specs.Plain.{plain_system}
use Rattle.transition_system.specs.Bounds.{IsSystem}
use Rattle.linear_invariants.specs.Plain.{plain_equations}
use Rattle.equation_writer.proofs.Finding.{found_are_proper}
use Rattle.found_proofs.proofs.equations.proper_equations.Goals as goal

pub returns-in-Ok : goal.returns-in-Ok
returns-in-Ok c =
    found_are_proper (plain_system c.args.system.now) (plain_equations c.in-Ok.equations.items) (subst (λ s. IsSystem (plain_system s)) c.system.view_is c.system.invariant) c.in-Ok.ensures.exact
