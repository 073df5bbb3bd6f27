use Rattle.st_linear.proofs.Dividing.{common_divisor-divides, common_divisor-lt, test-from_CommonTo}
use Rattle.st_linear.proofs.linear.Lin.divisor.Goals as goal

pub returns-clause-positive : goal.returns-clause-positive
returns-clause-positive c = rw (c.divisor_of.ensures, c.as_slice.ensures) (common_divisor-divides c.self.inside.entries.items).0

pub returns-clause-bound : goal.returns-clause-bound
returns-clause-bound c = rw (c.divisor_of.ensures, c.as_slice.ensures) (common_divisor-lt c.self.inside.entries.items c.self.invariant.entries c.self.invariant.entries_small)

pub returns-clause-divides : goal.returns-clause-divides
returns-clause-divides c =
    let es = c.self.inside.entries.items in
    rw (c.divisor_of.ensures, c.as_slice.ensures, ← c.self.view_is) (test-from_CommonTo _ es (common_divisor-divides es).1)
