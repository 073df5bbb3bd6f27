use Rattle.std.proofs.Common.{◌≡◌, ◌-◌, ◌++◌}
use Rattle.constant_facts.specs.Rules.{cases_from}
use Rattle.constant_facts.proofs.keeping.cases.Given as goal

abbrev pub invariant-loop-component : goal.invariant-loop-component
invariant-loop-component l = l.out.items ++ cases_from l.owners l.places (l.count - l.component) l.component ≡ cases_from l.owners l.places l.count 0
