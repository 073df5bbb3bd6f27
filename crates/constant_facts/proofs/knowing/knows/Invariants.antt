use Rattle.std.proofs.Common.{◌≡◌, drop}
use Rattle.constant_facts.specs.Rules.{knows}
use Rattle.constant_facts.proofs.knowing.knows.Given as goal

abbrev pub invariant-loop-fact : goal.invariant-loop-fact
invariant-loop-fact l = knows (drop l.fact-index l.facts) l.variable l.value ≡ knows l.facts l.variable l.value
