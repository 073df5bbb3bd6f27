use Rattle.std.proofs.Common.{◌≡◌, drop}
use Rattle.st_linear.specs.Linear.{form_for}
use Rattle.constant_facts.specs.Rules.{number_is}
use Rattle.constant_facts.proofs.knowing.number_is.Given as goal

abbrev pub invariant-loop-pair : goal.invariant-loop-pair
invariant-loop-pair l =
    number_is l.known (form_for l.variable (drop l.pair-index l.numbers)) l.variable l.number
    ≡ number_is l.known (form_for l.variable l.numbers) l.variable l.number
