use Rattle.std.proofs.Common.{◌≡◌, drop}
use Rattle.constant_facts.specs.Rules.{case_of}
use Rattle.constant_facts.proofs.keeping.case_of.Given as goal

abbrev pub invariant-loop-place : goal.invariant-loop-place
invariant-loop-place l = case_of l.owners (drop l.place-index l.places) l.component ≡ case_of l.owners l.places l.component
