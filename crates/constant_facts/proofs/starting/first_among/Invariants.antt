use Rattle.std.proofs.Common.{◌≡◌, ◌++◌, drop, filter}
use Rattle.st_form.specs.Plain.{plain}
use Rattle.constant_facts.specs.Rules.{is_first, places_or}
use Rattle.constant_facts.proofs.starting.first_among.Given as goal

abbrev pub invariant-loop-fact : goal.invariant-loop-fact
invariant-loop-fact l =
    l.out.items ++ filter (is_first (places_or l.places) (plain l.beginning)) (drop l.fact-index l.facts)
    ≡ filter (is_first (places_or l.places) (plain l.beginning)) l.facts
