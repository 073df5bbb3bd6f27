use Rattle.std.proofs.Common.{◌≡◌, ◌++◌, drop, filter}
use Rattle.st_form.specs.Plain.{plain_change}
use Rattle.constant_facts.specs.Rules.{is_kept, places_or}
use Rattle.constant_facts.proofs.keeping.kept_among.Given as goal

abbrev pub invariant-loop-fact : goal.invariant-loop-fact
invariant-loop-fact l =
    l.out.items ++ filter (is_kept l.known (places_or l.places) (plain_change l.change)) (drop l.fact-index l.facts)
    ≡ filter (is_kept l.known (places_or l.places) (plain_change l.change)) l.facts
