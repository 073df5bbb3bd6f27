use Rattle.std.proofs.Common.{◌≡◌, drop}
use Rattle.st_form.specs.Exchange.{is_listed}
use Rattle.constant_facts.proofs.knowing.is_listed.Given as goal

abbrev pub invariant-loop-l : goal.invariant-loop-l
invariant-loop-l l = is_listed l.location (drop l.l-index l.locations) ≡ is_listed l.location l.locations
