use Rattle.std.proofs.Common.{◌≡◌, drop}
use Rattle.std.specs.List.{list_all}
use Rattle.st_form.specs.Exchange.{is_listed}
use Rattle.shown_states.proofs.enabling.is_at_all.Given as goal

abbrev pub invariant-loop-location : goal.invariant-loop-location
invariant-loop-location l = list_all (λ k. is_listed k l.fronts) (drop l.location-index l.locations) ≡ list_all (λ k. is_listed k l.fronts) l.locations
