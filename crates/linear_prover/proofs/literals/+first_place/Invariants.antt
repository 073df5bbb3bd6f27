use Rattle.std.proofs.Common.{◌≡◌, drop}
use Rattle.st_form.specs.Plain.{plain_list}
use Rattle.search_laws.specs.Moves.{first_place_of}
use Rattle.linear_prover.proofs.literals.+first_place.Given as goal

abbrev pub invariant-first_place_of-loop-f : goal.invariant-first_place_of-loop-f
invariant-first_place_of-loop-f l = first_place_of (plain_list (drop l.f-index l.fs)) ≡ first_place_of (plain_list l.fs)
