use Rattle.std.proofs.Common.{◌≡◌, drop}
use Rattle.st_form.specs.Plain.{plain_list}
use Rattle.search_laws.specs.Moves.{first_truth_of}
use Rattle.linear_prover.proofs.literals.+first_truth.Given as goal

abbrev pub invariant-first_truth_of-loop-f : goal.invariant-first_truth_of-loop-f
invariant-first_truth_of-loop-f l = first_truth_of (plain_list (drop l.f-index l.fs)) ≡ first_truth_of (plain_list l.fs)
