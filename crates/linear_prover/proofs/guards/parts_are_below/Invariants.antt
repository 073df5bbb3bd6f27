use Rattle.std.proofs.Common.{drop}
use Rattle.st_form.specs.Plain.{plain_list}
use Rattle.search_laws.specs.Forms.{AllFormsOf}
use Rattle.search_laws.specs.Searchable.{IsBelow}
use Rattle.linear_prover.proofs.guards.parts_are_below.Given as goal

abbrev pub invariant-loop-part : goal.invariant-loop-part
invariant-loop-part l = AllFormsOf (IsBelow l.count) (plain_list (drop l.part-index l.parts)) → AllFormsOf (IsBelow l.count) (plain_list l.parts)
