use Rattle.std.proofs.Common.{drop, map}
use Rattle.st_form.specs.Formula.{formulas}
use Rattle.st_form.specs.Shared.{case_of}
use Rattle.search_laws.specs.Forms.{AllFormsOf}
use Rattle.search_laws.specs.Searchable.{IsBelow}
use Rattle.linear_prover.proofs.guards.cases_are_below.Given as goal

abbrev pub invariant-loop-case : goal.invariant-loop-case
invariant-loop-case l = AllFormsOf (IsBelow l.count) (formulas (map case_of (drop l.case-index l.cases))) → AllFormsOf (IsBelow l.count) (formulas (map case_of l.cases))
