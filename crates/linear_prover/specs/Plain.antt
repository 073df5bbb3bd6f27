-- The problems of the walk and what it comes to, as plain data.
use Rattle.std.specs.Prelude.{ℕ, List, map, reverse, Option, Some, None}
use Rattle.std.specs.declared.vec.Vec.{Vec}
use Rattle.std.specs.declared.alloc.Global.{Global}
use Rattle.st_form.specs.Formula.{Formula, Formulas, formulas}
use Rattle.st_form.specs.Plain.{plain as plain_form}
use Rattle.farkas_check.specs.Problem.{Problem}
use Rattle.linear_prover.specs.declared.problems.Conjunct.{Conjunct}
use Rattle.linear_prover.specs.declared.problems.Conjunct.TheVariants.{Kept, Made}
use Rattle.linear_prover.specs.declared.problems.Node.{Node}
use Rattle.std.specs.Option.{option_map}
use Rattle.st_certificate.specs.Plain.{plain as tree_of, plain_trees}
use Rattle.search_verdicts.specs.Plain.{plain_path, plain_shown}
use Rattle.search_laws.specs.Walks as plain
use Rattle.linear_prover.specs.declared.failure.Failure.{Failure}
use Rattle.linear_prover.specs.declared.failure.Failure.TheVariants as failure
use Rattle.linear_prover.specs.declared.walk.Outcome.{Outcome}
use Rattle.linear_prover.specs.declared.walk.Outcome.TheVariants.{Found, Stopped}
use Rattle.linear_prover.specs.declared.walk.Branches.{Branches}
use Rattle.linear_prover.specs.declared.walk.Branches.TheVariants.{All, Broke}

-- a conjunct, lent or made
abbrev pub plain_conjunct : Conjunct → Formula
plain_conjunct (Kept f) = plain_form f.now
plain_conjunct (Made f) = plain_form f.value

abbrev pub plain_each : List Conjunct → Formulas
plain_each fs = formulas (map plain_conjunct fs)

abbrev pub plain_made : Option (Vec Conjunct Global) → Option Formulas
plain_made None = None
plain_made (Some fs) = Some (plain_each fs.items)

-- a problem of the code
abbrev pub plain_node : Node → Problem
plain_node n = record { cases = n.cases.items; truths = n.truths.items; conjuncts = plain_made n.conjuncts }

abbrev pub plain_failure : Failure → plain.Failure
plain_failure (failure.Open state) = plain.left_open (option_map plain_shown state)
plain_failure (failure.Wide w) = plain.given_up w

-- what the walk comes to; its path is kept from the last step to the first
abbrev pub plain_outcome : Outcome → plain.Found
plain_outcome (Found c n) = plain.found (tree_of c) n
plain_outcome (Stopped path e) = plain.stopped (plain_path (reverse path.items)) (plain_failure e)

abbrev pub plain_branches : Branches → plain.FoundAll
plain_branches (All cs n) = plain.all (plain_trees cs.items) n
plain_branches (Broke i path e) = plain.broke i (plain_path (reverse path.items)) (plain_failure e)
