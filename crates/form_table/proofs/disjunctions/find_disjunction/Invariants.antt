use Rattle.std.proofs.Common.{◌≡◌, take, drop}
use Rattle.st_form.specs.Formula.{none}
use Rattle.farkas_check.specs.Problem.{split_from}
use Rattle.form_table.specs.Table.{listed}
use Rattle.form_table.specs.Nodes.{formulas_in}
use Rattle.form_table.proofs.disjunctions.find_disjunction.Given as goal

abbrev pub invariant-loop-place : goal.invariant-loop-place
invariant-loop-place l = split_from (listed (formulas_in l.store) (take l.place l.parts)) l.left (listed (formulas_in l.store) (drop l.place l.parts)) ≡ split_from none l.k (listed (formulas_in l.store) l.parts)
