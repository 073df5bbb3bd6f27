use Rattle.std.proofs.Common.{◌≡◌, take, drop}
use Rattle.st_form.specs.Formula.{none}
use Rattle.st_form.specs.Plain.{plain_list}
use Rattle.farkas_check.specs.Problem.{split_from}
use Rattle.farkas_check.specs.Limits.{AreSettled}
use Rattle.farkas_check.proofs.splits.find_disjunction.Given as goal

abbrev pub invariant-loop-place : goal.invariant-loop-place
invariant-loop-place l = record {
  settled : AreSettled (plain_list (drop l.place l.fs));
  same : split_from (plain_list (take l.place l.fs)) l.left (plain_list (drop l.place l.fs)) ≡ split_from none l.k (plain_list l.fs);
}
