use Rattle.std.proofs.Common.{◌≡◌, ◌≤◌, drop, length}
use Rattle.equation_writer.specs.Plain.{plain_terms}
use Rattle.equation_writer.specs.Sizes.{case_count, atom_count}
use Rattle.equation_writer.proofs.limits.are_few.Given as goal

abbrev pub invariant-loop-left : goal.invariant-loop-left
invariant-loop-left l = record {
  within : l.left ≤ length l.groups;
  cases_are : l.cases ≡ case_count (plain_terms (drop l.left l.groups));
  atoms_are : l.atoms ≡ atom_count (plain_terms (drop l.left l.groups));
  few_cases : l.cases ≤ 64;
  few_atoms : l.atoms ≤ 1024;
}

abbrev pub decreases-loop-left : goal.decreases-loop-left
decreases-loop-left l = l.left
