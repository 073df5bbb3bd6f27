use Rattle.std.proofs.Common.{◌≡◌, ◌+◌, ◌^◌, ◌<◌, ◌++◌, length, drop, map}
use Rattle.st_program.specs.Plain.{plain_children}
use Rattle.st_program.specs.Residuals.{plain_residual}
use Rattle.st_program.specs.Spots.{bodies_of}
use Rattle.spl_semantics.specs.Going.{begin}
use Rattle.spl_semantics.proofs.Starting.{rest_list}
use Rattle.spl_semantics.proofs.starts.begin.Given as goal

abbrev pub invariant-loop-child : goal.invariant-loop-child
invariant-loop-child l = l.component + length (bodies_of (plain_children l.children)) < 2 ^ 32 → record {
  all : l.number + length (bodies_of (plain_children (drop l.child-index l.children))) ≡ l.component + length (bodies_of (plain_children l.children));
  same : map plain_residual l.residuals.items ++ rest_list (begin (plain_children (drop l.child-index l.children)) l.number) ≡ rest_list (begin (plain_children l.children) l.component);
}
