use Rattle.std.proofs.Common.{◌≡◌, ◌++◌, drop}
use Rattle.st_program.specs.Plain.{plain_children}
use Rattle.spl_semantics.specs.Control.{ends}
use Rattle.spl_translation.proofs.owning.ends_of.Given as goal

abbrev pub invariant-loop-child : goal.invariant-loop-child
invariant-loop-child l = l.out.items ++ ends (plain_children (drop l.child-index l.children)) ≡ ends (plain_children l.children)
