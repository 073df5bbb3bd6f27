use Rattle.std.proofs.Common.{◌≡◌, ◌++◌, drop}
use Rattle.st_program.specs.Plain.{plain_children}
use Rattle.spl_semantics.specs.Control.{starts}
use Rattle.spl_translation.proofs.owning.starts_of.Given as goal

abbrev pub invariant-loop-child : goal.invariant-loop-child
invariant-loop-child l = l.out.items ++ starts (plain_children (drop l.child-index l.children)) ≡ starts (plain_children l.children)
