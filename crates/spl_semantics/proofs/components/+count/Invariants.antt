use Rattle.std.proofs.Common.{◌≡◌, ◌+◌, ◌-◌, ◌^◌, ◌<◌, min, length, drop}
use Rattle.st_program.specs.Plain.{plain_stmts, plain_children}
use Rattle.st_program.specs.Spots.{bodies_in, bodies_of}
use Rattle.spl_semantics.proofs.components.+count.Given as goal

abbrev pub invariant-count_along-loop-item : goal.invariant-count_along-loop-item
invariant-count_along-loop-item l = (l.count < 2 ^ 32) × (min (l.count + length (bodies_in (plain_stmts (drop l.item-index l.items)))) (2 ^ 32 - 1) ≡ min (length (bodies_in (plain_stmts l.items))) (2 ^ 32 - 1))

abbrev pub invariant-count_among-loop-child : goal.invariant-count_among-loop-child
invariant-count_among-loop-child l = (l.count < 2 ^ 32) × (min (l.count + length (bodies_of (plain_children (drop l.child-index l.children)))) (2 ^ 32 - 1) ≡ min (length (bodies_of (plain_children l.children))) (2 ^ 32 - 1))
