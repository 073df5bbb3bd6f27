use Rattle.std.proofs.Common.{◌≡◌, drop}
use Rattle.st_program.specs.Plain.{plain_stmts, plain_children}
use Rattle.st_program.specs.Spots.{bodies_in, bodies_of}
use Rattle.spl_semantics.specs.Numbers.{body_at}
use Rattle.spl_semantics.proofs.components.+body.Given as goal

abbrev pub invariant-body_along-loop-item : goal.invariant-body_along-loop-item
invariant-body_along-loop-item l = body_at (bodies_in (plain_stmts (drop l.item-index l.items))) l.number ≡ body_at (bodies_in (plain_stmts l.items)) l.fn.number

abbrev pub invariant-body_among-loop-child : goal.invariant-body_among-loop-child
invariant-body_among-loop-child l = body_at (bodies_of (plain_children (drop l.child-index l.children))) l.number ≡ body_at (bodies_of (plain_children l.children)) l.fn.number
