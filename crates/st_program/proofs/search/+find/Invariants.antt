use Rattle.std.proofs.Common.{◌≡◌, drop}
use Rattle.st_program.specs.Plain.{plain_stmts, plain_children}
use Rattle.st_program.specs.Search.{find_along, find_among}
use Rattle.st_program.proofs.search.+find.Given as goal

abbrev pub invariant-find_along-loop-item : goal.invariant-find_along-loop-item
invariant-find_along-loop-item l = find_along (plain_stmts l.fn.items) l.occ ≡ find_along (plain_stmts (drop l.item-index l.fn.items)) l.occ

abbrev pub invariant-find_among-loop-child : goal.invariant-find_among-loop-child
invariant-find_among-loop-child l = find_among (plain_children l.fn.children) l.occ ≡ find_among (plain_children (drop l.child-index l.fn.children)) l.occ
