use Rattle.std.proofs.Common.{◌+◌, drop, ap, sym, ◌∙◌, arith}
use Rattle.std.specs.Option.{option_map}
use Rattle.st_program.specs.Plain.{plain_stmt, plain_stmts, plain_children}
use Rattle.st_program.specs.Search.{or_else, find_along, find_among}
use Rattle.st_program.proofs.Finding.{find_child}
use Rattle.st_program.proofs.search.+find.Goals as goal

pub find_among-returns-in-Some : goal.find_among-returns-in-Some
find_among-returns-in-Some t c =
    sym (c.loop-child.invariant
    ∙ find_child c.args.children.now c.loop-child.child-index c.child-item.result c.args.occ (omega arith) c.child-item.is
    ∙ ap (λ z. or_else z (find_among (plain_children (drop (c.loop-child.child-index + 1) c.args.children.now)) c.args.occ))
    (ap (λ z. find_along (plain_stmts z) c.args.occ) (sym c.deref.ensures.value) ∙ sym c.find_along.ensures ∙ ap (option_map (λ s. plain_stmt s.now)) c.in-Some.is))

pub find_among-loop-child-preserved : goal.find_among-loop-child-preserved
find_among-loop-child-preserved t c =
    c.loop-child.invariant
    ∙ find_child c.args.children.now c.loop-child.child-index c.child-item.result c.args.occ (omega arith) c.child-item.is
    ∙ ap (λ z. or_else z (find_among (plain_children (drop (c.loop-child.child-index + 1) c.args.children.now)) c.args.occ))
    (ap (λ z. find_along (plain_stmts z) c.args.occ) (sym c.deref.ensures.value) ∙ sym c.find_along.ensures ∙ ap (option_map (λ s. plain_stmt s.now)) c.in_default.is)
