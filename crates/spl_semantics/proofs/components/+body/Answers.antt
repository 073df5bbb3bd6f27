use Rattle.std.proofs.Common.{◌≡◌, ◌+◌, ◌-◌, ◌++◌, ◌∷◌, suc, ap, sym, ◌∙◌, refl, arith, drop}
use Rattle.st_program.specs.declared.trees.Child as GChild
use Rattle.st_program.specs.Plain.{plain_stmt, plain_stmts, plain_children}
use Rattle.st_program.specs.Spots.{bodies, bodies_in, bodies_of, bodies_inside}
use Rattle.spl_semantics.specs.Numbers.{body_at}
use Rattle.spl_semantics.proofs.Counting.{body-found, body-passed, bodies-next, bodies-inside_next, else-is}
use Rattle.spl_semantics.proofs.components.+body.Goals as goal

pub body_along-returns-in-Ok : goal.body_along-returns-in-Ok
body_along-returns-in-Ok t c =
    let xs = c.args.items.now in
    let x = c.item-item.result in
    let n = c.loop-item.number in
    let rest = bodies_in (plain_stmts (drop (c.loop-item.item-index + 1) xs)) in
    sym (sym c.loop-item.invariant ∙ ap (λ l. body_at l n) (bodies-next xs c.loop-item.item-index x (omega arith) c.item-item.is) ∙ body-found (bodies (plain_stmt x)) rest n _ (sym c.in-Ok.ensures))

pub body_along-loop-item-preserved : goal.body_along-loop-item-preserved
body_along-loop-item-preserved t c =
    let xs = c.args.items.now in
    let x = c.item-item.result in
    let n = c.loop-item.number in
    let rest = bodies_in (plain_stmts (drop (c.loop-item.item-index + 1) xs)) in
    sym (ap (λ l. body_at l n) (bodies-next xs c.loop-item.item-index x (omega arith) c.item-item.is) ∙ body-passed (bodies (plain_stmt x)) rest n c.in-Err.left (sym c.in-Err.ensures)) ∙ c.loop-item.invariant

pub body_among-returns-then-number-eq0 : goal.body_among-returns-then-number-eq0
body_among-returns-then-number-eq0 t c =
    let cs = c.args.children.now in
    let n = c.loop-child.number in
    let body = c.deref.result.now in
    let rest = bodies_of (plain_children (drop (c.loop-child.child-index + 1) cs)) in
    let e = bodies-inside_next cs c.loop-child.child-index c.child-item.result body (omega arith) c.child-item.is c.deref.ensures.value in
    sym (sym c.loop-child.invariant ∙ ap (λ l. body_at l n) e ∙ ap (body_at ((plain_stmts body, (GChild.out-Child c.child-item.result).end) ∷ (bodies_in (plain_stmts body) ++ rest))) c.if-number-eq0.true)

pub body_among-returns-in-Ok : goal.body_among-returns-in-Ok
body_among-returns-in-Ok t c =
    let cs = c.args.children.now in
    let n = c.loop-child.number in
    let body = c.deref-in-loop-child.result.now in
    let rest = bodies_of (plain_children (drop (c.loop-child.child-index + 1) cs)) in
    let e = bodies-inside_next cs c.loop-child.child-index c.child-item.result body (omega arith) c.child-item.is c.deref-in-loop-child.ensures.value in
    let s : n ≡ suc (n - 1) = omega (arith, c.if-number-eq0.false) in
    sym (sym c.loop-child.invariant ∙ ap (λ l. body_at l n) e ∙ ap (body_at ((plain_stmts body, (GChild.out-Child c.child-item.result).end) ∷ (bodies_in (plain_stmts body) ++ rest))) s ∙ body-found (bodies_in (plain_stmts body)) rest (n - 1) _ (sym c.in-Ok.ensures))

pub body_among-loop-child-preserved : goal.body_among-loop-child-preserved
body_among-loop-child-preserved t c =
    let cs = c.args.children.now in
    let n = c.loop-child.number in
    let body = c.deref-in-loop-child.result.now in
    let rest = bodies_of (plain_children (drop (c.loop-child.child-index + 1) cs)) in
    let e = bodies-inside_next cs c.loop-child.child-index c.child-item.result body (omega arith) c.child-item.is c.deref-in-loop-child.ensures.value in
    let s : n ≡ suc (n - 1) = omega (arith, c.if-number-eq0.false) in
    sym (ap (λ l. body_at l n) e ∙ ap (body_at ((plain_stmts body, (GChild.out-Child c.child-item.result).end) ∷ (bodies_in (plain_stmts body) ++ rest))) s ∙ body-passed (bodies_in (plain_stmts body)) rest (n - 1) c.in-Err.left (sym c.in-Err.ensures)) ∙ c.loop-child.invariant

pub body_inside-returns-in-Ok : goal.body_inside-returns-in-Ok
body_inside-returns-in-Ok t c =
    let y = c.deref.result.now in
    let o = c.in-Some.other.value in
    let k = else-is c.args.kind.now c.in-If.test c.in-If.yes c.in-Some.other c.in-If.no y o c.in-If.is c.in-Some.is c.deref.ensures refl in
    sym (ap (λ a. body_at (bodies_inside a) c.args.number) k ∙ body-found (bodies (plain_stmt y)) (bodies (plain_stmt o)) c.args.number _ (sym c.in-Ok.ensures))

pub body_inside-returns-in-Err : goal.body_inside-returns-in-Err
body_inside-returns-in-Err t c =
    let y = c.deref.result.now in
    let o = c.deref-in-Err.result.now in
    let k = else-is c.args.kind.now c.in-If.test c.in-If.yes c.in-Some.other c.in-If.no y o c.in-If.is c.in-Some.is c.deref.ensures c.deref-in-Err.ensures in
    c.body_in-in-Err.ensures ∙ sym (ap (λ a. body_at (bodies_inside a) c.args.number) k ∙ body-passed (bodies (plain_stmt y)) (bodies (plain_stmt o)) c.args.number c.in-Err.left (sym c.in-Err.ensures))
