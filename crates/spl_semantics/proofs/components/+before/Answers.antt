use Rattle.std.proofs.Common.{◌≡◌, ◌+◌, suc, ap, sym, ◌∙◌, refl, arith, length, drop, [], ℕ, length-append}
use Rattle.st_program.specs.declared.trees.Child as GChild
use Rattle.st_program.specs.Plain.{plain_stmt, plain_stmts, plain_children, plain_kind}
use Rattle.st_program.specs.Spots.{entry, bodies, bodies_in, bodies_of, bodies_inside, spots, spots_along, spots_among, spots_inside, spots_within}
use Rattle.spl_semantics.specs.Numbers.{begun_before}
use Rattle.spl_semantics.proofs.Counting.{item-count, child-count, begun-found, begun-passed, along-next, among-next, inside-next, else-is}
use Rattle.spl_semantics.proofs.components.+before.Goals as goal

pub before_along-returns-in-Ok-clause-along : goal.before_along-returns-in-Ok-clause-along
before_along-returns-in-Ok-clause-along t c = λ h next.
    let i = c.loop-item.invariant h in
    let xs = c.args.items.now in
    let x = c.item-item.result in
    let n = item-count xs c.loop-item.item-index x (omega arith) c.item-item.is in
    let all = c.args.before + length (bodies_in (plain_stmts xs)) in
    let b = c.loop-item.begun in
    let e = along-next xs c.loop-item.item-index x (omega arith) c.item-item.is next b in
    let f = c.in-Ok.ensures (omega (arith, i.all, n)) (entry (plain_stmts (drop (c.loop-item.item-index + 1) xs)) next) in
    let k = c.loop-item.item-index + 1 in
    sym (sym (i.along next) ∙ ap (λ l. begun_before l c.args.occ all) e ∙ begun-found (spots (plain_stmt x) (entry (plain_stmts (drop k xs)) next) b) (spots_along (plain_stmts (drop k xs)) next (b + length (bodies (plain_stmt x)))) c.args.occ (b + length (bodies (plain_stmt x))) all c.in-Ok.found (sym f))

pub before_along-returns-in-Ok-clause-among : goal.before_along-returns-in-Ok-clause-among
before_along-returns-in-Ok-clause-among t c = λ h next.
    let i = c.loop-item.invariant h in
    let xs = c.args.items.now in
    let x = c.item-item.result in
    let n = item-count xs c.loop-item.item-index x (omega arith) c.item-item.is in
    let all = c.args.before + length (bodies_in (plain_stmts xs)) in
    let b = c.loop-item.begun in
    let e = among-next xs c.loop-item.item-index x (omega arith) c.item-item.is next b in
    let f = c.in-Ok.ensures (omega (arith, i.all, n)) next in
    let k = c.loop-item.item-index + 1 in
    sym (sym (i.among next) ∙ ap (λ l. begun_before l c.args.occ all) e ∙ begun-found (spots (plain_stmt x) next b) (spots_among (plain_stmts (drop k xs)) next (b + length (bodies (plain_stmt x)))) c.args.occ (b + length (bodies (plain_stmt x))) all c.in-Ok.found (sym f))

pub before_along-loop-item-preserved : goal.before_along-loop-item-preserved
before_along-loop-item-preserved t c = λ h.
    let i = c.loop-item.invariant h in
    let xs = c.args.items.now in
    let x = c.item-item.result in
    let k = c.loop-item.item-index + 1 in
    let n = item-count xs c.loop-item.item-index x (omega arith) c.item-item.is in
    let all = c.args.before + length (bodies_in (plain_stmts xs)) in
    let b = c.loop-item.begun in
    let f = λ (m : ℕ). begun-passed (spots (plain_stmt x) m b) [] c.args.occ (b + length (bodies (plain_stmt x))) all c.in-Err.passed (sym (c.in-Err.ensures (omega (arith, i.all, n)) m)) in
    record {
      all = omega (arith, i.all, n, (f 0).0);
      along = λ next.
          let m = entry (plain_stmts (drop k xs)) next in
          let r = begun-passed (spots (plain_stmt x) m b) (spots_along (plain_stmts (drop k xs)) next (b + length (bodies (plain_stmt x)))) c.args.occ (b + length (bodies (plain_stmt x))) all c.in-Err.passed (sym (c.in-Err.ensures (omega (arith, i.all, n)) m)) in
          ap (λ q. begun_before (spots_along (plain_stmts (drop k xs)) next q) c.args.occ all) r.0
          ∙ sym (ap (λ l. begun_before l c.args.occ all) (along-next xs c.loop-item.item-index x (omega arith) c.item-item.is next b) ∙ r.1)
          ∙ i.along next;
      among = λ next.
          let r = begun-passed (spots (plain_stmt x) next b) (spots_among (plain_stmts (drop k xs)) next (b + length (bodies (plain_stmt x)))) c.args.occ (b + length (bodies (plain_stmt x))) all c.in-Err.passed (sym (c.in-Err.ensures (omega (arith, i.all, n)) next)) in
          ap (λ q. begun_before (spots_among (plain_stmts (drop k xs)) next q) c.args.occ all) r.0
          ∙ sym (ap (λ l. begun_before l c.args.occ all) (among-next xs c.loop-item.item-index x (omega arith) c.item-item.is next b) ∙ r.1)
          ∙ i.among next;
    }

pub before_among-returns-in-Ok : goal.before_among-returns-in-Ok
before_among-returns-in-Ok t c = λ h.
    let i = c.loop-child.invariant h in
    let cs = c.args.children.now in
    let body = c.deref.result.now in
    let n = child-count cs c.loop-child.child-index c.child-item.result body (omega arith) c.child-item.is c.deref.ensures.value in
    let all = c.args.before + length (bodies_of (plain_children cs)) in
    let b = c.loop-child.begun in
    let s : c.saturating_add.result ≡ suc b = omega (arith, c.saturating_add.ensures, i.all, n) in
    let e = inside-next cs c.loop-child.child-index c.child-item.result body (omega arith) c.child-item.is c.deref.ensures.value b in
    let f = c.in-Ok.ensures.along (omega (arith, i.all, n, s)) (GChild.out-Child c.child-item.result).end in
    let g = f ∙ ap (λ q. begun_before (spots_along (plain_stmts body) (GChild.out-Child c.child-item.result).end q) c.args.occ (q + length (bodies_in (plain_stmts body)))) s in
    sym (sym i.inside ∙ ap (λ l. begun_before l c.args.occ all) e ∙ begun-found _ _ c.args.occ (suc b + length (bodies_in (plain_stmts body))) all c.in-Ok.found (sym g))

pub before_among-loop-child-preserved : goal.before_among-loop-child-preserved
before_among-loop-child-preserved t c = λ h.
    let i = c.loop-child.invariant h in
    let cs = c.args.children.now in
    let k = c.loop-child.child-index + 1 in
    let body = c.deref.result.now in
    let n = child-count cs c.loop-child.child-index c.child-item.result body (omega arith) c.child-item.is c.deref.ensures.value in
    let all = c.args.before + length (bodies_of (plain_children cs)) in
    let b = c.loop-child.begun in
    let s : c.saturating_add.result ≡ suc b = omega (arith, c.saturating_add.ensures, i.all, n) in
    let e = inside-next cs c.loop-child.child-index c.child-item.result body (omega arith) c.child-item.is c.deref.ensures.value b in
    let f = c.in-Err.ensures.along (omega (arith, i.all, n, s)) (GChild.out-Child c.child-item.result).end in
    let g = f ∙ ap (λ q. begun_before (spots_along (plain_stmts body) (GChild.out-Child c.child-item.result).end q) c.args.occ (q + length (bodies_in (plain_stmts body)))) s in
    let r = begun-passed (spots_along (plain_stmts body) (GChild.out-Child c.child-item.result).end (suc b)) (spots_inside (plain_children (drop k cs)) (suc b + length (bodies_in (plain_stmts body)))) c.args.occ (suc b + length (bodies_in (plain_stmts body))) all c.in-Err.passed (sym g) in
    record {
      all = omega (arith, i.all, n, r.0);
      inside = ap (λ q. begun_before (spots_inside (plain_children (drop k cs)) q) c.args.occ all) r.0 ∙ sym (ap (λ l. begun_before l c.args.occ all) e ∙ r.1) ∙ i.inside;
    }

pub before_inside-returns-in-Ok : goal.before_inside-returns-in-Ok
before_inside-returns-in-Ok t c = λ h place next.
    let y = c.deref.result.now in
    let o = c.in-Some.other.value in
    let b = c.args.before in
    let k = else-is c.args.kind.now c.in-If.test c.in-If.yes c.in-Some.other c.in-If.no y o c.in-If.is c.in-Some.is c.deref.ensures refl in
    let l = ap (λ a. length (bodies_inside a)) k ∙ length-append (bodies (plain_stmt y)) (bodies (plain_stmt o)) in
    let f = c.in-Ok.ensures (omega (arith, l, h)) next in
    sym (ap (λ a. begun_before (spots_within a place next b) c.args.occ (b + length (bodies_inside a))) k
    ∙ begun-found (spots (plain_stmt y) next b) _ c.args.occ (b + length (bodies (plain_stmt y))) _ c.in-Ok.found (sym f))

pub before_inside-returns-in-Err : goal.before_inside-returns-in-Err
before_inside-returns-in-Err t c = λ h place next.
    let y = c.deref.result.now in
    let o = c.deref-in-Err.result.now in
    let b = c.args.before in
    let k = else-is c.args.kind.now c.in-If.test c.in-If.yes c.in-Some.other c.in-If.no y o c.in-If.is c.in-Some.is c.deref.ensures c.deref-in-Err.ensures in
    let l = ap (λ a. length (bodies_inside a)) k ∙ length-append (bodies (plain_stmt y)) (bodies (plain_stmt o)) in
    let all = b + length (bodies_inside (plain_kind c.args.kind.now)) in
    let r = begun-passed (spots (plain_stmt y) next b) (spots (plain_stmt o) next (b + length (bodies (plain_stmt y)))) c.args.occ (b + length (bodies (plain_stmt y))) all c.in-Err.passed (sym (c.in-Err.ensures (omega (arith, l, h)) next)) in
    let f = c.before_in-in-Err.ensures (omega (arith, l, h, r.0)) next in
    let sum : c.in-Err.passed + length (bodies (plain_stmt o)) ≡ all = omega (arith, l, r.0) in
    f
    ∙ ap (λ q. begun_before (spots (plain_stmt o) next q) c.args.occ (c.in-Err.passed + length (bodies (plain_stmt o)))) r.0
    ∙ ap (λ q. begun_before (spots (plain_stmt o) next (b + length (bodies (plain_stmt y)))) c.args.occ q) sum
    ∙ sym (ap (λ a. begun_before (spots_within a place next b) c.args.occ all) k ∙ r.1)
