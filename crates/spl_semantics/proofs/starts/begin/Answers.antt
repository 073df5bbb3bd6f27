use Rattle.std.proofs.Common.{◌≡◌, ◌+◌, suc, ap, sym, ◌∙◌, arith, length, drop, ◌∷◌}
use Rattle.std.proofs.Math.ListN.{drop_of_length-le}
use Rattle.st_program.specs.Plain.{plain_stmts, plain_children}
use Rattle.st_program.specs.Spots.{bodies_in}
use Rattle.st_program.specs.Residuals.{Done}
use Rattle.spl_semantics.specs.Going.{join, begin}
use Rattle.spl_semantics.proofs.Counting.{child-count}
use Rattle.spl_semantics.proofs.Starting.{rest_list, made-whole, begin-next, push-rest}
use Rattle.spl_semantics.proofs.starts.begin.Goals as goal

pub loop-child-preserved : goal.loop-child-preserved
loop-child-preserved c = λ h.
    let i = c.loop-child.invariant h in
    let cs = c.args.children.now in
    let k = c.loop-child.child-index in
    let body = c.deref.result.now in
    let n = child-count cs k c.child-item.result body (omega arith) c.child-item.is c.deref.ensures.value in
    let same_body : c.deref-in-loop-child.result.now ≡ body = c.deref-in-loop-child.ensures.value ∙ sym c.deref.ensures.value in
    let d = ap (λ l. length (bodies_in (plain_stmts l))) same_body in
    let s : c.saturating_add-number.result ≡ suc c.loop-child.number + length (bodies_in (plain_stmts body)) =
    omega (arith, c.saturating_add-number.ensures, c.saturating_add.ensures, c.count_along.ensures, d, n, i.all, h) in
    record {
      all = omega (arith, s, n, i.all);
      same = push-rest c.loop-child.residuals.items c.push.new.self.items c.in_ok-join.field-0 _ (rest_list (begin (plain_children (drop (k + 1) cs)) c.saturating_add-number.result)) _ _ c.in_ok-push.ensures.items c.in_ok-join.ensures
          (begin-next cs k c.child-item.result body c.loop-child.number (omega arith) c.child-item.is c.deref.ensures.value
          ∙ ap (λ z. join (plain_stmts body) Done c.loop-child.number 0 ∷ rest_list (begin (plain_children (drop (k + 1) cs)) z)) (sym s))
          i.same;
    }

pub returns : goal.returns
returns c = λ h.
    let i = c.loop-child.invariant h in
    made-whole c.loop-child.residuals.items _ (begin (plain_children c.args.children.now) c.args.component)
    (ap (λ l. rest_list (begin (plain_children l) c.loop-child.number)) (drop_of_length-le c.args.children.now c.loop-child-test.false)) i.same
