use Rattle.std.proofs.Common.{◌≡◌, ◌+◌, ◌++◌, ◌<◌, ap, ◌∙◌, sym, subst, arith, length, drop, map, append_assoc}
use Rattle.std.proofs.lemmas.Grind.{common_steps}
use Rattle.std.proofs.lemmas.List.{map-append}
use Rattle.st_program.specs.Plain.{plain_stmt, plain_stmts}
use Rattle.st_program.specs.Spots.{bodies}
use Rattle.spl_semantics.specs.Data.{store_of, types, AlongMeets, AmongMeet}
use Rattle.spl_semantics.specs.Limits.{wide_along, wide_among}
use Rattle.spl_semantics.specs.Plain.{plain_act, plain_acts}
use Rattle.spl_semantics.specs.Steps.{first_acts, acts_along, acts_among}
use Rattle.spl_semantics.specs.Going.{around, join}
use Rattle.spl_semantics.proofs.Counting.{next-item, item-count}
use Rattle.spl_semantics.proofs.Exits.{or_none, appended-stores}
use Rattle.spl_semantics.proofs.actions.+first.Goals as goal

pub along_acts-returns-clause-steps : goal.along_acts-returns-clause-steps
along_acts-returns-clause-steps t c = λ b m.
    let xs = c.args.items.now in
    let s = store_of c.args.store.now in
    let o = c.args.occ in
    let x = c.index-items-0.result in
    let le : 0 < length xs = grind (arith, common_steps) in
    let e = next-item xs 0 x le c.index-items-0.is in
    let mm = subst (AlongMeets (types c.args.store.now)) e m in
    let n = item-count xs 0 x le c.index-items-0.is in
    let r = c.in_ok-inner.ensures.steps (omega (arith, b, n)) mm in (
      ap (λ l. wide_along l s) e ∙ r.0,
      c.in_ok-join_all.ensures.steps
          ∙ ap (map (around (λ r. join (plain_stmts xs) r o 1))) r.1
          ∙ ap (λ l. map (around (λ r. join l r o 1)) (first_acts (plain_stmt x) c.args.component s)) e
          ∙ sym (ap (λ l. acts_along l o c.args.component s) e),
    )

pub among_acts-loop-item-preserved : goal.among_acts-loop-item-preserved
among_acts-loop-item-preserved t c = λ m.
    let xs = c.args.items.now in
    let s = store_of c.args.store.now in
    let x = c.item-item.result in
    let k = c.loop-item.item-index in
    let at = c.loop-item.component in
    let rest = plain_stmts (drop (k + 1) xs) in
    let i = c.loop-item.invariant m in
    let e = next-item xs k x (omega arith) c.item-item.is in
    let n = item-count xs k x (omega arith) c.item-item.is in
    let mm = subst (AmongMeet (types c.args.store.now)) e i.meets in
    let made = c.in_ok-append.ensures.items in
    record {
      meets = mm.1;
      stores = appended-stores (types c.args.store.now) c.loop-item.acts.items c.in_ok-branch.branch.items c.append.new.self.items made i.stores (c.in_ok-branch.ensures.stores mm.0);
      steps = λ b.
          let j = i.steps b in
          let r = c.in_ok-branch.ensures.steps (omega (arith, j.0, n, b)) mm.0 in
          let next : c.saturating_add-component.result ≡ at + length (bodies (plain_stmt x)) = omega (arith, c.saturating_add-component.ensures, c.count_in.ensures, j.0, n, b) in (
            omega (arith, j.0, n, next),
            sym (ap (λ l. wide_among l s) e ∙ or_none _ _ r.0) ∙ j.1,
            ap (λ l. plain_acts l ++ acts_among rest c.saturating_add-component.result s) made
                ∙ ap (λ l. l ++ acts_among rest c.saturating_add-component.result s) (map-append plain_act c.loop-item.acts.items c.in_ok-branch.branch.items)
                ∙ append_assoc (plain_acts c.loop-item.acts.items) (plain_acts c.in_ok-branch.branch.items) (acts_among rest c.saturating_add-component.result s)
                ∙ ap (λ l. plain_acts c.loop-item.acts.items ++ (l ++ acts_among rest c.saturating_add-component.result s)) r.1
                ∙ ap (λ z. plain_acts c.loop-item.acts.items ++ (first_acts (plain_stmt x) at s ++ acts_among rest z s)) next
                ∙ ap (λ z. plain_acts c.loop-item.acts.items ++ z) (sym (ap (λ l. acts_among l at s) e))
                ∙ j.2,
          );
    }
