use Rattle.std.proofs.Common.{◌≡◌, true, false, drop, subst, sym, ap, ◌∙◌, arith}
use Rattle.std.specs.Prelude.{slice_set}
use Rattle.std.specs.List.{insert}
use Rattle.spl_translation.specs.Making.{place_of, begins_with}
use Rattle.spl_translation.proofs.Insertions.{place_le, inserted_here, inserted_new}
use Rattle.spl_translation.proofs.right_sides.put_pair.Goals as goal

pub insert-requires : goal.insert-requires
insert-requires g c =
    let h = place_le c.args.var c.deref.result.now in
    let e = c.place_of-place.ensures in
    omega (arith, c.deref.ensures.len)

pub returns-then-stands_at : goal.returns-then-stands_at
returns-then-stands_at g c =
    let items = c.args.pairs.now.items in
    let place = c.place_of-place.result in
    let var = c.args.var in
    let e = c.place_of-place.ensures ∙ ap (place_of var) c.deref.ensures.value in
    let t = ap (λ z. begins_with var (drop place z)) (sym c.deref-2.ensures.value) ∙ sym c.stands_at.ensures ∙ c.if-stands_at.true in
    ap (λ z. slice_set items z (var, c.args.value)) e ∙ inserted_here var c.args.value items (subst (λ z. begins_with var (drop z items) ≡ true) e t)

pub returns-in_ok-insert : goal.returns-in_ok-insert
returns-in_ok-insert g c =
    let items = c.args.pairs.now.items in
    let place = c.place_of-place.result in
    let var = c.args.var in
    let e = c.place_of-place.ensures ∙ ap (place_of var) c.deref.ensures.value in
    let t = ap (λ z. begins_with var (drop place z)) (sym c.deref-2.ensures.value) ∙ sym c.stands_at.ensures ∙ c.if-stands_at.false in
    c.in_ok-insert.ensures.items
    ∙ ap (λ z. insert items z (var, c.args.value)) e
    ∙ inserted_new var c.args.value items (subst (λ z. begins_with var (drop z items) ≡ false) e t)
