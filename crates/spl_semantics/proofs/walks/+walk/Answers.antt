use Rattle.std.proofs.Common.{◌≡◌, suc, ◌+◌, ◌*◌, ◌-◌, ◌^◌, Some, min, ap, ◌∙◌, sym, subst, refl, arith, length, drop}
use Rattle.std.specs.Option.{option_map}
use Rattle.st_form.specs.Plain.{plain}
use Rattle.st_program.specs.Groups.{paths, paths_along}
use Rattle.st_program.specs.Plain.{plain_inner, plain_pieces}
use Rattle.spl_semantics.specs.Data.{store_of, types, PieceMeets}
use Rattle.spl_semantics.specs.Plain.{plain_walk, WalkOfTypes}
use Rattle.spl_semantics.specs.Walks as walks
use Rattle.spl_semantics.proofs.Exits.{handed}
use Rattle.spl_semantics.proofs.Walking.{Walks, length-if, some_along, factor, product-room, walks-meets, walks-few, walks-wide, walks-none, walks-next, walk-below, walk_along-below}
use Rattle.spl_semantics.proofs.Pieces.{if-is, next-piece, same-answer, if-taken, if-other}
use Rattle.spl_semantics.proofs.walks.+walk.Goals as goal

pub walk-returns-then-branch-2-clause-steps : goal.walk-returns-then-branch-2-clause-steps
walk-returns-then-branch-2-clause-steps t c = λ m h.
    let s = store_of c.args.store.now in
    let ys = plain_pieces c.deref-then-branch-2.result.now in
    let ns = plain_pieces c.in-If.no.items in
    let f = plain c.in-If.test in
    let k = if-is c.args.piece.now c.in-If.test c.in-If.yes c.in-If.no _ _ c.in-If.is c.deref-then-branch-2.ensures.value refl in
    let mm = subst (PieceMeets (types c.args.store.now)) k m in
    let l = ap (λ p. length (paths p)) k ∙ length-if f ys ns in
    let o = if-taken f ys ns s c.in_ok-is_true-in-If.ensures.0 (sym c.in_ok-is_true-in-If.ensures.1 ∙ c.if-branch-2.true) in
    same-answer plain_walk c.walk_along.result _ _ _ _ (sym (ap (λ p. walks.wide_walk p s) k ∙ o.0)) (sym (ap (λ p. walks.walk p s) k ∙ o.1)) (c.walk_along.ensures.steps mm.0 (omega (arith, l, h)))

pub walk-returns-then-branch-2-clause-stores : goal.walk-returns-then-branch-2-clause-stores
walk-returns-then-branch-2-clause-stores t c = λ m h.
    let ys = plain_pieces c.deref-then-branch-2.result.now in
    let ns = plain_pieces c.in-If.no.items in
    let f = plain c.in-If.test in
    let k = if-is c.args.piece.now c.in-If.test c.in-If.yes c.in-If.no _ _ c.in-If.is c.deref-then-branch-2.ensures.value refl in
    let mm = subst (PieceMeets (types c.args.store.now)) k m in
    let l = ap (λ p. length (paths p)) k ∙ length-if f ys ns in
    c.walk_along.ensures.stores mm.0 (omega (arith, l, h))

pub walk-returns-in_err-number-in-If-clause-steps : goal.walk-returns-in_err-number-in-If-clause-steps
walk-returns-in_err-number-in-If-clause-steps t c = λ m h.
    let s = store_of c.args.store.now in
    let ys = plain_pieces c.in-If.yes.items in
    let ns = plain_pieces c.deref-in-If.result.now in
    let f = plain c.in-If.test in
    let k = if-is c.args.piece.now c.in-If.test c.in-If.yes c.in-If.no _ _ c.in-If.is refl c.deref-in-If.ensures.value in
    let mm = subst (PieceMeets (types c.args.store.now)) k m in
    let l = ap (λ p. length (paths p)) k ∙ length-if f ys ns in
    let o = if-other f ys ns s c.in_ok-is_true-in-If.ensures.0 (sym c.in_ok-is_true-in-If.ensures.1 ∙ c.if-branch-2.false) in
    handed plain_walk c.from_residual-in_err-number-in-If.result c.in_err-number-in-If.field-0.0 _ _ _ c.from_residual-in_err-number-in-If.ensures.1
    (c.in_err-number-in-If.ensures.steps mm.1 (omega (arith, l, h))) (λ e. ap (λ p. walks.wide_walk p s) k ∙ o.0 ∙ e)

pub walk-returns-in-Some-clause-steps : goal.walk-returns-in-Some-clause-steps
walk-returns-in-Some-clause-steps t c = λ m h.
    let s = store_of c.args.store.now in
    let ys = plain_pieces c.deref-in-Some.result.now in
    let ns = plain_pieces c.deref-in-If.result.now in
    let f = plain c.in-If.test in
    let k = if-is c.args.piece.now c.in-If.test c.in-If.yes c.in-If.no _ _ c.in-If.is c.deref-in-Some.ensures.value c.deref-in-If.ensures.value in
    let mm = subst (PieceMeets (types c.args.store.now)) k m in
    let l = ap (λ p. length (paths p)) k ∙ length-if f ys ns in
    let o = if-other f ys ns s c.in_ok-is_true-in-If.ensures.0 (sym c.in_ok-is_true-in-If.ensures.1 ∙ c.if-branch-2.false) in
    let e = c.in_ok-number-in-If.ensures.steps mm.1 (omega (arith, l, h)) in
    let w = ap plain_walk (sym c.in-Some.is) ∙ e.1 in
    let b = walk_along-below ns s (c.in-Some.number, store_of c.in-Some.after.items) (sym w) in
    let q : length (paths_along ys) + c.in-Some.number ≡ c.saturating_add.result = omega (arith, l, h, b, c.saturating_add.ensures, c.ways_along.ensures (omega (arith, l, h))) in (
      ap (λ p. walks.wide_walk p s) k ∙ o.0 ∙ e.0,
      sym (ap (λ p. walks.walk p s) k ∙ o.1 ∙ ap (option_map (λ w. (length (paths_along ys) + w.0, w.1))) (sym w) ∙ ap (λ n. Some (n, store_of c.in-Some.after.items)) q),
    )

pub walk-returns-in-Some-clause-stores : goal.walk-returns-in-Some-clause-stores
walk-returns-in-Some-clause-stores t c = λ m h.
    let ys = plain_pieces c.in-If.yes.items in
    let ns = plain_pieces c.deref-in-If.result.now in
    let f = plain c.in-If.test in
    let k = if-is c.args.piece.now c.in-If.test c.in-If.yes c.in-If.no _ _ c.in-If.is refl c.deref-in-If.ensures.value in
    let mm = subst (PieceMeets (types c.args.store.now)) k m in
    let l = ap (λ p. length (paths p)) k ∙ length-if f ys ns in
    subst (WalkOfTypes (types c.args.store.now)) c.in-Some.is (c.in_ok-number-in-If.ensures.stores mm.1 (omega (arith, l, h)))

pub walk-returns-in-None-clause-steps : goal.walk-returns-in-None-clause-steps
walk-returns-in-None-clause-steps t c = λ m h.
    let s = store_of c.args.store.now in
    let ys = plain_pieces c.in-If.yes.items in
    let ns = plain_pieces c.deref-in-If.result.now in
    let f = plain c.in-If.test in
    let k = if-is c.args.piece.now c.in-If.test c.in-If.yes c.in-If.no _ _ c.in-If.is refl c.deref-in-If.ensures.value in
    let mm = subst (PieceMeets (types c.args.store.now)) k m in
    let l = ap (λ p. length (paths p)) k ∙ length-if f ys ns in
    let o = if-other f ys ns s c.in_ok-is_true-in-If.ensures.0 (sym c.in_ok-is_true-in-If.ensures.1 ∙ c.if-branch-2.false) in
    let e = c.in_ok-number-in-If.ensures.steps mm.1 (omega (arith, l, h)) in
    let w = ap plain_walk (sym c.in-None.is) ∙ e.1 in (
      ap (λ p. walks.wide_walk p s) k ∙ o.0 ∙ e.0,
      sym (ap (λ p. walks.walk p s) k ∙ o.1 ∙ ap (option_map (λ w. (length (paths_along ys) + w.0, w.1))) (sym w)),
    )

pub walk_along-returns-in_err-digit-clause-steps : goal.walk_along-returns-in_err-digit-clause-steps
walk_along-returns-in_err-digit-clause-steps t c = λ m h.
    let ts = types c.args.store.now in
    let xs = plain_pieces c.args.pieces.now in
    let s = store_of c.args.store.now in
    let n = c.loop-piece.number in
    let x = plain_inner c.piece-item.result in
    let left = plain_pieces (drop c.loop-piece.piece-index c.args.pieces.now) in
    let rest = plain_pieces (drop (c.loop-piece.piece-index + 1) c.args.pieces.now) in
    let i = subst (λ d. Walks ts xs s n left (types d) (store_of d)) (sym c.deref.ensures.value) (c.loop-piece.invariant m h) in
    let e = next-piece c.args.pieces.now c.loop-piece.piece-index c.piece-item.result (omega arith) c.piece-item.is in
    let d = c.deref.result.now in
    handed plain_walk c.from_residual-in_err-digit.result c.in_err-digit.field-0.0 _ _ _ c.from_residual-in_err-digit.ensures.1
    (c.in_err-digit.ensures.steps (walks-meets ts xs s n left x rest (types d) (store_of d) e i) (walks-few ts xs s n left x rest (types d) (store_of d) e i))
    (walks-wide ts xs s n left x rest (types d) (store_of d) e i)

pub walk_along-returns-in-None-clause-steps : goal.walk_along-returns-in-None-clause-steps
walk_along-returns-in-None-clause-steps t c = λ m h.
    let ts = types c.args.store.now in
    let xs = plain_pieces c.args.pieces.now in
    let s = store_of c.args.store.now in
    let n = c.loop-piece.number in
    let x = plain_inner c.piece-item.result in
    let left = plain_pieces (drop c.loop-piece.piece-index c.args.pieces.now) in
    let rest = plain_pieces (drop (c.loop-piece.piece-index + 1) c.args.pieces.now) in
    let i = subst (λ d. Walks ts xs s n left (types d) (store_of d)) (sym c.deref.ensures.value) (c.loop-piece.invariant m h) in
    let e = next-piece c.args.pieces.now c.loop-piece.piece-index c.piece-item.result (omega arith) c.piece-item.is in
    let d = c.deref.result.now in
    let r = c.in_ok-digit.ensures.steps (walks-meets ts xs s n left x rest (types d) (store_of d) e i) (walks-few ts xs s n left x rest (types d) (store_of d) e i) in
    walks-none ts xs s n left x rest (types d) (store_of d) e i r.0 (sym r.1 ∙ ap plain_walk c.in-None.is)

pub walk_along-loop-piece-preserved : goal.walk_along-loop-piece-preserved
walk_along-loop-piece-preserved t c = λ m h.
    let ts = types c.args.store.now in
    let xs = plain_pieces c.args.pieces.now in
    let s = store_of c.args.store.now in
    let n = c.loop-piece.number in
    let x = plain_inner c.piece-item.result in
    let left = plain_pieces (drop c.loop-piece.piece-index c.args.pieces.now) in
    let rest = plain_pieces (drop (c.loop-piece.piece-index + 1) c.args.pieces.now) in
    let i = subst (λ d. Walks ts xs s n left (types d) (store_of d)) (sym c.deref.ensures.value) (c.loop-piece.invariant m h) in
    let e = next-piece c.args.pieces.now c.loop-piece.piece-index c.piece-item.result (omega arith) c.piece-item.is in
    let d = c.deref.result.now in
    let few = walks-few ts xs s n left x rest (types d) (store_of d) e i in
    let meets = walks-meets ts xs s n left x rest (types d) (store_of d) e i in
    let r = c.in_ok-digit.ensures.steps meets few in
    let w = sym r.1 ∙ ap plain_walk c.in-Some.is in
    let b = walk-below x (store_of d) (c.in-Some.digit, store_of c.in-Some.after.items) w in
    let f = factor (suc n) (length (paths x)) (length (paths_along rest)) (some_along rest) (product-room ts xs s n left x rest (types d) (store_of d) e i) in
    let p = c.saturating_mul.ensures ∙ ap (λ z. min (n * z) (2 ^ 32 - 1)) (c.ways.ensures few) in
    let q : c.saturating_add-number.result ≡ n * length (paths x) + c.in-Some.digit = omega (arith, p, c.saturating_add-number.ensures, f, b) in
    walks-next ts xs s n left x rest (types d) (store_of d) e i (c.in-Some.digit, store_of c.in-Some.after.items) (types c.in-Some.after.items) c.saturating_add-number.result r.0 w q
    (subst (WalkOfTypes (types d)) c.in-Some.is (c.in_ok-digit.ensures.stores meets few))
