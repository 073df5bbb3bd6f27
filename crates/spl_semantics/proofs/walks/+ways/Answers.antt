use Rattle.std.proofs.Common.{◌*◌, ◌-◌, ◌^◌, min, ap, ◌∙◌, sym, arith, length, drop, ◌+◌}
use Rattle.st_program.specs.Groups.{paths, paths_along}
use Rattle.st_program.specs.Plain.{plain_inner, plain_pieces}
use Rattle.st_form.specs.Plain.{plain}
use Rattle.spl_semantics.proofs.Walking.{length-piece, length-if, some_path, some_along}
use Rattle.spl_semantics.proofs.Pieces.{if-is, next-piece, ways-step}
use Rattle.spl_semantics.proofs.walks.+ways.Goals as goal

pub ways-returns-in-If : goal.ways-returns-in-If
ways-returns-in-If t c = λ h.
    let ys = c.deref.result.now in
    let ns = c.deref-in-If.result.now in
    let k = if-is c.args.piece.now c.in-If.test c.in-If.yes c.in-If.no ys ns c.in-If.is c.deref.ensures.value c.deref-in-If.ensures.value in
    let l = ap (λ p. length (paths p)) k ∙ length-if (plain c.in-If.test) (plain_pieces ys) (plain_pieces ns) in
    omega (arith, l, h, c.saturating_add.ensures, c.ways_along.ensures (omega (arith, l, h)), c.ways_along-in-If.ensures (omega (arith, l, h)))

pub ways_along-loop-piece-preserved : goal.ways_along-loop-piece-preserved
ways_along-loop-piece-preserved t c = λ h.
    let i = c.loop-piece.invariant h in
    let xs = c.args.pieces.now in
    let x = plain_inner c.piece-item.result in
    let rest = plain_pieces (drop (c.loop-piece.piece-index + 1) xs) in
    let l = ap (λ p. length (paths_along p)) (next-piece xs c.loop-piece.piece-index c.piece-item.result (omega arith) c.piece-item.is) ∙ length-piece x rest in
    ways-step c.loop-piece.count (length (paths x)) (length (paths_along rest)) (length (paths_along (plain_pieces xs))) c.ways.result c.saturating_mul-count.result i.0 (some_path x) (some_along rest) h
    (ap (λ z. c.loop-piece.count * z) (sym l) ∙ i.1)
    c.ways.ensures
    (λ e. c.saturating_mul-count.ensures ∙ ap (λ z. min (c.loop-piece.count * z) (2 ^ 32 - 1)) e)
