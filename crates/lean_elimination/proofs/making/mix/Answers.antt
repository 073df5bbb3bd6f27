use Rattle.std.proofs.Common.{arith, ap, ◌^◌}
use mir.Syntax.{w64}
use Rattle.std.proofs.lemmas.Int.{to_z-of_z}
use Rattle.elimination_laws.proofs.Mixes.{mixed_entries-is}
use Rattle.lean_elimination.specs.Arenas.{tracks, row_at}
use Rattle.lean_elimination.proofs.Bounds.{bounded-mix, bounded-at}
use Rattle.lean_elimination.proofs.Growing.{row-is}
use Rattle.lean_elimination.proofs.Mixing.{mixed-row, bounded-row, constant-is}
use Rattle.lean_elimination.proofs.Narrowing.{to_z-narrow}
use Rattle.lean_elimination.proofs.making.mix.Goals as goal

pub invariant_of-result : goal.invariant_of-result
invariant_of-result c =
    let k = constant-is _ _ _ _ _ c.in_ok-constant.ensures in
    record {
      constant_within = rw (to_z-narrow (2 ^ 62) c.in_ok-constant.constant (omega arith) k) k;
      entries_within = (mixed_entries-is _ _ _ _ _ _ c.in_ok-entries.ensures).1;
    }

pub returns-clause-same : goal.returns-clause-same
returns-clause-same c =
    let rs = c.args.arena.now.rows.items in
    let s = c.index-s.result.now in
    let t = c.index-t.result.now in
    let q = c.in_ok-parts.ensures in
    let x = to_z-of_z w64 c.args.x c.ranges.x in
    let y = to_z-of_z w64 c.args.y c.ranges.y in
    let k = to_z-narrow (2 ^ 62) c.in_ok-constant.constant (omega arith) (constant-is _ _ _ _ _ c.in_ok-constant.ensures) in
    let b = bounded-mix s.bound t.bound c.in_ok-bound.bound c.args.x (row_at (tracks rs) c.args.i).picks c.args.y (row_at (tracks rs) c.args.j).picks
    (rw (← c.index-s.ensures) at (bounded-at rs (tracks rs) c.args.i s c.args.arena.now.bounded c.requires.i))
    (rw (← c.index-t.ensures) at (bounded-at rs (tracks rs) c.args.j t c.args.arena.now.bounded c.requires.j))
    (rw (x, y) at c.in_ok-bound.ensures.value) c.in_ok-bound.ensures.small in
    rw (q.x, q.first, q.y, q.second, x, y, k) (mixed-row c.args.equal c.args.x c.args.y c.in_ok-constant.constant s.constant t.constant _ _ c.in_ok-entries.entries.items s.entries.items t.entries.items c.in_ok-bound.bound
    (ap (λ u. u.form) (row-is rs c.args.i s c.requires.i c.index-s.ensures))
    (ap (λ u. u.form) (row-is rs c.args.j t c.requires.j c.index-t.ensures))
    (rw (x, y) at c.in_ok-constant.ensures)
    (rw (x, y, c.as_slice.ensures, c.as_slice-2.ensures) at c.in_ok-entries.ensures) b)

pub returns-clause-bounded : goal.returns-clause-bounded
returns-clause-bounded c =
    let rs = c.args.arena.now.rows.items in
    let s = c.index-s.result.now in
    let t = c.index-t.result.now in
    let q = c.in_ok-parts.ensures in
    let x = to_z-of_z w64 c.args.x c.ranges.x in
    let y = to_z-of_z w64 c.args.y c.ranges.y in
    let b = bounded-mix s.bound t.bound c.in_ok-bound.bound c.args.x (row_at (tracks rs) c.args.i).picks c.args.y (row_at (tracks rs) c.args.j).picks
    (rw (← c.index-s.ensures) at (bounded-at rs (tracks rs) c.args.i s c.args.arena.now.bounded c.requires.i))
    (rw (← c.index-t.ensures) at (bounded-at rs (tracks rs) c.args.j t c.args.arena.now.bounded c.requires.j))
    (rw (x, y) at c.in_ok-bound.ensures.value) c.in_ok-bound.ensures.small in
    rw (q.x, q.first, q.y, q.second, x, y) (bounded-row c.in_ok-bound.bound c.args.x c.args.y _ _ b)
