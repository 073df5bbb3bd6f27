use Rattle.std.proofs.Common.{◌≡◌, ◌+◌, ◌^◌, ◌<◌, ℕ, length, drop}
use Rattle.st_program.specs.Plain.{plain_stmts, plain_children}
use Rattle.st_program.specs.Spots.{bodies_in, bodies_of, spots_along, spots_among, spots_inside}
use Rattle.spl_semantics.specs.Numbers.{begun_before}
use Rattle.spl_semantics.proofs.components.+before.Given as goal

abbrev pub invariant-before_along-loop-item : goal.invariant-before_along-loop-item
invariant-before_along-loop-item l = l.before + length (bodies_in (plain_stmts l.items)) < 2 ^ 32 → record {
  all : l.begun + length (bodies_in (plain_stmts (drop l.item-index l.items))) ≡ l.before + length (bodies_in (plain_stmts l.items));
  along : (next : ℕ) → begun_before (spots_along (plain_stmts (drop l.item-index l.items)) next l.begun) l.occ (l.before + length (bodies_in (plain_stmts l.items)))
      ≡ begun_before (spots_along (plain_stmts l.items) next l.before) l.occ (l.before + length (bodies_in (plain_stmts l.items)));
  among : (next : ℕ) → begun_before (spots_among (plain_stmts (drop l.item-index l.items)) next l.begun) l.occ (l.before + length (bodies_in (plain_stmts l.items)))
      ≡ begun_before (spots_among (plain_stmts l.items) next l.before) l.occ (l.before + length (bodies_in (plain_stmts l.items)));
}

abbrev pub invariant-before_among-loop-child : goal.invariant-before_among-loop-child
invariant-before_among-loop-child l = l.before + length (bodies_of (plain_children l.children)) < 2 ^ 32 → record {
  all : l.begun + length (bodies_of (plain_children (drop l.child-index l.children))) ≡ l.before + length (bodies_of (plain_children l.children));
  inside : begun_before (spots_inside (plain_children (drop l.child-index l.children)) l.begun) l.occ (l.before + length (bodies_of (plain_children l.children)))
      ≡ begun_before (spots_inside (plain_children l.children) l.before) l.occ (l.before + length (bodies_of (plain_children l.children)));
}
