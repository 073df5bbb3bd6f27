use Rattle.std.proofs.Common.{◌≡◌, ◌++◌, map, drop}
use Rattle.farkas_leaf.specs.Lent.{lent_line}
use Rattle.lean_elimination.proofs.lent.copied.Given as goal

abbrev pub invariant-loop-line : goal.invariant-loop-line
invariant-loop-line l = l.out.items ++ map lent_line (drop l.line-index l.lines) ≡ map lent_line l.lines
