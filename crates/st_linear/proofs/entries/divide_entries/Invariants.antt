use Rattle.std.proofs.Common.{◌≡◌, map, take, pos}
use Rattle.std.specs.Int.{int_div_euclid}
use Rattle.st_linear.proofs.entries.divide_entries.Given as goal

abbrev pub invariant-loop-e : goal.invariant-loop-e
invariant-loop-e l = l.out.items ≡ map (λ e. (e.0, int_div_euclid e.1 (pos l.by))) (take l.e-index l.entries)
