use Rattle.std.proofs.Common.{◌≡◌, ◌≤◌, ◌-◌, ◌++◌, length, take, drop}
use Rattle.st_program.specs.Groups.{inserted}
use Rattle.spl_typer.proofs.numbers.insert.Given as goal

abbrev pub invariant-loop-i : goal.invariant-loop-i
invariant-loop-i g l = record {
  within : l.i ≤ length l.list.items;
  same : take l.i l.list.items ++ inserted l.var l.value (drop l.i l.list.items) ≡ inserted l.var l.value l.list.items;
}

abbrev pub decreases-loop-i : goal.decreases-loop-i
decreases-loop-i g l = length l.list.items - l.i
