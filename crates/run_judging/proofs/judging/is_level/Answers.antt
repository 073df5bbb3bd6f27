use Rattle.std.proofs.Common.{◌-◌, ◌≤◌, length, false, inl, inr, arith, sym}
use Rattle.std.proofs.lemmas.Bool.{cases_lt}
use Rattle.run_judging.proofs.Levels.{level-at, level-none}
use Rattle.run_judging.proofs.judging.is_level.Goals as goal

pub returns-then-level-row : goal.returns-then-level-row
returns-then-level-row c = level-at c.args.row.now c.loop-index.index c.args.level false (omega arith) (omega arith)

pub returns : goal.returns
returns c =
    let row = c.args.row.now in
    let passed : length row ≤ c.args.level = elim (cases_lt c.args.level (length row)) [
      | inl less ↦ absurd (c.loop-index.invariant (length row - 1 - c.args.level) (omega arith) (omega arith))
      | inr more ↦ more
    ] in
    sym (level-none row c.args.level passed)
