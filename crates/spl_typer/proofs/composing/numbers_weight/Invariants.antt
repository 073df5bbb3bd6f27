use Rattle.std.proofs.Common.{◌≡◌, drop}
use Rattle.spl_typer.specs.Groups as rules
use Rattle.spl_typer.proofs.composing.numbers_weight.Given as goal

abbrev pub invariant-loop-pair : goal.invariant-loop-pair
invariant-loop-pair l = rules.numbers_weight l.weight (drop l.pair-index l.numbers) ≡ rules.numbers_weight l.fn.weight l.numbers
