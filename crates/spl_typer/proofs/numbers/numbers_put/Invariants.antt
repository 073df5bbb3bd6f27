use Rattle.std.proofs.Common.{◌≡◌}
use Rattle.spl_typer.specs.Groups as rules
use Rattle.spl_typer.proofs.numbers.numbers_put.Given as goal

abbrev pub invariant-loop-var : goal.invariant-loop-var
invariant-loop-var l = rules.numbers_put l.var-iterator.rest.items l.numbers.items ≡ rules.numbers_put l.fn.new.items l.fn.numbers.items
