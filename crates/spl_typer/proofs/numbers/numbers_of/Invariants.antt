use Rattle.std.proofs.Common.{◌≡◌, drop, []}
use Rattle.st_program.specs.Plain.{plain_targets}
use Rattle.spl_typer.specs.Groups as rules
use Rattle.spl_typer.proofs.numbers.numbers_of.Given as goal

abbrev pub invariant-loop-change : goal.invariant-loop-change
invariant-loop-change l =
    rules.numbers_of l.at l.numbers l.out.items (plain_targets (drop l.change-index l.changes)) ≡ rules.numbers_of l.at l.numbers [] (plain_targets l.changes)
