use Rattle.std.proofs.Common.{◌≡◌, drop, map, []}
use Rattle.spl_typer.specs.GroupViews.{link_view}
use Rattle.spl_typer.specs.Groups as rules
use Rattle.spl_typer.proofs.numbers.numbers_on.Given as goal

abbrev pub invariant-loop-link : goal.invariant-loop-link
invariant-loop-link l =
    rules.numbers_on l.at (map link_view (drop l.link-index l.path)) l.numbers.items ≡ rules.numbers_on l.at (map link_view l.path) []
