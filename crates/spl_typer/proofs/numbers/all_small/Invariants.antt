use Rattle.std.proofs.Common.{◌≡◌, drop}
use Rattle.spl_typer.specs.GroupViews.{path_views}
use Rattle.spl_typer.specs.Groups as rules
use Rattle.spl_typer.proofs.numbers.all_small.Given as goal

abbrev pub invariant-loop-path : goal.invariant-loop-path
invariant-loop-path l = rules.all_small l.at (path_views (drop l.path-index l.paths)) ≡ rules.all_small l.at (path_views l.paths)
