use Rattle.std.proofs.Common.{◌≡◌, drop, None}
use Rattle.elimination_laws.specs.Stages.{forms}
use Rattle.row_elimination.specs.Plain.{rows}
use Rattle.elimination_laws.specs.Points.{lowest}
use Rattle.row_elimination.proofs.point.lowest.Given as goal

abbrev pub invariant-loop-row : goal.invariant-loop-row
invariant-loop-row l = lowest l.var l.values (forms (rows (drop l.row-index l.bounds))) l.best ≡ lowest l.var l.values (forms (rows l.bounds)) None
