-- A line that may be there, as a list.
use Rattle.std.specs.Prelude.{List, [], ◌∷◌, Option, Some, None}
use Rattle.st_linear.specs.declared.rows.Line.{Line}
use Rattle.farkas_leaf.specs.declared.terms.LentLine.{LentLine}
use Rattle.farkas_leaf.specs.Lent.{lent_line}

abbrev pub lines_in : Option LentLine → List Line
lines_in None = []
lines_in (Some l) = lent_line l ∷ []
