-- Lines whose forms are lent, as lines.
use Rattle.st_linear.specs.declared.rows.Line.{Line}
use Rattle.farkas_leaf.specs.declared.terms.LentLine.{LentLine}

abbrev pub lent_line : LentLine → Line
lent_line l = record { form = l.form.now; equal = l.equal }
