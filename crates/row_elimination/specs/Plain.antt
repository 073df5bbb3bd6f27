use Rattle.std.specs.Prelude.{List, map}
use Rattle.row_elimination.specs.declared.row.Row.{Row}
use Rattle.elimination_laws.specs.Mixing.{Tracked}

-- a line on the way, as plain data
abbrev pub tracked_row : Row → Tracked
tracked_row r = record {
  form = record { constant = r.constant; entries = r.entries.items };
  equal = r.equal;
  picks = r.picks.items;
}

abbrev pub rows : List Row → List Tracked
rows rs = map tracked_row rs
