-- Which place a line and a column stand for.
use Rattle.std.specs.Prelude.{◌≡◌, ℕ, ◌+◌, ◌≤◌, List, take, drop, length}
use Rattle.source_lines.specs.declared.units.Units.{Units}
use Rattle.source_lines.specs.declared.lines.Lines.{Lines}
use Rattle.source_lines.specs.Lines.{BeginsCharacter, feeds, last_line, total}

abbrev pub text_of : Lines → List ℕ
text_of lines = lines.text.now

-- so many lines, and so many units in the last of them, stand before the place p of a character
pub record IsBehind (text : List ℕ) (units : Units) (line count p : ℕ) : Type 0 where
  pub within : p ≤ length text
  pub begins : BeginsCharacter (drop p text)
  pub line_is : line ≡ 1 + feeds (take p text)
  pub count_is : count ≡ total units (last_line (take p text))
