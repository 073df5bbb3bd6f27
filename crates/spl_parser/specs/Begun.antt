-- How much of a statement was read before it is told what it is.
use Rattle.std.specs.Prelude.{Bool}
use Rattle.st_reading.specs.Reading.{Label}
use Rattle.st_reading.specs.Faults.{name_view}
use Rattle.spl_parser.specs.declared.begun.Begun as code
use Rattle.spl_parser.specs.declared.begun.Begun.TheVariants as begun

-- How much of a statement was read before: nothing (`true` inside a group); its first name, with no colon behind it; or
-- its label.
pub data Begun : Type 0 where
  fresh : Bool → Begun
  after_name : Label → Begun
  after_label : Label → Begun

abbrev pub begun_view : code.Begun → Begun
begun_view (begun.Fresh inner) = fresh inner
begun_view (begun.AfterName l) = after_name (name_view l)
begun_view (begun.AfterLabel l) = after_label (name_view l)
