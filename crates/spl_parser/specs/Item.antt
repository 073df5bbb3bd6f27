-- What stands behind a ";" in a body.
use Rattle.st_reading.specs.Reading.{Label}
use Rattle.st_reading.specs.Faults.{name_view}
use Rattle.spl_parser.specs.declared.item.Item as code
use Rattle.spl_parser.specs.declared.item.Item.TheVariants as items
use Rattle.spl_parser.specs.ProgramTree.{Statement, statement_view}

-- the label of its end, with the "]", or a statement
pub data Item : Type 0 where
  last : Label → Item
  item : Statement → Item

abbrev pub item_view : code.Item → Item
item_view (items.Last l) = last (name_view l)
item_view (items.Statement x) = item (statement_view x)
