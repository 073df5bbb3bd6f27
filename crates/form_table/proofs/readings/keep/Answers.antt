use Rattle.form_table.proofs.Recalling.{read-set}
use Rattle.form_table.proofs.readings.keep.Goals as goal

pub returns-in-Some : goal.returns-in-Some
returns-in-Some c ts h k = read-set ts _ c.place_of-place.result c.args.reading (c.widen.ensures ts h) k
