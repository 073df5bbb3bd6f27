use Rattle.std.proofs.Common.{List}
use Rattle.st_form.specs.Formula.{Formula}
use Rattle.form_table.specs.Memory.{AreRead}
use Rattle.form_table.proofs.readings.widen.Given as goal

abbrev pub invariant-loop : goal.invariant-loop
invariant-loop l = (ts : List Formula) → AreRead ts l.fn.entries.items → AreRead ts l.entries.items
