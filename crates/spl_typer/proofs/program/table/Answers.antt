use Rattle.spl_typer.specs.Walk.{entries}
use Rattle.spl_typer.proofs.Tables.{table_apart}
use Rattle.spl_typer.proofs.program.table.Goals as goal

pub new-requires-clause-apart : goal.new-requires-clause-apart
new-requires-clause-apart c = table_apart (entries c.args.names.now) c.in_ok-variables.variables.items c.in_ok-labels.labels.items c.requires c.in_ok-variables.ensures c.in_ok-labels.ensures
