use Rattle.std.specs.String.{string_bytes}
use Rattle.st_program.proofs.Inserting.{one-more}
use Rattle.st_program.proofs.names.filled.Goals as goal

pub loop-name-preserved-in_ok-insert : goal.loop-name-preserved-in_ok-insert
loop-name-preserved-in_ok-insert g c = one-more string_bytes _ _ _ _ _ _ _ c.loop-name.invariant c.in-Some.ensures.items c.requires c.in_ok-insert.ensures.entries

pub loop-name-preserved : goal.loop-name-preserved
loop-name-preserved g c = one-more string_bytes _ _ _ _ _ _ _ c.loop-name.invariant c.in-Some.ensures.items c.requires c.in_ok-insert.ensures.entries
