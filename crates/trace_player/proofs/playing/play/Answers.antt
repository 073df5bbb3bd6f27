use Rattle.std.proofs.Common.{◌≡◌, suc, IfOk, length, subst}
use Rattle.st_program.specs.Plain.{plain_children}
use Rattle.trace_player.proofs.Lengths.{plays-long}
use Rattle.trace_player.proofs.playing.play.Goals as goal

pub returns-clause-long : goal.returns-clause-long
returns-clause-long c =
    subst (λ l. IfOk c.play_from.result (λ played. (length played.states.items ≡ suc (length l)) × (length played.enabled.items ≡ suc (length l)))) c.deref-3.ensures.value
    (plays-long (plain_children c.args.program.now.processes) _ _ c.play_from.result c.play_from.ensures)
