use Rattle.std.proofs.Common.{◌∙◌, ap, map, arith}
use Rattle.trace_player.specs.Playing.{is_among}
use Rattle.trace_player.proofs.Courses.{rows_next}
use Rattle.trace_player.proofs.counting.rows_of.Goals as goal

pub loop-row-preserved : goal.loop-row-preserved
loop-row-preserved c =
    rows_next c.args.names.now c.args.enabled.now c.loop-row.row-index (omega arith) c.row-item.result c.row-item.is c.loop-row.rows.items c.push.new.self.items c.in_ok-flags_of.field-0 _
    c.in_ok-push.ensures.items (c.in_ok-flags_of.ensures ∙ ap (λ l. map (λ n. is_among n.0 l) c.args.names.now) c.deref.ensures.value) c.loop-row.invariant
