use Rattle.std.proofs.Common.{◌+◌, ap, sym, subst, ◌∙◌}
use Rattle.st_program.specs.Plain.{plain_stmt, plain_children}
use Rattle.st_program.specs.Spots.{statement_at}
use Rattle.trace_player.proofs.StatementNames.{Names_on, names_next, names_past, given, absent}
use Rattle.trace_player.proofs.naming.all_names.Goals.{in-Some+in_ok-push_own, in_default}
use Rattle.trace_player.proofs.naming.all_names.Goals as goal

pub loop-occ-preserved : goal.loop-occ-preserved
loop-occ-preserved c =
    let p = plain_children c.args.program.now.processes in
    elim c.match-statement.branch [
      | in-Some+in_ok-push_own w ↦
          names_next p c.loop-occ.occ (plain_stmt w.in-Some.stmt.now) c.loop-occ.names.items c.match-statement.names.items (given (statement_at p c.loop-occ.occ) c.statement.result w.in-Some.stmt w.in-Some.is c.statement.ensures)
          (ap (λ v. v.items) w.names-is ∙ w.in_ok-push_own.ensures) c.loop-occ.invariant
      | in_default w ↦
          subst (λ v. Names_on p (c.loop-occ.occ + 1) v.items) (sym w.names-is)
          (names_past p c.loop-occ.occ c.loop-occ.names.items (absent (statement_at p c.loop-occ.occ) c.statement.result w.in_default.not-Some c.statement.ensures) c.loop-occ.invariant)
    ]
