use Rattle.std.proofs.Common.{◌∙◌, ap, map}
use Rattle.st_program.specs.Plain.{plain_children}
use Rattle.spl_semantics.specs.Runs.{place_in}
use Rattle.trace_player.specs.Courses.{are_rows}
use Rattle.trace_player.proofs.Courses.{course_shows}
use Rattle.trace_player.proofs.counting.course_of.Goals as goal

pub returns-clause-shows : goal.returns-clause-shows
returns-clause-shows c =
    let names = c.in_ok-names.names.items in
    λ s later h. course_shows (plain_children c.args.program.now.processes)
    (record { fairness = c.in_ok-fairness_of.field-0; enabled = c.in_ok-rows_of.field-0; taken = c.in_ok-places_of.field-0 })
    names c.args.played.now c.in_ok-names.ensures
    (c.in_ok-fairness_of.ensures ∙ ap (map (λ n. n.1)) c.deref.ensures.value)
    (c.in_ok-rows_of.ensures ∙ ap (λ l. are_rows l c.deref-3.result.now) c.deref-2.ensures.value ∙ ap (are_rows names) c.deref-3.ensures.value)
    (c.in_ok-places_of.ensures ∙ ap (λ l. map (λ name. place_in l name) c.deref-5.result.now) c.deref-4.ensures.value ∙ ap (map (λ name. place_in names name)) c.deref-5.ensures.value)
    s later h
