use Rattle.step_run.proofs.Headline.{Laws}
use Rattle.step_laws.proofs.Accepting.{accepted}
use Rattle.step_laws.proofs.laws.proved_is_accepted.Goals as goal

pub returns : goal.returns
returns c =
    let law : Laws = record {
      spelled = c.what_is_read_is_spelled.ensures;
      scripts_spelled = c.read_scripts_are_spelled.ensures;
      scripts_read = c.spelled_scripts_are_read.ensures;
      schedules_spelled = c.read_schedules_are_spelled.ensures;
      schedules_read = c.spelled_schedules_are_read.ensures;
      meant = c.lawful_is_typing.ensures;
      proofs = c.scripts_are_proofs.ensures;
      over = c.scripts_are_over.ensures;
      written = c.over_is_written.ensures;
      within = c.scripts_are_within.ensures;
      prove = c.scripts_prove.ensures;
      blocks = c.blocks_are_exact.ensures;
      valid = c.certificates_are_valid.ensures;
    } in
    accepted law c.what_is_spelled_is_read.ensures c.programs_are_in_order.ensures c.found_are_written.ensures c.texts_hold_blocks.ensures
