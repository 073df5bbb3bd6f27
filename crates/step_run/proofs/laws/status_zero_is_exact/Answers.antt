use Rattle.std.proofs.Common.{◌≡◌}
use Rattle.st_outside.specs.Sink.{behind}
use Rattle.step_run.proofs.Exact.{shows, exactly}
use Rattle.step_run.proofs.Headline.{Laws}
use Rattle.step_run.proofs.laws.status_zero_is_exact.Goals as goal

pub returns : goal.returns
returns c =
    let law : Laws = record {
      spelled = c.what_is_read_is_spelled.ensures;
      scripts_spelled = c.read_scripts_are_spelled.ensures;
      scripts_read = c.spelled_scripts_are_read.ensures;
      schedules_spelled = c.read_schedules_are_spelled.ensures;
      schedules_read = c.spelled_schedules_are_read.ensures;
      meant = c.lawful_is_typing.ensures;
      proofs = c.scripts_are_proofs.ensures;
      over = c.scripts_are_over.ensures;
      written = c.over_is_written.ensures;
      within = c.scripts_are_within.ensures;
      prove = c.scripts_prove.ensures;
      blocks = c.blocks_are_exact.ensures;
      valid = c.certificates_are_valid.ensures;
    } in
    record {
      shows = λ told request o before now e proved wrote. shows law c.what_is_spelled_is_read.ensures told request o (λ text. now ≡ behind before text) e proved wrote;
      exact = λ told request o e. exactly law c.what_is_spelled_is_read.ensures told request o e;
    }
