use Rattle.status_meanings.proofs.Runs.{runs_end_so}
use Rattle.status_meanings.proofs.laws.runs_end_so.Goals as goal

pub returns : goal.returns
returns c =
    runs_end_so
    (record {
      spelled = c.what_is_read_is_spelled.ensures;
      read = c.what_is_spelled_is_read.ensures;
      first = c.first_fault.ensures;
      typed = c.read_is_typed.ensures;
      meant = c.lawful_is_typing.ensures;
      scripts_spelled = c.read_scripts_are_spelled.ensures;
      scripts_read = c.spelled_scripts_are_read.ensures;
      scripts_first = c.scripts_first_fault.ensures;
    })
    (record {
      read = c.spelled_is_read.ensures;
      header = c.header_is_read.ensures;
      spelled = c.read_is_spelled.ensures;
      test = c.test_is_exact.ensures;
      need_is = c.need_is_exact.ensures;
      end_is = c.end_is_exact.ensures;
      limit_is = c.limit_is_exact.ensures;
      malformed_is = c.malformed_is_exact.ensures;
      blocks = c.blocks_are_exact.ensures;
    })
    (record {
      read = c.spelled_schedules_are_read.ensures;
      spelled = c.read_schedules_are_spelled.ensures;
      first_fault = c.schedules_first_fault.ensures;
      runs = c.made_schedules_are_runs.ensures;
      wide = c.schedules_stop_where_runs_do.ensures.too_large;
      stuck = c.schedules_stop_where_runs_do.ensures.illegal;
    })
