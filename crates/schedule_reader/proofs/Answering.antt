-- What was read, as an answer.
use Rattle.std.proofs.Common.{◌≡◌, ℕ, List, Result, subst}
use Rattle.st_tokens.specs.Stream.{Stream, text_stream}
use Rattle.st_reading.specs.Reading.{Reads}
use Rattle.st_reading.specs.Breaches.{Gives}
use Rattle.st_reading.proofs.Giving.{given}
use Rattle.st_program.specs.Names.{Names}
use Rattle.st_program.specs.Tree.{Processes}
use Rattle.schedule_reader.specs.declared.fault.ScheduleFault.{ScheduleFault}
use Rattle.schedule_reader.specs.declared.schedule.Schedule.{Schedule}
use Rattle.schedule_reader.specs.Faults.{see}
use Rattle.schedule_reader.specs.Schedules.{plain_schedule, schedule_of, schedule_spelled}

pub given_so : (names : Names) (p : Processes) (text : List ℕ) (s : Stream) (r : Result Schedule ScheduleFault) (after : Stream) → s ≡ text_stream text → Reads see plain_schedule r after (schedule_of names p s) → Gives see plain_schedule r (schedule_spelled names p text)
unfolding schedule_spelled
given_so names p text s r after is h = given see plain_schedule r after (schedule_of names p (text_stream text)) (subst (λ m. Reads see plain_schedule r after (schedule_of names p m)) is h)
