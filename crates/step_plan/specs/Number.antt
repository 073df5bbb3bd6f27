-- The number that the process ends with.
use Rattle.std.specs.Prelude.{ℕ}
use Rattle.step_plan.specs.declared.status.Status.{Status}
use Rattle.step_plan.specs.declared.status.Status.TheVariants.{Proved, NotProved, Words, ProgramRefused, ProofRefused, TrailingCerts, ReadFault, WriteFault, Limit, Memory, ScheduleRefused, Illegal, ValueLimit, InvariantsWide}

abbrev pub number_of : Status → ℕ
number_of Proved = 0
number_of (NotProved n) = 1
number_of Words = 2
number_of ProgramRefused = 3
number_of ProofRefused = 4
number_of TrailingCerts = 5
number_of ReadFault = 6
number_of WriteFault = 7
number_of Limit = 8
number_of Memory = 9
number_of ScheduleRefused = 10
number_of Illegal = 11
number_of ValueLimit = 12
number_of InvariantsWide = 13
