-- The ends of runs that report nothing: the status and the text of each.
use Rattle.step_report.specs.declared.ends.End.{End}
use Rattle.step_report.specs.declared.ends.End.TheVariants as ends
use Rattle.step_report.specs.Ends.{end_text}
use Rattle.step_plan.specs.declared.status.Status.{Status}
use Rattle.step_plan.specs.declared.status.Status.TheVariants.{Words, ProgramRefused, ProofRefused, TrailingCerts, ReadFault, Limit, ScheduleRefused, Illegal, ValueLimit, InvariantsWide}
use Rattle.step_plan.specs.Outcome.{Outcome}

abbrev pub status_of : End → Status
status_of ends.Words = Words
status_of (ends.ReadFault role) = ReadFault
status_of (ends.Limit kind) = Limit
status_of (ends.Program kind place) = ProgramRefused
status_of (ends.Proof kind place) = ProofRefused
status_of (ends.Schedule kind place) = ScheduleRefused
status_of ends.Moves = Limit
status_of ends.NoStart = Illegal
status_of (ends.NotEnabled k) = Illegal
status_of (ends.TooLarge k) = ValueLimit
status_of ends.WideInvariants = InvariantsWide
status_of (ends.Trailing place) = TrailingCerts

abbrev pub end_view : End → Outcome
end_view end = record { status = status_of end; text = end_text end }
