-- How a run ends: a status with its output text.
use Rattle.std.specs.Prelude.{ℕ, List}
use Rattle.step_report.specs.declared.refusals.FileRole.{FileRole}
use Rattle.step_report.specs.Refused.{read_fault_text}
use Rattle.step_plan.specs.declared.ended.Ended.{Ended}
use Rattle.step_plan.specs.declared.status.Status.{Status}
use Rattle.step_plan.specs.declared.status.Status.TheVariants.{ReadFault, WriteFault, Memory}

pub record Outcome : Type 0 where
  pub status : Status
  pub text : List ℕ

abbrev pub ended_view : Ended → Outcome
ended_view ended = record { status = ended.status; text = ended.text.items }

-- a file failed
abbrev pub read_fault : FileRole → Outcome
read_fault role = record { status = ReadFault; text = read_fault_text role }

-- no fault of the outside and no want of memory
abbrev pub IsDecided : Status → Type 0
IsDecided ReadFault = ⊥
IsDecided WriteFault = ⊥
IsDecided Memory = ⊥
IsDecided _ = Unit {0}
