-- A refusal of conditions with the step that it is at.
use Rattle.std.specs.Prelude.{ℕ}
use Rattle.vc_generator.specs.declared.faults.VcFault.{VcFault}
use Rattle.vc_generator.specs.declared.faults.VcFault.TheVariants as limits
use Rattle.obligations.specs.declared.faults.ObligationFault.{ObligationFault}
use Rattle.obligations.specs.declared.faults.ObligationFault.TheVariants as faults

abbrev pub fault_at : ℕ → VcFault → ObligationFault
fault_at n limits.TooMany = faults.TooMany n
fault_at n limits.TooWide = faults.TooWide n
fault_at n limits.TooHeavy = faults.TooHeavy n
fault_at n limits.Memory = faults.Memory
