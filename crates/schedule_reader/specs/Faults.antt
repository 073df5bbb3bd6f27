-- Faults of the code, as the readers name them. Each fault but want of memory is one of the readers', and no two are the same:
-- what is read determines the fault.
use Rattle.std.specs.Prelude.{Option, Some, None}
use Rattle.st_reading.specs.Reading.{Stop, syntax, broken, other}
use Rattle.st_reading.specs.Rule as rules
use Rattle.st_reading.specs.Breaches.{Breach, broke, crowded}
use Rattle.schedule_reader.specs.declared.fault.ScheduleFault.{ScheduleFault}
use Rattle.schedule_reader.specs.declared.fault.ScheduleFault.TheVariants as faults

abbrev pub see : ScheduleFault → Option (Stop Breach)
see (faults.Token f) = Some (broken f)
see (faults.Syntax place) = Some (syntax place)
see (faults.Unknown place) = Some (other (broke rules.Unknown place))
see (faults.Twice place) = Some (other (broke rules.Twice place))
see (faults.WrongType place) = Some (other (broke rules.WrongType place))
see (faults.Unset place) = Some (other (broke rules.Unset place))
see (faults.UnknownTransition place) = Some (other (broke rules.UnknownTransition place))
see (faults.Moves place) = Some (other (crowded place))
see faults.Memory = None
