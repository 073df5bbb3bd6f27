-- Faults of the code, as readers name them. Each fault but want of memory is one of the readers', and no two are the same:
-- what is read determines the fault.
use Rattle.std.specs.Prelude.{Option, Some, None, Ok, Err}
use Rattle.std.specs.Option.{option_map}
use Rattle.st_tokens.specs.declared.limit.LimitKind.TheVariants as limits
use Rattle.st_reading.specs.Reading.{Stop, syntax, broken, other, Read}
use Rattle.st_reading.specs.Rule as rules
use Rattle.st_reading.specs.Breaches.{Breach, broke, limited, unformed}
use Rattle.assertions.specs.Faults as forms
use Rattle.diagram_reader.specs.declared.fault.DiagramFault.{DiagramFault}
use Rattle.diagram_reader.specs.declared.fault.DiagramFault.TheVariants as faults

-- The fault of a formula. That no formula goes on so is told from that no diagram does; a token fault is one anywhere.
abbrev pub of_form : Stop Breach → Stop Breach
of_form (syntax place) = other (unformed place)
of_form (broken f) = broken f
of_form (other breach) = other breach

abbrev pub see : DiagramFault → Option (Stop Breach)
see (faults.Syntax place) = Some (syntax place)
see (faults.UnknownNode place) = Some (other (broke rules.UnknownNode place))
see (faults.UnknownTransition place) = Some (other (broke rules.UnknownTransition place))
see (faults.Twice place) = Some (other (broke rules.Twice place))
see (faults.Upward place) = Some (other (broke rules.Upward place))
see (faults.NoTerminal place) = Some (other (broke rules.NoTerminal place))
see (faults.UnfairHelper place) = Some (other (broke rules.UnfairHelper place))
see (faults.NoHelper place) = Some (other (broke rules.NoHelper place))
see (faults.Nodes place) = Some (other (limited limits.Nodes place))
see (faults.Form f) = option_map of_form (forms.see f)
see faults.Memory = None

-- a formula or an integer expression, which is judged as a whole
abbrev pub unit_of : {A : Type 0} → Read Breach A → Read Breach A
unit_of (Ok x) = Ok x
unit_of (Err f) = Err (of_form f)
