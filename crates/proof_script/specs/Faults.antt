-- Faults of the code, as readers name them. Each fault but want of memory is one of the readers', and no two are the same:
-- what is read determines the fault.
use Rattle.std.specs.Prelude.{◌≡◌, ℕ, Option, Some, None, Ok, Err}
use Rattle.std.specs.Option.{option_map}
use Rattle.st_tokens.specs.declared.kind.TokenFault.TheVariants as tokens
use Rattle.st_tokens.specs.declared.limit.LimitKind.TheVariants as limits
use Rattle.st_reading.specs.Reading.{Stop, syntax, broken, other, Read}
use Rattle.st_reading.specs.Rule as rules
use Rattle.st_reading.specs.Breaches.{Breach, broke, limited, crowded, unformed}
use Rattle.assertions.specs.declared.fault.FormFault.{FormFault}
use Rattle.assertions.specs.Faults as forms
use Rattle.diagram_reader.specs.declared.fault.DiagramFault.{DiagramFault}
use Rattle.diagram_reader.specs.Faults as diagrams
use Rattle.proof_script.specs.declared.fault.ScriptKind.{ScriptKind}
use Rattle.proof_script.specs.declared.fault.ScriptKind.TheVariants as kinds
use Rattle.proof_script.specs.declared.fault.ScriptFault.{ScriptFault}
use Rattle.proof_script.specs.declared.fault.ScriptFault.TheVariants.{At, Memory}

-- the stop of this kind at the place
abbrev pub stop_at : ScriptKind → ℕ → Stop Breach
stop_at kinds.Syntax place = syntax place
stop_at kinds.BadByte place = broken (tokens.BadByte place)
stop_at kinds.LongNumber place = broken (tokens.LongNumber place)
stop_at kinds.Unknown place = other (broke rules.Unknown place)
stop_at kinds.WrongType place = other (broke rules.WrongType place)
stop_at kinds.NonLinear place = other (broke rules.NonLinear place)
stop_at kinds.TooLarge place = other (broke rules.TooLarge place)
stop_at kinds.Twice place = other (broke rules.Twice place)
stop_at kinds.UnknownLemma place = other (broke rules.UnknownLemma place)
stop_at kinds.NotInvariant place = other (broke rules.NotInvariant place)
stop_at kinds.WrongCount place = other (broke rules.WrongCount place)
stop_at kinds.UnknownTransition place = other (broke rules.UnknownTransition place)
stop_at kinds.UnknownNode place = other (broke rules.UnknownNode place)
stop_at kinds.Upward place = other (broke rules.Upward place)
stop_at kinds.NoTerminal place = other (broke rules.NoTerminal place)
stop_at kinds.UnfairHelper place = other (broke rules.UnfairHelper place)
stop_at kinds.NotCompassionate place = other (broke rules.NotCompassionate place)
stop_at kinds.NoHelper place = other (broke rules.NoHelper place)
stop_at (kinds.Limit kind) place = other (limited kind place)

abbrev pub see : ScriptFault → Option (Stop Breach)
see (At kind place) = Some (stop_at kind place)
see Memory = None

-- a script doesn't tell that no formula of a diagram goes on so from that nothing does
abbrev pub drawing_stop : Stop Breach → Stop Breach
drawing_stop (syntax place) = syntax place
drawing_stop (broken f) = broken f
drawing_stop (other (broke rule place)) = other (broke rule place)
drawing_stop (other (limited kind place)) = other (limited kind place)
drawing_stop (other (crowded place)) = other (crowded place)
drawing_stop (other (unformed place)) = syntax place

-- a diagram, or the name of a transition
abbrev pub drawn : {A : Type 0} → Read Breach A → Read Breach A
drawn (Ok x) = Ok x
drawn (Err f) = Err (drawing_stop f)

-- what the code makes of a fault of a formula, and of one of a diagram
abbrev pub IsForming : FormFault → ScriptFault → Type 0
IsForming e fault = see fault ≡ forms.see e

abbrev pub IsDrawing : DiagramFault → ScriptFault → Type 0
IsDrawing e fault = see fault ≡ option_map drawing_stop (diagrams.see e)

-- What stands at a place behind as many as may be listed: a fault of the grammar, which its nesting is as well, comes before the
-- limit on what is listed.
abbrev pub past : ℕ → Stop Breach → Stop Breach
past place (syntax p) = syntax p
past place (broken f) = broken f
past place (other (limited kind p)) = other (limited kind p)
past place (other _) = other (limited limits.Nodes place)

abbrev pub one_too_many : {A : Type 0} → ℕ → Read Breach A → Read Breach A
one_too_many place (Ok x) = Err (other (limited limits.Nodes place))
one_too_many place (Err f) = Err (past place f)
