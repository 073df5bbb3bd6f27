-- What the code's values are to the plans.
use Rattle.std.specs.Prelude.{map}
use Rattle.st_form.specs.Shared.{plain_condition}
use Rattle.temporal_goals.specs.Plain.{plain_script}
use Rattle.spl_typer.specs.Programs.{Typed, typed_view}
use Rattle.step_run.specs.declared.source.Source.{Source}
use Rattle.step_run.specs.declared.posed.Posed as code
use Rattle.step_run.specs.declared.scripted.Scripted as asking
use Rattle.step_run.specs.Conditions.{Posed}
use Rattle.step_run.specs.Traced.{Scripted}

abbrev pub source_view : Source → Typed
source_view s = typed_view (s.program, s.names)

abbrev pub posed_view : code.Posed → Posed
posed_view x = record { program = source_view x.source; steps = plain_script x.script; conditions = map plain_condition x.conditions.items }

abbrev pub scripted_view : asking.Scripted → Scripted
scripted_view x = record { program = source_view x.source; steps = plain_script x.script }
