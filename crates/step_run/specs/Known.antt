-- What is known of a program and a script that were read: they are those of texts, and the system is the program's.
use Rattle.std.specs.Prelude.{◌≡◌}
use Rattle.transition_system.specs.Plain.{plain_system}
use Rattle.temporal_goals.specs.Plain.{plain_script}
use Rattle.step_run.specs.declared.scripted.Scripted.{Scripted}
use Rattle.step_run.specs.Conditions.{system_of}
use Rattle.step_run.specs.Posing.{IsScript}
use Rattle.step_run.specs.Source.{IsSpelled}
use Rattle.step_run.specs.Views.{source_view}

pub record IsKnown (x : Scripted) : Type 0 where
  pub spelled : IsSpelled (source_view x.source)
  pub system : plain_system x.fts ≡ system_of (source_view x.source)
  pub script : IsScript (source_view x.source) (plain_script x.script)
