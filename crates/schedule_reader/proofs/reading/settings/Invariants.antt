use Rattle.st_tokens.specs.Stream.{stream}
use Rattle.st_reading.specs.Reading.{size}
use Rattle.schedule_reader.specs.Settings.{setting_of}
use Rattle.schedule_reader.specs.Schedules.{only_name, settings_of}
use Rattle.schedule_reader.proofs.Going.{Going}
use Rattle.schedule_reader.proofs.reading.settings.Given as goal

abbrev pub invariant-items : goal.invariant-items
invariant-items l = Going only_name (λ o. setting_of l.names) l.store (stream l.tokens) (stream l.fn.tokens) (settings_of l.names l.fn.store (stream l.fn.tokens))

abbrev pub decreases-items : goal.decreases-items
decreases-items l = size (stream l.tokens)
