use Rattle.std.proofs.Common.{◌≡◌, ◌++◌, drop}
use Rattle.std.specs.Option.{option_map}
use Rattle.schedule_reader.specs.Schedules.{all_set}
use Rattle.schedule_reader.proofs.reading.all_set.Given as goal

abbrev pub invariant-loop-value : goal.invariant-loop-value
invariant-loop-value l = option_map (λ ds. l.values.items ++ ds) (all_set (drop l.value-index l.store)) ≡ all_set l.store
