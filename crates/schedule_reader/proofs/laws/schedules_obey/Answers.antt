use Rattle.schedule_reader.proofs.Obeying.{schedule_obeys}
use Rattle.schedule_reader.proofs.laws.schedules_obey.Goals as goal

pub returns : goal.returns
returns c = λ names p text s h. schedule_obeys names p text s h
