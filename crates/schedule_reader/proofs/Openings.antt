-- What begins a setting.
use Rattle.std.proofs.Common.{◌≡◌, true, false, Some, None, refl}
use Rattle.st_reading.specs.declared.sign.Sign.{Sign}
use Rattle.st_reading.specs.Reading.{is_name}
use Rattle.schedule_reader.specs.Schedules.{only_name}

pub name_begins : (g : Sign) → true ≡ is_name g → Some tt ≡ only_name g
name_begins g h = rw (← h) refl

pub name_ends : (g : Sign) → false ≡ is_name g → None ≡ only_name g
name_ends g h = rw (← h) refl
