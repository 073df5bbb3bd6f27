-- What a reader of a whole text gives.
use Rattle.std.proofs.Common.{Option, Some, None, Result, Ok, Err, ap}
use Rattle.st_tokens.specs.Stream.{Stream}
use Rattle.st_reading.specs.Reading.{Stop, Read, IsStop, Reads}
use Rattle.st_reading.specs.Breaches.{alone, Gives}

stopped : {X A : Type 0} (o : Option (Stop X)) (read : Read X A) → IsStop o read → IsStop o (alone read)
stopped None read h = tt
stopped (Some f) read h = ap alone h

pub given : {E X V Y : Type 0} (see : E → Option (Stop X)) (view : V → Y) (r : Result V E) (after : Stream) (read : Read X Y) → Reads see view r after read → Gives see view r (alone read)
given see view (Ok x) after read h = ap alone h
given see view (Err e) after read h = stopped (see e) read h
