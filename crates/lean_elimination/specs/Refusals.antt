use Rattle.lean_elimination.specs.declared.stop.Refusal.{Refusal}
use Rattle.lean_elimination.specs.declared.stop.Refusal.TheVariants.{Unfit, Memory}
use Rattle.lean_elimination.specs.declared.stop.Stop.{Stop}
use Rattle.lean_elimination.specs.declared.stop.Stop.TheVariants as stop

abbrev pub stop_of : Refusal → Stop
stop_of Unfit = stop.Unfit
stop_of Memory = stop.Memory
