use Rattle.screens.proofs.Growing.{of_nothing}
use Rattle.screens.proofs.screen.Screen.new.Goals as goal

pub invariant_of-result : goal.invariant_of-result
invariant_of-result c = record { tame = of_nothing _ c.new.ensures.bytes }
