use Rattle.std.proofs.Common.{◌≡◌, ◌++◌, map, length}
use Rattle.transition_system.specs.Plain.{plain_mode}
use Rattle.st_program.specs.Plain.{plain_pieces}
use Rattle.st_program.specs.Groups.{nothing_composed}
use Rattle.spl_translation.specs.Composing.{onward_along, composed_mode, plain_composed}
use Rattle.spl_translation.proofs.composing.path_modes.Given as goal

abbrev pub invariant-loop-end : goal.invariant-loop-end
invariant-loop-end l =
    map plain_mode l.modes.items ++ map (composed_mode l.at l.next) (map plain_composed l.ends.items)
    ≡ map (composed_mode l.at l.next) (onward_along (plain_pieces l.pieces) nothing_composed)

abbrev pub decreases-loop-end : goal.decreases-loop-end
decreases-loop-end l = length l.ends.items
