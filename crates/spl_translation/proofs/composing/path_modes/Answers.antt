use Rattle.std.proofs.Common.{◌≡◌, map, rules, ◌∙◌}
use Rattle.st_program.specs.Groups.{nothing_composed}
use Rattle.st_program.specs.Plain.{plain_pieces}
use Rattle.transition_system.specs.Plain.{plain_mode}
use Rattle.spl_translation.specs.Composing.{onward_along, composed_mode}
use Rattle.spl_translation.proofs.Onwards.{modes_are}
use Rattle.spl_translation.proofs.composing.path_modes.Goals as goal

pub returns : goal.returns
returns c =
    let all : map plain_mode c.loop-end.modes.items ≡ map (composed_mode c.args.at c.args.next) (onward_along (plain_pieces c.args.pieces.now) nothing_composed) = search rules in
    all ∙ modes_are c.args.at (plain_pieces c.args.pieces.now) c.args.next
