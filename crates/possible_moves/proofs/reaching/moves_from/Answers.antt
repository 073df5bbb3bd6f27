use Rattle.std.proofs.Common.{subst}
use Rattle.st_program.specs.Plain.{plain_children}
use Rattle.st_program.specs.Programs.{View}
use Rattle.st_program.specs.Spots.{IsNumbered}
use Rattle.spl_semantics.specs.Plain.{plain_state}
use Rattle.possible_moves.proofs.Leading.{are_moves}
use Rattle.possible_moves.proofs.reaching.moves_from.Goals as goal

abbrev Numbered : View → Type 0
Numbered v = IsNumbered (plain_children v.processes)

pub returns-in-Ok : goal.returns-in-Ok
returns-in-Ok c =
    let numbered : Numbered c.args.program.now = subst Numbered c.program.view_is c.program.invariant.well.numbered in
    are_moves (plain_children c.args.program.now.processes) numbered (plain_state c.args.state.now) c.in-Ok.moves.items c.in-Ok.ensures.moves.1
