use Rattle.std.proofs.Common.{◌≡◌, ◌++◌, drop}
use Rattle.std.specs.Prelude.{flat_map}
use Rattle.st_program.specs.Plain.{plain_children}
use Rattle.st_program.specs.Spots.{all_spots}
use Rattle.st_program.specs.Tree.{occurrence, action}
use Rattle.spl_semantics.specs.Names.{own_names, all_names}
use Rattle.trace_player.proofs.naming.all_names.Given as goal

abbrev pub invariant-loop-occ : goal.invariant-loop-occ
invariant-loop-occ l =
    l.names.items ++ flat_map (λ x. own_names (action x.stmt) (occurrence x.stmt)) (drop l.occ (all_spots (plain_children l.program.processes))) ≡ all_names (plain_children l.program.processes)
