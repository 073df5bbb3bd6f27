use Rattle.std.proofs.Common.{◌≡◌, ◌+◌, ◌*◌, ◌<◌, ◌≤◌, drop}
use Rattle.farkas_check.specs.PlainProblem.{setting}
use Rattle.search_laws.specs.Walks.{walk, walk_all}
use Rattle.search_laws.specs.Moves.{move_of}
use Rattle.linear_prover.specs.Plain.{plain_node}
use Rattle.linear_prover.specs.Divisions.{children}
use Rattle.linear_prover.specs.Ready.{AllReady}
use Rattle.linear_prover.specs.Loops.{onto_all}
use Rattle.std.specs.Prelude.{length}
use Rattle.linear_prover.proofs.walk.+walk.Given as goal

abbrev pub decreases-walk : goal.decreases-walk
decreases-walk l = 3 * l.levels

abbrev pub decreases-walk_node : goal.decreases-walk_node
decreases-walk_node l = 3 * l.levels + 2

abbrev pub decreases-walk_all : goal.decreases-walk_all
decreases-walk_all l = 3 * l.levels + 1

abbrev pub invariant-walk_all-loop-i : goal.invariant-walk_all-loop-i
invariant-walk_all-loop-i l = record {
  same : onto_all l.parts.items (walk_all (walk (move_of (setting l.components l.variables)) l.levels) (drop l.i (children l.components (plain_node l.node) l.fs l.division)) l.i l.now)
      ≡ walk_all (walk (move_of (setting l.components l.variables)) l.levels) (children l.components (plain_node l.node) l.fs l.division) 0 l.nodes;
  ready : AllReady (length l.variables) (drop l.i (children l.components (plain_node l.node) l.fs l.division));
  above : l.i < l.now;
  within : l.now ≤ 100000;
}
