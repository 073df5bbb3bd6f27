use Rattle.std.proofs.Common.{◌≡◌, length, map}
use Rattle.std.specs.Vec.Iter.{into_iter_items, into_iter_len}
use Rattle.farkas_check.specs.PlainProblem.{setting}
use Rattle.discharge.specs.Marked.{place_of}
use Rattle.open_conditions.specs.Open.{AreOpen}
use Rattle.unclosed_conditions.proofs.Leaving.{IsOnWay}
use Rattle.unclosed_conditions.proofs.closing.unclosed.Given as goal

abbrev pub invariant-loop-undecided : goal.invariant-loop-undecided
invariant-loop-undecided l = record {
  way : IsOnWay (setting l.components l.variables) l.conditions (map place_of l.fn.found.items) l.kept.items (into_iter_items l.undecided-iterator);
  kept : AreOpen (setting l.components l.variables) l.conditions l.kept.items;
  rest : AreOpen (setting l.components l.variables) l.conditions (into_iter_items l.undecided-iterator);
  long : into_iter_len l.undecided-iterator ≡ length (into_iter_items l.undecided-iterator);
}
