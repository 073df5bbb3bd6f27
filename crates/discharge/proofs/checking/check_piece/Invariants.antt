use Rattle.std.proofs.Common.{◌-◌}
use Rattle.farkas_check.specs.PlainProblem.{setting}
use Rattle.shared_search.specs.Books.{Knows}
use Rattle.discharge.specs.Dealt.{every, dealt}
use Rattle.block_validity.specs.First.{AreCheckable}
use Rattle.discharge.proofs.Halves.{Ahead}
use Rattle.discharge.proofs.checking.check_piece.Given as goal

abbrev pub invariant-loop-i : goal.invariant-loop-i
invariant-loop-i g l = record {
  knows : Knows (setting l.components l.variables) l.book;
  checkable : AreCheckable l.rest l.rest_blocks;
  ahead : Ahead (setting l.components l.variables) (dealt l.share l.conditions) (dealt l.share l.blocks) l.i (every l.share.stride (l.share.count - l.i) l.rest) (every l.share.stride (l.share.count - l.i) l.rest_blocks);
}
