use Rattle.farkas_check.specs.PlainProblem.{setting}
use Rattle.discharge.proofs.Marking.{no_marks}
use Rattle.discharge.proofs.piece.search_piece.Goals as goal

pub loop-init : goal.loop-init
loop-init g c = record {
  knows = c.in_ok-book.ensures;
  marks = no_marks (setting c.args.components.now c.args.variables.now) c.args.conditions.now c.in_ok-valid.valid.items (c.in_ok-valid.ensures.items_if_clones_equal (λ y e. e));
}
