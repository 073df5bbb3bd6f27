-- The problem of an open condition holds at a point in fractions.
use Rattle.std.proofs.Common.{length, Option, Some, None}
use Rattle.farkas_check.specs.Problem.{Setting, Problem, lines_of, first_problem}
use Rattle.farkas_check.specs.Valid.{There}
use Rattle.search_laws.specs.States.{State}
use Rattle.search_laws.specs.Forms.{IsProper}
use Rattle.search_laws.specs.Ends.{IsOpen, SearchesEndThere, problem_at}
use Rattle.search_laws.proofs.Shapes.{IsShaped}
use Rattle.search_laws.proofs.Finding.{proper-keeps, proper-lines}
use Rattle.open_points.specs.Points.{HoldsAtPoint, OpenProblemsHold}
use Rattle.open_points.proofs.Shaped.{IfThere, parts_of, open_shaped}
use Rattle.open_points.proofs.Fractions.{hold}

module _ (k : Setting) (state : Option State) where
  here : (p : Problem) → IsShaped (IsProper (length k.variables)) p → IsOpen k state p → HoldsAtPoint k state p
  here p shaped open' =
      let proper = proper-lines (length k.variables) open'.0 (parts_of (IsProper (length k.variables)) p.conjuncts open'.0 open'.2.are shaped) in
      record { forms = open'.0; at_lines = open'.2; point = hold (lines_of open'.0) (length k.variables) open'.1 proper open'.3; uses = open'.1; ends = open'.3; trial = open'.4 }

  there : (o : Option Problem) → IfThere (IsShaped (IsProper (length k.variables))) o → There o (IsOpen k state) → There o (HoldsAtPoint k state)
  there None shaped h = absurd h
  there (Some p) shaped h = here p shaped h

pub holds : SearchesEndThere → OpenProblemsHold
holds ends k given shown path state order typed_given typed_shown proper_given proper_shown e =
    there k state (problem_at k (first_problem k given shown) path)
    (open_shaped (IsProper (length k.variables)) (proper-keeps (length k.variables)) k given shown proper_given proper_shown path state e)
    ((ends k given shown order typed_given typed_shown).open_path path state e)
