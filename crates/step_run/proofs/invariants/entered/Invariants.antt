use Rattle.std.proofs.Common.{◌≡◌, ◌+◌, [], drop}
use Rattle.linear_invariants.specs.Plain.{plain_equations}
use Rattle.equation_writer.specs.Proper.{AreProper}
use Rattle.shared_search.specs.Books.{Knows}
use Rattle.vc_generator.specs.Plain.{plain_list}
use Rattle.step_run.specs.Conditions.{setting_of}
use Rattle.step_run.specs.Views.{source_view}
use Rattle.step_run.specs.Invariants.{entered}
use Rattle.step_run.specs.Growth.{IsKept}
use Rattle.step_run.proofs.invariants.entered.Given as goal

abbrev pub invariant-loop-equation : goal.invariant-loop-equation
invariant-loop-equation l = record {
  count : l.number ≡ l.equation-index;
  proper : AreProper (plain_equations (drop l.equation-index l.equations));
  knows : Knows (setting_of (source_view l.subject.source)) l.book;
  accepted : IsKept (source_view l.subject.source) l.kept.text.items l.kept.steps (plain_list l.kept.conditions);
  same : entered (source_view l.subject.source) (l.number + 1) (plain_equations (drop l.equation-index l.equations)) l.kept.text.items ≡ entered (source_view l.subject.source) 1 (plain_equations l.equations) [];
}
