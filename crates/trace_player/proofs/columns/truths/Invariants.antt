use Rattle.std.proofs.Common.{◌≡◌, ◌++◌, drop}
use Rattle.st_form.specs.Plain.{plain}
use Rattle.temporal_goals.specs.Meaning.{test_of}
use Rattle.trace_player.specs.Columns.{sights, column, is_wide_formula}
use Rattle.trace_player.proofs.columns.truths.Given as goal

abbrev pub invariant-loop-position : goal.invariant-loop-position
invariant-loop-position l =
    l.truths.items ++ column (is_wide_formula (plain l.form)) (test_of (plain l.form)) (sights (drop l.position l.states) (drop l.position l.fronts))
    ≡ column (is_wide_formula (plain l.form)) (test_of (plain l.form)) (sights l.states l.fronts)
