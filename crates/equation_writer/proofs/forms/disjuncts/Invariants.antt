use Rattle.std.proofs.Common.{◌≡◌, ◌++◌, true, length, map}
use Rattle.std.specs.Vec.Iter.{into_iter_items, into_iter_len}
use Rattle.st_form.specs.Plain.{plain}
use Rattle.equation_forms.specs.Formulas.{case_of, cases_slight}
use Rattle.linear_invariants.specs.Plain.{plain_equation}
use Rattle.equation_writer.specs.Plain.{plain_case}
use Rattle.equation_writer.specs.Sums.{AreModest}
use Rattle.equation_writer.proofs.forms.disjuncts.Given as goal

abbrev pub invariant-loop-case : goal.invariant-loop-case
invariant-loop-case l =
    (map plain l.forms.items ++ map (case_of (plain_equation l.equation)) (map plain_case (into_iter_items l.case-iterator)) ≡ map (case_of (plain_equation l.equation)) (map plain_case l.fn.cases.items))
    × AreModest (map plain_case (into_iter_items l.case-iterator))
    × (cases_slight (plain_equation l.equation) (map plain_case (into_iter_items l.case-iterator)) ≡ true)
    × (into_iter_len l.case-iterator ≡ length (into_iter_items l.case-iterator))
