use Rattle.std.proofs.Common.{arith}
use Rattle.linear_invariants.proofs.Whole.{take-length, take-whole, take-few}
use Rattle.linear_invariants.proofs.finding.first_forms.Goals as goal

pub slice_bounds-result-end : goal.slice_bounds-result-end
slice_bounds-result-end c = take-length 256 c.args.forms.now (omega arith)

pub returns-then-forms-gt-FORMS-clause-few : goal.returns-then-forms-gt-FORMS-clause-few
returns-then-forms-gt-FORMS-clause-few c = take-few 256 c.args.forms.now

pub returns-else-forms-gt-FORMS-clause-value : goal.returns-else-forms-gt-FORMS-clause-value
returns-else-forms-gt-FORMS-clause-value c = take-whole 256 c.args.forms.now (omega arith)
