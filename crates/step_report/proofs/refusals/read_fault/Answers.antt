use Rattle.std.proofs.Common.{◌++◌, codes, ap, ◌∙◌}
use Rattle.step_report.specs.Refused.{role_text}
use Rattle.step_report.proofs.Pieces.{further, last}
use Rattle.step_report.proofs.refusals.read_fault.Goals as goal

pub returns : goal.returns
returns c =
    last _ _ (codes "read fault: " ++ role_text c.args.role) (codes "\n") _ _
    (further _ (codes "read fault: ") _ _ _ c.in_ok-push_text.ensures (c.in_ok-push_text-2.ensures ∙ ap (λ x. c.push_text.new.out.items ++ x) c.role_text.ensures))
    c.push_text-3.ensures
