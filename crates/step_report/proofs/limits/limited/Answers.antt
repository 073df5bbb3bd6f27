use Rattle.std.proofs.Common.{◌++◌, codes, ap, ◌∙◌}
use Rattle.std.specs.Fmt.{decimal}
use Rattle.step_report.specs.Limits.{limit_name, most}
use Rattle.step_report.proofs.Pieces.{further, last}
use Rattle.step_report.proofs.limits.limited.Goals as goal

pub returns : goal.returns
returns c =
    let kind = c.args.kind in
    let name = further _ (codes "limit: ") _ _ _ c.in_ok-push_text.ensures (c.in_ok-push_text-2.ensures ∙ ap (λ x. c.push_text.new.out.items ++ x) c.limit_name.ensures) in
    let space = further _ (codes "limit: " ++ limit_name kind) (codes " ") _ _ name c.in_ok-push_text-3.ensures in
    let number = further _ (codes "limit: " ++ limit_name kind ++ codes " ") (decimal (most kind)) _ _ space (c.in_ok-push_number.ensures ∙ ap (λ n. c.push_text-3.new.out.items ++ decimal n) c.most.ensures) in
    last _ _ (codes "limit: " ++ limit_name kind ++ codes " " ++ decimal (most kind)) (codes "\n") _ _ number c.push_text-4.ensures
