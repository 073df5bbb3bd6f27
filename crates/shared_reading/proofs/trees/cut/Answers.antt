use Rattle.std.proofs.Common.{ap, subst, ◌∙◌, sym, rules}
use Rattle.std.proofs.lemmas.Int.{to_z-of_z}
use mir.Syntax.{w128}
use mir.Val.{SFits}
use Rattle.st_linear.specs.Linear.{of_entries}
use Rattle.shared_certificates.specs.Nodes.{node_view}
use Rattle.shared_certificates.specs.Reading.{cut_by}
use Rattle.shared_certificates.specs.Answers.{Gives}
use Rattle.shared_reading.proofs.Cutting.{cut-made}
use Rattle.shared_reading.proofs.trees.cut.Goals as goal

pub returns-in_ok-parts-in-len1-up : goal.returns-in_ok-parts-in-len1-up
returns-in_ok-parts-in-len1-up c =
    let z = c.in_ok-constant-in-len1-up.constant in
    let ns = c.in_ok-parts-in-len1-up.parts.items in
    let f : SFits w128 z = search rules in
    subst (Gives node_view c.cut_node.result)
    (sym (cut-made c.args.count c.args.words.now _ _ _ _ _ _ _ c.in-len1-up.len_at_least c.terms_len.ensures.is c.split_at.ensures.front c.split_at.ensures.back c.in_ok-constant-in-len1-up.ensures c.in_ok-terms-in-len1-up.ensures c.in_ok-parts-in-len1-up.ensures
    ∙ ap (λ es. cut_by (of_entries z es) ns) (sym c.as_slice.ensures.value)
    ∙ ap (λ y. cut_by (of_entries y c.as_slice.result.now) ns) (sym (to_z-of_z w128 z f))))
    c.cut_node.ensures
