use Rattle.std.proofs.Common.{◌++◌, ◌∷◌, [], sym, ap, ◌∙◌}
use Rattle.st_program.specs.Plain.{plain_children}
use Rattle.spl_translation.specs.Translation.{idling}
use Rattle.spl_translation.specs.Making.{plain_all}
use Rattle.spl_translation.specs.Walk.{walk_inside}
use Rattle.spl_translation.proofs.Walks.{inside_is}
use Rattle.spl_translation.proofs.translating.transitions_of.Goals as goal

pub returns : goal.returns
returns c =
    let ps = plain_children c.args.processes.now in
    c.in_ok-translate_children.ensures
    ∙ ap (λ z. z ++ walk_inside ps) (c.in_ok-push_idling.ensures ∙ ap (λ z. plain_all z ++ idling ∷ []) c.new-out.ensures.items)
    ∙ ap (λ z. idling ∷ z) (sym (inside_is ps 0))
