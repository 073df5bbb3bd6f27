use Rattle.std.proofs.Common.{◌≡◌, pos, Some, None, [], ◌∷◌, sym, ap, ◌∙◌}
use Rattle.st_linear.proofs.Joins.{to_z-small}
use Rattle.st_linear.specs.Linear.{of_entries}
use Rattle.spl_translation.proofs.Entries.{one_entry, differ}
use Rattle.spl_translation.proofs.owning.shifted.Goals as goal

pub unreachable-requires : goal.unreachable-requires
unreachable-requires c =
    let made = ap (λ z. of_entries z ((c.args.var, pos 1) ∷ [])) (to_z-small c.args.by c.requires) ∙ one_entry c.args.var c.args.by c.requires in
    let both : None ≡ Some (record { constant = c.args.by; entries = (c.args.var, pos 1) ∷ [] }) = sym c.in-None.is ∙ c.in_ok-form.ensures.exact ∙ made in
    differ _ both
