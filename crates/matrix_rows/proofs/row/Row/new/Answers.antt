use Rattle.std.proofs.Common.{◌≡◌, sym, ◌∙◌}
use Rattle.matrix_rows.proofs.Kept.{kept-made}
use Rattle.matrix_rows.proofs.row.Row.new.Goals as goal

pub unreachable-requires : goal.unreachable-requires
unreachable-requires c =
    let made = kept-made c.args.entries.now c.requires in
    let e = sym c.in-None.is ∙ c.in_ok-form.ensures.exact ∙ made in
    absurd (cc)
