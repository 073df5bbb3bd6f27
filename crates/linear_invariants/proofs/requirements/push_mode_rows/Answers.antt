use Rattle.std.proofs.Common.{◌≡◌, length, subst}
use Rattle.std.specs.Prelude.{OnOk}
use Rattle.st_form.specs.Plain.{plain_change}
use Rattle.equation_laws.specs.Rows.{variable_row, constant_row}
use Rattle.linear_invariants.proofs.Appends.{both-whole}
use Rattle.linear_invariants.proofs.Kept.{constant-kept}
use Rattle.linear_invariants.proofs.requirements.push_mode_rows.Goals as goal

pub push_row-requires : goal.push_row-requires
push_row-requires c =
    rw (c.as_slice.ensures, c.in_ok-last.ensures)
    (constant-kept c.args.truths.now c.args.locations (plain_change c.args.mode.now.change) c.requires.mode.change)

pub returns : goal.returns
returns c =
    let x = plain_change c.args.mode.now.change in
    let n = length c.args.truths.now in
    subst (λ rows. OnOk c.push_row.result (c.push_row.new.rows.items ≡ rows))
    (both-whole (variable_row x) n (constant_row n c.args.locations x) c.args.rows.now.items)
    (rw (c.as_slice.ensures, c.in_ok-last.ensures, c.in_ok-push_variable_rows.ensures) at c.push_row.ensures)
