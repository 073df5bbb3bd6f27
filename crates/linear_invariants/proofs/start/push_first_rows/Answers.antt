use Rattle.std.proofs.Common.{◌≡◌, ◌+◌, subst}
use Rattle.std.specs.Prelude.{OnOk}
use Rattle.equation_laws.specs.Rows.{first_variable_row, first_constant_row}
use Rattle.linear_invariants.proofs.Appends.{both-whole}
use Rattle.linear_invariants.proofs.Kept.{first-constant-kept}
use Rattle.linear_invariants.proofs.start.push_first_rows.Goals as goal

pub push_row-requires : goal.push_row-requires
push_row-requires c =
    rw (c.as_slice.ensures, c.in_ok-last.ensures)
    (first-constant-kept c.args.variables c.args.locations c.args.places.now c.args.forms.now c.requires.slight)

pub returns : goal.returns
returns c =
    let n = c.args.variables in
    subst (λ rows. OnOk c.push_row.result (c.push_row.new.rows.items ≡ rows))
    (both-whole (first_variable_row (n + c.args.locations + 1) c.args.forms.now) n (first_constant_row n c.args.locations c.args.places.now c.args.forms.now) c.args.rows.now.items)
    (rw (c.as_slice.ensures, c.in_ok-last.ensures, c.in_ok-push_first_variables.ensures) at c.push_row.ensures)
