use Rattle.std.proofs.Common.{◌∙◌, sym, ap}
use Rattle.std.proofs.lemmas.Result.{err_from_is_err_and}
use Rattle.st_linear.specs.Linear.{Linear, sum_of, value}
use Rattle.st_linear.proofs.Answering.{Fails-whole}
use Rattle.st_linear.proofs.Joins.{small-some, to_z-small}
use Rattle.st_linear.proofs.Fitting.{fitting-some, fitting-no_constant, fitting-no_entries, fitting-is, IsLinear-made, value-sum_of}
use Rattle.st_linear.proofs.Joined.{AreEntries-joined}
use Rattle.st_linear.proofs.linear.Lin.add.Goals as goal

pub returns-in_err-constant-clause-exact : goal.returns-in_err-constant-clause-exact
returns-in_err-constant-clause-exact c =
    let p = err_from_is_err_and c.from_residual.result c.from_residual.ensures.1 in
    let f : Linear = record { constant = c.self.inside.constant; entries = c.self.inside.entries.items } in
    let g : Linear = record { constant = c.other.inside.constant; entries = c.other.inside.entries.items } in
    rw (p.1, p.2, ← c.self.view_is, ← c.other.view_is) (Fails-whole c.in_err-constant.field-0.0 _ _ (fitting-no_constant (sum_of f g)) c.in_err-constant.ensures)

pub returns-in_err-entries-clause-exact : goal.returns-in_err-entries-clause-exact
returns-in_err-entries-clause-exact c =
    let p = err_from_is_err_and c.from_residual-in_err-entries.result c.from_residual-in_err-entries.ensures.1 in
    let f : Linear = record { constant = c.self.inside.constant; entries = c.self.inside.entries.items } in
    let g : Linear = record { constant = c.other.inside.constant; entries = c.other.inside.entries.items } in
    rw (p.1, p.2, ← c.self.view_is, ← c.other.view_is) (Fails-whole c.in_err-entries.field-0.0 _ _ (fitting-no_entries (sum_of f g)) (rw (c.as_slice.ensures, c.as_slice-2.ensures) at c.in_err-entries.ensures))

pub invariant_of-result : goal.invariant_of-result
invariant_of-result c =
    let f : Linear = record { constant = c.self.inside.constant; entries = c.self.inside.entries.items } in
    let g : Linear = record { constant = c.other.inside.constant; entries = c.other.inside.entries.items } in
    let s = small-some _ _ c.in_ok-constant.ensures in
    rw (to_z-small c.in_ok-constant.constant (rw (← s.0) s.1))
    (IsLinear-made _ _ (sum_of f g).constant (sum_of f g).entries c.in_ok-constant.ensures (rw (c.as_slice.ensures, c.as_slice-2.ensures) at c.in_ok-entries.ensures) (AreEntries-joined _ _ c.self.invariant.entries c.other.invariant.entries))

pub returns-clause-exact : goal.returns-clause-exact
returns-clause-exact c =
    let f : Linear = record { constant = c.self.inside.constant; entries = c.self.inside.entries.items } in
    let g : Linear = record { constant = c.other.inside.constant; entries = c.other.inside.entries.items } in
    let s = small-some _ _ c.in_ok-constant.ensures in
    rw (← c.self.view_is, ← c.other.view_is, to_z-small c.in_ok-constant.constant (rw (← s.0) s.1)) (fitting-some (sum_of f g) _ _ c.in_ok-constant.ensures (rw (c.as_slice.ensures, c.as_slice-2.ensures) at c.in_ok-entries.ensures))

pub returns-clause-value : goal.returns-clause-value
returns-clause-value c store = ap (value store) (sym (fitting-is _ _ (returns-clause-exact c))) ∙ value-sum_of store c.args.self.now c.args.other.now
