use Rattle.std.proofs.Common.{◌∙◌, sym, ap}
use Rattle.std.proofs.lemmas.Result.{err_from_is_err_and}
use Rattle.st_linear.specs.Linear.{Linear, scaled, value}
use Rattle.st_linear.proofs.Answering.{Fails-whole}
use Rattle.st_linear.proofs.Joins.{small-some, to_z-small}
use Rattle.st_linear.proofs.Fitting.{fitting-some, fitting-no_constant, fitting-no_entries, fitting-is, IsLinear-made, value-scaled, AreEntries-scaled}
use mir.Syntax.{w128}
use Rattle.std.proofs.lemmas.Int.{to_z-of_z}
use Rattle.st_linear.proofs.linear.Lin.scale.Goals as goal

pub returns-in_err-constant-clause-exact : goal.returns-in_err-constant-clause-exact
returns-in_err-constant-clause-exact c =
    let p = err_from_is_err_and c.from_residual.result c.from_residual.ensures.1 in
    let by = to_z-of_z w128 c.args.by c.ranges.by in
    let f : Linear = record { constant = c.self.inside.constant; entries = c.self.inside.entries.items } in
    rw (p.1, p.2, ← c.self.view_is) (Fails-whole c.in_err-constant.field-0.0 _ _ (fitting-no_constant (scaled c.args.by f)) (rw by at c.in_err-constant.ensures))

pub returns-in_err-entries-clause-exact : goal.returns-in_err-entries-clause-exact
returns-in_err-entries-clause-exact c =
    let p = err_from_is_err_and c.from_residual-in_err-entries.result c.from_residual-in_err-entries.ensures.1 in
    let by = to_z-of_z w128 c.args.by c.ranges.by in
    let f : Linear = record { constant = c.self.inside.constant; entries = c.self.inside.entries.items } in
    rw (p.1, p.2, ← c.self.view_is) (Fails-whole c.in_err-entries.field-0.0 _ _ (fitting-no_entries (scaled c.args.by f)) (rw (by, c.as_slice.ensures) at c.in_err-entries.ensures))

pub invariant_of-result : goal.invariant_of-result
invariant_of-result c =
    let by = to_z-of_z w128 c.args.by c.ranges.by in
    let f : Linear = record { constant = c.self.inside.constant; entries = c.self.inside.entries.items } in
    let s = small-some _ _ (rw by at c.in_ok-constant.ensures) in
    rw (to_z-small c.in_ok-constant.constant (rw (← s.0) s.1))
    (IsLinear-made _ _ (scaled c.args.by f).constant (scaled c.args.by f).entries (rw by at c.in_ok-constant.ensures) (rw (by, c.as_slice.ensures) at c.in_ok-entries.ensures) (AreEntries-scaled _ _ c.self.invariant.entries))

pub returns-clause-exact : goal.returns-clause-exact
returns-clause-exact c =
    let by = to_z-of_z w128 c.args.by c.ranges.by in
    let f : Linear = record { constant = c.self.inside.constant; entries = c.self.inside.entries.items } in
    let s = small-some _ _ (rw by at c.in_ok-constant.ensures) in
    rw (← c.self.view_is, to_z-small c.in_ok-constant.constant (rw (← s.0) s.1)) (fitting-some (scaled c.args.by f) _ _ (rw by at c.in_ok-constant.ensures) (rw (by, c.as_slice.ensures) at c.in_ok-entries.ensures))

pub returns-clause-value : goal.returns-clause-value
returns-clause-value c store = ap (value store) (sym (fitting-is _ _ (returns-clause-exact c))) ∙ value-scaled store c.args.by c.args.self.now
