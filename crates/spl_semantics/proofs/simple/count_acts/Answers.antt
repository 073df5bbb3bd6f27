use Rattle.std.proofs.Common.{ap, ◌∙◌, set, to_z, of_z}
use mir.Syntax.{w128}
use Rattle.st_program.specs.declared.residuals.Datum.TheVariants.{Number}
use Rattle.spl_semantics.specs.Data.{types}
use Rattle.spl_semantics.specs.Plain.{act_stores}
use Rattle.spl_semantics.proofs.Exits.{one-store}
use Rattle.spl_semantics.proofs.Assigning.{set-types}
use Rattle.spl_semantics.proofs.simple.count_acts.Goals as goal

pub returns-clause-stores : goal.returns-clause-stores
returns-clause-stores c = λ h.
    let ds = c.args.store.now in
    let same = c.put.ensures ∙ ap (λ l. set l c.args.variable (Number (to_z w128 (of_z w128 c.args.number)))) c.in_ok-after.ensures.items in
    one-store (λ v. act_stores v.items) c.one.result ds c.put.new.store.items (ap types same ∙ set-types ds c.args.variable (Number (to_z w128 (of_z w128 c.args.number))) h) c.one.ensures.stores
