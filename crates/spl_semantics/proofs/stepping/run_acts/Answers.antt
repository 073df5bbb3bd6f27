use Rattle.std.proofs.Common.{◌≡◌, ◌+◌, ◌<◌, ◌^◌, ap, sym, ◌∙◌, subst, arith, length}
use Rattle.st_form.specs.Plain.{plain}
use Rattle.st_program.specs.Plain.{plain_stmt, plain_children}
use Rattle.st_program.specs.Programs.{View, IsProgram}
use Rattle.st_program.specs.Spots.{bodies_of, all_spots}
use Rattle.spl_semantics.specs.Data.{store_of}
use Rattle.spl_semantics.specs.Numbers.{begun_before}
use Rattle.spl_semantics.specs.Plain.{plain_acts}
use Rattle.spl_semantics.proofs.FewBodies.{has_numbers}
use Rattle.spl_semantics.proofs.Acting.{run-meets, run-missing, run-steps}
use Rattle.spl_semantics.proofs.stepping.run_acts.Goals as goal

abbrev Typed : View → Type 0
Typed v = IsProgram v.variables (plain v.initial) (plain_children v.processes) v.locations v.statements

pub returns-in-Ok-clause-steps : goal.returns-in-Ok-clause-steps
returns-in-Ok-clause-steps c = λ fits.
    let v = c.args.program.now in
    let p = plain_children v.processes in
    let typed : Typed v = subst Typed c.program.view_is c.program.invariant in
    let numbers = has_numbers v.variables (plain v.initial) p v.locations v.statements typed in
    let same : plain_children c.deref.result.now ≡ p = ap plain_children c.deref.ensures.value ∙ ap (λ v. plain_children v.processes) c.program.view_is in
    let e = c.in-Some.ensures in
    let room : 0 + length (bodies_of (plain_children c.deref.result.now)) < 2 ^ 32 = omega (arith, numbers, ap (λ q. length (bodies_of q)) same) in
    let begun = ap (λ q. begun_before (all_spots q) c.args.occ (0 + length (bodies_of q))) (sym same) ∙ sym (c.in-Ok.ensures room) in
    run-steps v.variables (plain v.initial) p v.locations v.statements typed c.args.occ (plain_stmt c.in-Some.stmt.now) e (λ x. plain_acts x.items) c.first_acts.result (store_of c.args.store.now) _
    (run-meets v.variables (plain v.initial) p v.locations v.statements typed c.args.occ (plain_stmt c.in-Some.stmt.now) e c.args.store.now fits)
    _ c.in-Ok.before c.saturating_add.result begun numbers
    (omega (arith, c.saturating_add.ensures, ap (λ v. v.statements) c.program.view_is))
    c.first_acts.ensures.steps

pub returns-in-Ok-clause-stores : goal.returns-in-Ok-clause-stores
returns-in-Ok-clause-stores c = λ fits.
    let v = c.args.program.now in
    let typed : Typed v = subst Typed c.program.view_is c.program.invariant in
    c.first_acts.ensures.stores (run-meets v.variables (plain v.initial) (plain_children v.processes) v.locations v.statements typed c.args.occ (plain_stmt c.in-Some.stmt.now) c.in-Some.ensures c.args.store.now fits)

pub returns-in-Err-clause-steps : goal.returns-in-Err-clause-steps
returns-in-Err-clause-steps c = λ fits.
    let v = c.args.program.now in
    let p = plain_children v.processes in
    let typed : Typed v = subst Typed c.program.view_is c.program.invariant in
    let numbers = has_numbers v.variables (plain v.initial) p v.locations v.statements typed in
    let same : plain_children c.deref.result.now ≡ p = ap plain_children c.deref.ensures.value ∙ ap (λ v. plain_children v.processes) c.program.view_is in
    let room : 0 + length (bodies_of (plain_children c.deref.result.now)) < 2 ^ 32 = omega (arith, numbers, ap (λ q. length (bodies_of q)) same) in
    let begun = ap (λ q. begun_before (all_spots q) c.args.occ (0 + length (bodies_of q))) (sym same) ∙ sym (c.in-Err.ensures room) in
    absurd (run-missing v.variables (plain v.initial) p v.locations v.statements typed c.args.occ (plain_stmt c.in-Some.stmt.now) c.in-Some.ensures _ c.in-Err.field-0 begun)
