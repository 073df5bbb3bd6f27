use Rattle.std.proofs.Common.{subst, ◌-◌, ap, sym, ◌∙◌, arith}
use Rattle.std.specs.Option.{option_map}
use Rattle.st_form.specs.Plain.{plain}
use Rattle.st_program.specs.Plain.{plain_stmt, plain_stmts, plain_children}
use Rattle.st_program.specs.Programs.{View, IsProgram}
use Rattle.st_program.specs.Spots as spots
use Rattle.spl_semantics.specs.Numbers.{body_at}
use Rattle.spl_semantics.proofs.Lengths.{named-short, short-of}
use Rattle.spl_semantics.proofs.Placing.{component-found, component-passed, of-block}
use Rattle.spl_semantics.proofs.blocks.body.Goals as goal

pub returns-in-Ok-clause-items : goal.returns-in-Ok-clause-items
returns-in-Ok-clause-items c =
    let p = plain_children c.program.inside.processes.items in
    let n = c.program.inside.statements in
    let b = c.args.number in
    component-found p n b c.program.invariant.statement_count (omega (arith, c.if-number-program.false)) (plain_stmts c.in-Ok.items.now)
    (ap (λ l. body_at (spots.bodies_of (plain_children l)) (b - n)) (sym c.deref.ensures.value) ∙ sym c.in-Ok.ensures)
    ∙ ap (λ v. option_map (λ x. x.0) (spots.body (plain_children v.processes) b)) c.program.view_is

pub returns-in-Err-clause-items : goal.returns-in-Err-clause-items
returns-in-Err-clause-items c =
    let p = plain_children c.program.inside.processes.items in
    let n = c.program.inside.statements in
    let b = c.args.number in
    component-passed p n b c.program.invariant.statement_count (omega (arith, c.if-number-program.false)) c.in-Err.field-0
    (ap (λ l. body_at (spots.bodies_of (plain_children l)) (b - n)) (sym c.deref.ensures.value) ∙ sym c.in-Err.ensures)
    ∙ ap (λ v. option_map (λ x. x.0) (spots.body (plain_children v.processes) b)) c.program.view_is

pub returns-in-Ok-clause-short : goal.returns-in-Ok-clause-short
returns-in-Ok-clause-short c =
    let p = plain_children c.program.inside.processes.items in
    let n = c.program.inside.statements in
    let b = c.args.number in
    let e = component-found p n b c.program.invariant.statement_count (omega (arith, c.if-number-program.false)) (plain_stmts c.in-Ok.items.now)
    (ap (λ l. body_at (spots.bodies_of (plain_children l)) (b - n)) (sym c.deref.ensures.value) ∙ sym c.in-Ok.ensures) in
    omega (arith, named-short p b c.in-Ok.items.now e, c.program.invariant.statement_count, c.program.invariant.few_statements)

abbrev Typed : View → Type 0
Typed v = IsProgram v.variables (plain v.initial) (plain_children v.processes) v.locations v.statements

pub returns-in-Some-clause-short : goal.returns-in-Some-clause-short
returns-in-Some-clause-short c =
    let v = c.args.program.now in
    let p = plain_children v.processes in
    let b = c.args.number in
    let typed : Typed v = subst Typed c.program.view_is c.program.invariant in
    let f = of-block p v.statements b typed.statement_count (omega (arith, c.if-number-program.true, ap (λ v. v.statements) c.program.view_is)) (plain_stmt c.in-Some.stmt.now) c.in-Some.ensures in
    short-of p b 400 c.block_items.result (c.block_items.ensures f.0 ∙ ap (option_map (λ x. x.0)) (sym f.1)) (omega (arith, typed.statement_count, typed.few_statements))
