use Rattle.std.proofs.Common.{◌≡◌, ◌+◌, ◌<◌, ◌^◌, ap, ◌∙◌, arith, length}
use Rattle.st_form.specs.Plain.{plain}
use Rattle.st_program.specs.Plain.{plain_children}
use Rattle.st_program.specs.Spots.{all_spots, bodies_of}
use Rattle.spl_semantics.specs.Data.{store_of}
use Rattle.spl_semantics.specs.Going.{begin}
use Rattle.spl_semantics.proofs.FewBodies.{has_numbers}
use Rattle.spl_semantics.proofs.starts.start.Goals as goal

pub returns-clause-state : goal.returns-clause-state
returns-clause-state c =
    let p = plain_children c.program.inside.processes.items in
    let n = c.program.inside.statements in
    let numbers = has_numbers c.program.inside.variables.items (plain c.program.inside.initial) p c.program.inside.locations n c.program.invariant in
    let same : plain_children c.deref.result.now ≡ p = ap plain_children c.deref.ensures.value in
    let room : n + length (bodies_of (plain_children c.deref.result.now)) < 2 ^ 32 =
    omega (arith, numbers, ap (λ q. length (bodies_of q)) same) in
    let left = c.in_ok-begin.ensures room ∙ ap (λ q. begin q n) same ∙ ap (begin p) c.program.invariant.statement_count
    ∙ ap (λ z. begin (plain_children z.processes) (length (all_spots (plain_children z.processes)))) c.program.view_is in
    λ i. record { left = left i; store = store_of c.args.store.items }
