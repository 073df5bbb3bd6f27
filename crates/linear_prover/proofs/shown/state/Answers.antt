use Rattle.search_laws.specs.States.{standing, is_located}
use Rattle.linear_prover.proofs.Standings.{same-state}
use Rattle.linear_prover.proofs.shown.state.Goals as goal

pub returns : goal.returns
returns c =
    let stood = rw (c.as_slice.ensures.value, c.parts.ensures) at c.in_ok-stood.ensures.exact in
    let values = c.in_ok-store.ensures (is_located c.args.components.now (standing c.args.components.now c.args.node.now.cases.items)) in
    same-state _ _ _ _ (rw (← stood, ← c.as_slice-2.ensures.value) c.in_ok-control.ensures) (rw c.as_slice-3.ensures.value at values)
