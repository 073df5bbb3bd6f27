use Rattle.std.proofs.Common.{◌≡◌, ◌≤◌, List, length, ap, ◌∙◌, sym, subst, arith}
use Rattle.transition_system.specs.Plain.{plain_system}
use Rattle.constant_facts.specs.declared.fact.Fact.{Fact}
use Rattle.constant_facts.specs.Greatest.{AreAmong}
use Rattle.constant_facts.specs.Rules.{narrowed}
use Rattle.constant_facts.proofs.Settling.{narrowed-shorter}
use Rattle.constant_facts.proofs.Sound.{settled-inductive}
use Rattle.constant_facts.proofs.Greater.{narrowed-among}
use Rattle.constant_facts.proofs.finding.settled.Goals as goal

pub returns-then-len-clause-inductive : goal.returns-then-len-clause-inductive
returns-then-len-clause-inductive c =
    let e : c.in_ok-next.next.items ≡ narrowed c.args.components.now (plain_system c.args.fts.now) c.loop-left.left.items =
    c.in_ok-next.ensures ∙ ap (narrowed c.args.components.now (plain_system c.args.fts.now)) c.deref.ensures.value in
    let n : length c.loop-left.left.items ≤ length c.in_ok-next.next.items = omega (arith, c.if-len.true, c.len.ensures, c.len-in-loop-left.ensures) in
    settled-inductive c.args.components.now (plain_system c.args.fts.now) c.loop-left.left.items (subst (λ (xs : List Fact). length c.loop-left.left.items ≤ length xs) e n)

pub loop-left-smaller : goal.loop-left-smaller
loop-left-smaller c =
    let e : c.in_ok-next.next.items ≡ narrowed c.args.components.now (plain_system c.args.fts.now) c.loop-left.left.items =
    c.in_ok-next.ensures ∙ ap (narrowed c.args.components.now (plain_system c.args.fts.now)) c.deref.ensures.value in
    let n : length c.in_ok-next.next.items ≤ length c.loop-left.left.items =
    subst (λ (xs : List Fact). length xs ≤ length c.loop-left.left.items) (sym e) (narrowed-shorter c.args.components.now (plain_system c.args.fts.now) c.loop-left.left.items) in
    omega (arith, n, c.if-len.false, c.len.ensures, c.len-in-loop-left.ensures)

pub loop-left-preserved : goal.loop-left-preserved
loop-left-preserved c gs steady among =
    let e : c.in_ok-next.next.items ≡ narrowed c.args.components.now (plain_system c.args.fts.now) c.loop-left.left.items =
    c.in_ok-next.ensures ∙ ap (narrowed c.args.components.now (plain_system c.args.fts.now)) c.deref.ensures.value in
    subst (AreAmong gs) (sym e)
    (narrowed-among c.args.components.now gs (plain_system c.args.fts.now) c.loop-left.left.items steady (c.loop-left.invariant gs steady among))
