use Rattle.std.proofs.Common.{◌≡◌, length, arith}
use Rattle.form_table.proofs.Pushing.{pushed}
use Rattle.form_table.proofs.stores.Store.push.Goals as goal

pub invariant_of-self-2 : goal.invariant_of-self-2
invariant_of-self-2 c =
    let number : c.in_ok-number.number ≡ length c.self.inside.nodes.items = omega (arith, c.in_ok-number.ensures, c.len.ensures, c.self.inside.nodes.ok.0) in
    (pushed _ _ _ _ _ c.self.view_is c.self.invariant number c.requires c.in_ok-push.ensures.items).sound

pub returns-clause-extends : goal.returns-clause-extends
returns-clause-extends c =
    let number : c.in_ok-number.number ≡ length c.self.inside.nodes.items = omega (arith, c.in_ok-number.ensures, c.len.ensures, c.self.inside.nodes.ok.0) in
    (pushed _ _ _ _ _ c.self.view_is c.self.invariant number c.requires c.in_ok-push.ensures.items).extends

pub returns-clause-made : goal.returns-clause-made
returns-clause-made c =
    let number : c.in_ok-number.number ≡ length c.self.inside.nodes.items = omega (arith, c.in_ok-number.ensures, c.len.ensures, c.self.inside.nodes.ok.0) in
    (pushed _ _ _ _ _ c.self.view_is c.self.invariant number c.requires c.in_ok-push.ensures.items).made
