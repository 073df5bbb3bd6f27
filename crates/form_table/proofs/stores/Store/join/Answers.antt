use Rattle.std.proofs.Common.{◌≡◌, length, arith}
use Rattle.std.proofs.lemmas.Result.{IfOk-weaker}
use Rattle.form_table.specs.Nodes.{Kept, formulas_in}
use Rattle.form_table.proofs.Pushing.{parted, put-below, put-parts, extends-from, joined-and, joined-or}
use Rattle.form_table.proofs.stores.Store.join.Goals as goal

pub invariant_of-self-then-all : goal.invariant_of-self-then-all
invariant_of-self-then-all c = (parted _ _ _ _ c.self.view_is c.self.invariant c.in_ok-extend_from_slice.ensures.items).sound

pub invariant_of-self-else-all : goal.invariant_of-self-else-all
invariant_of-self-else-all c = (parted _ _ _ _ c.self.view_is c.self.invariant c.in_ok-extend_from_slice.ensures.items).sound

pub push-requires : goal.push-requires
push-requires c =
    let from : c.in_ok-from.from ≡ length c.self.inside.parts.items = omega (arith, c.in_ok-from.ensures, c.len.ensures, c.self.inside.parts.ok.0) in
    put-below _ _ _ _ _ _ c.self.view_is c.requires c.in_ok-extend_from_slice.ensures.items from c.in_ok-count.ensures

pub push-requires-else-all : goal.push-requires-else-all
push-requires-else-all c =
    let from : c.in_ok-from.from ≡ length c.self.inside.parts.items = omega (arith, c.in_ok-from.ensures, c.len.ensures, c.self.inside.parts.ok.0) in
    put-below _ _ _ _ _ _ c.self.view_is c.requires c.in_ok-extend_from_slice.ensures.items from c.in_ok-count.ensures

pub returns-then-all-clause-extends : goal.returns-then-all-clause-extends
returns-then-all-clause-extends c = extends-from _ _ _ (parted _ _ _ _ c.self.view_is c.self.invariant c.in_ok-extend_from_slice.ensures.items).same c.push.ensures.extends

pub returns-else-all-clause-extends : goal.returns-else-all-clause-extends
returns-else-all-clause-extends c = extends-from _ _ _ (parted _ _ _ _ c.self.view_is c.self.invariant c.in_ok-extend_from_slice.ensures.items).same c.push-else-all.ensures.extends

pub returns-then-all-clause-made : goal.returns-then-all-clause-made
returns-then-all-clause-made c =
    let from : c.in_ok-from.from ≡ length c.self.inside.parts.items = omega (arith, c.in_ok-from.ensures, c.len.ensures, c.self.inside.parts.ok.0) in
    let u : Kept = record { nodes = c.self.inside.nodes.items; parts = c.extend_from_slice.new.self.items; lines = c.self.inside.lines.items } in
    let same = (parted _ _ _ _ c.self.view_is c.self.invariant c.in_ok-extend_from_slice.ensures.items).same in
    let parts = put-parts _ _ _ _ _ c.in_ok-extend_from_slice.ensures.items from c.in_ok-count.ensures in
    IfOk-weaker c.push.result _ _ (λ n h. joined-and c.args.self.now (formulas_in u) (formulas_in c.push.new.self) c.extend_from_slice.new.self.items c.args.parts.now c.in_ok-from.from c.in_ok-count.count n c.args.all same parts c.if-all.true h) c.push.ensures.made

pub returns-else-all-clause-made : goal.returns-else-all-clause-made
returns-else-all-clause-made c =
    let from : c.in_ok-from.from ≡ length c.self.inside.parts.items = omega (arith, c.in_ok-from.ensures, c.len.ensures, c.self.inside.parts.ok.0) in
    let u : Kept = record { nodes = c.self.inside.nodes.items; parts = c.extend_from_slice.new.self.items; lines = c.self.inside.lines.items } in
    let same = (parted _ _ _ _ c.self.view_is c.self.invariant c.in_ok-extend_from_slice.ensures.items).same in
    let parts = put-parts _ _ _ _ _ c.in_ok-extend_from_slice.ensures.items from c.in_ok-count.ensures in
    IfOk-weaker c.push-else-all.result _ _ (λ n h. joined-or c.args.self.now (formulas_in u) (formulas_in c.push-else-all.new.self) c.extend_from_slice.new.self.items c.args.parts.now c.in_ok-from.from c.in_ok-count.count n c.args.all same parts c.if-all.false h) c.push-else-all.ensures.made
