use Rattle.std.proofs.Common.{◌≡◌, length, arith}
use Rattle.std.proofs.lemmas.Result.{IfOk-weaker}
use Rattle.tree_table.specs.Nodes.{Kept, trees_in, parts_at}
use Rattle.tree_table.proofs.Pushing.{parted, extends-from}
use Rattle.tree_table.proofs.Branching.{put-below, put-behind, listed-same, branch-sized, branch-made}
use Rattle.tree_table.proofs.tables.TreeTable.branch.Goals as goal

pub invariant_of-self-2 : goal.invariant_of-self-2
invariant_of-self-2 c = (parted _ _ _ _ c.self.view_is c.self.invariant c.in_ok-extend_from_slice.ensures.items).sound

pub push-requires-clause-formed : goal.push-requires-clause-formed
push-requires-clause-formed c =
    let from : c.in_ok-from.from ≡ length c.self.inside.parts.items = omega (arith, c.in_ok-from.ensures, c.len.ensures, c.self.inside.parts.ok.0) in
    put-below _ _ _ _ _ _ c.self.view_is c.requires c.in_ok-extend_from_slice.ensures.items from c.in_ok-count.ensures

pub push-requires-clause-sized : goal.push-requires-clause-sized
push-requires-clause-sized c =
    let from : c.in_ok-from.from ≡ length c.self.inside.parts.items = omega (arith, c.in_ok-from.ensures, c.len.ensures, c.self.inside.parts.ok.0) in
    let u : Kept = record { nodes = c.self.inside.nodes.items; parts = c.extend_from_slice.new.self.items; picks = c.self.inside.picks.items } in
    let same = (parted _ _ _ _ c.self.view_is c.self.invariant c.in_ok-extend_from_slice.ensures.items).same in
    let parts = put-behind _ _ _ _ _ c.in_ok-extend_from_slice.ensures.items from c.in_ok-count.ensures in
    branch-sized _ _ _ _ (listed-same (trees_in c.args.self.now) (trees_in u) (parts_at c.extend_from_slice.new.self.items c.in_ok-from.from c.in_ok-count.count) c.args.parts.now same parts)
    c.branch_size-size.ensures.nodes c.branch_size-size.ensures.levels

pub returns-clause-extends : goal.returns-clause-extends
returns-clause-extends c = extends-from _ _ _ (parted _ _ _ _ c.self.view_is c.self.invariant c.in_ok-extend_from_slice.ensures.items).same c.push.ensures.extends

pub returns-clause-made : goal.returns-clause-made
returns-clause-made c =
    let from : c.in_ok-from.from ≡ length c.self.inside.parts.items = omega (arith, c.in_ok-from.ensures, c.len.ensures, c.self.inside.parts.ok.0) in
    let u : Kept = record { nodes = c.self.inside.nodes.items; parts = c.extend_from_slice.new.self.items; picks = c.self.inside.picks.items } in
    let same = (parted _ _ _ _ c.self.view_is c.self.invariant c.in_ok-extend_from_slice.ensures.items).same in
    let parts = put-behind _ _ _ _ _ c.in_ok-extend_from_slice.ensures.items from c.in_ok-count.ensures in
    IfOk-weaker c.push.result _ _ (λ n h. branch-made (trees_in c.push.new.self) n _ _ _ (listed-same (trees_in c.args.self.now) (trees_in u) (parts_at c.extend_from_slice.new.self.items c.in_ok-from.from c.in_ok-count.count) c.args.parts.now same parts) h) c.push.ensures.made
