use Rattle.std.proofs.Common.{◌≡◌, arith, sym, map, length}
use Rattle.std.proofs.lemmas.List.{length-map}
use Rattle.st_form.specs.Plain.{plain}
use Rattle.temporal_goals.specs.Plain.{plain_level, plain_nested_node}
use Rattle.vc_generator.specs.Plain.{plain_list}
use Rattle.nested_net.specs.Walk.{plain_lists}
use Rattle.vc_generator.specs.Asked.{system_of, lemmas_of}
use Rattle.nested_net.proofs.Choices.{moves-by-lists}
use Rattle.nested_net.proofs.moving.move_from.Goals as goal

pub returns : goal.returns
returns c =
    let moves = rw (c.deref.ensures.value, c.deref-2.ensures.value, c.deref-3.ensures.value) at c.each_mode.ensures in
    let levels = c.args.node.now.levels.items in
    let deep : c.len.result ≡ length (map plain_level levels) = omega (arith, c.len.ensures, length-map levels plain_level) in
    moves-by-lists c.each_mode.result (plain_list c.args.out.now) (plain_list c.each_mode.new.out) c.args.asking.now.step (system_of c.args.asking.now) (lemmas_of c.args.asking.now) (map plain_nested_node c.args.nodes.now) (plain c.args.end.now) c.args.index (plain_nested_node c.args.node.now)
    (plain_lists c.in_ok-groups.groups.items) c.in_ok-cases.cases.items c.push_stay.new.cases.items c.len-helped.result (length levels) c.len.result (sym (length-map levels plain_level)) deep c.in_ok-groups.ensures c.in_ok-cases.ensures c.in_ok-push_stay.ensures (omega arith) moves
