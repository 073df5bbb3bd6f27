use Rattle.std.proofs.Common.{arith, map}
use Rattle.st_form.specs.Plain.{plain}
use Rattle.temporal_goals.specs.Plain.{plain_node}
use Rattle.vc_generator.specs.Plain.{plain_list}
use Rattle.vc_generator.specs.Asked.{system_of, lemmas_of}
use Rattle.ranked_net.proofs.Choices.{moves-by-parts}
use Rattle.ranked_net.proofs.moving.move_from.Goals as goal

pub returns : goal.returns
returns c =
    let moves = rw (c.deref.ensures.value, c.deref-2.ensures.value, c.deref-3.ensures.value) at c.each_mode.ensures in
    moves-by-parts c.each_mode.result (plain_list c.args.out.now) (plain_list c.each_mode.new.out) c.args.asking.now.step (system_of c.args.asking.now) (lemmas_of c.args.asking.now) (map plain_node c.args.nodes.now) (plain c.args.end.now) c.args.index (plain_node c.args.node.now)
    c.in_ok-cases.cases.items c.push_within.new.cases.items c.push_stay.new.cases.items c.len-own.result c.len-helped.result c.in_ok-cases.ensures c.in_ok-push_within.ensures c.in_ok-push_stay.ensures (omega arith) (omega arith) moves
