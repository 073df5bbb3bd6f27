use Rattle.st_tokens.specs.Stream.{stream}
use Rattle.proof_script.specs.Listing.{setting_view}
use Rattle.proof_script.proofs.Unbroken.{written_sound, never_fails, few_items}
use Rattle.proof_script.proofs.nets.written_net.Goals as goal

pub make_net-requires : goal.make_net-requires
make_net-requires c = few_items _ c.in_ok-nodes.nodes.items (written_sound (setting_view c.args.setting.now) _ (stream c.args.tokens.now) _ c.in_ok-nodes.ensures.reads).0

pub made-requires : goal.made-requires
made-requires c = never_fails _ _ (written_sound (setting_view c.args.setting.now) _ (stream c.args.tokens.now) _ c.in_ok-nodes.ensures.reads).1 c.make_net.result c.make_net.ensures.made
