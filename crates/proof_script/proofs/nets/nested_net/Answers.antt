use Rattle.st_tokens.specs.Stream.{stream}
use Rattle.proof_script.specs.Listing.{setting_view}
use Rattle.proof_script.proofs.Unbroken.{few_items}
use Rattle.proof_script.proofs.Grouping.{nested_sound, nested_never_fails}
use Rattle.proof_script.proofs.nets.nested_net.Goals as goal

pub make_nested-requires : goal.make_nested-requires
make_nested-requires c = few_items _ c.in_ok-nodes.nodes.items (nested_sound (setting_view c.args.setting.now) _ (stream c.args.tokens.now) _ c.in_ok-nodes.ensures.reads).0

pub made_nested-requires : goal.made_nested-requires
made_nested-requires c = nested_never_fails _ _ (nested_sound (setting_view c.args.setting.now) _ (stream c.args.tokens.now) _ c.in_ok-nodes.ensures.reads).1 c.make_nested.result c.make_nested.ensures.made
