use Rattle.st_tokens.specs.Stream.{stream}
use Rattle.proof_script.specs.Listing.{setting_view}
use Rattle.proof_script.proofs.Unbroken.{fair_sound, only_memory, few_items}
use Rattle.proof_script.proofs.nets.fair_net.Goals as goal

pub fair-requires : goal.fair-requires
fair-requires c = few_items _ c.in_ok-items.items.items (fair_sound (setting_view c.args.setting.now) _ _ (stream c.args.tokens.now) _ (stream c.compassionate.new.tokens) _ c.in_ok-group.ensures.reads c.in_ok-items.ensures.reads).0

pub made-requires : goal.made-requires
made-requires c = only_memory _ _ (fair_sound (setting_view c.args.setting.now) _ _ (stream c.args.tokens.now) _ (stream c.compassionate.new.tokens) _ c.in_ok-group.ensures.reads c.in_ok-items.ensures.reads).1 c.fair.result c.fair.ensures.made
