use Rattle.st_tokens.specs.Stream.{stream}
use Rattle.proof_script.specs.Listing.{setting_view}
use Rattle.proof_script.proofs.Unbroken.{ranked_sound, only_memory, few_items}
use Rattle.proof_script.proofs.nets.ranked_net.Goals as goal

pub ranked-requires : goal.ranked-requires
ranked-requires c = few_items _ c.in_ok-items.items.items (ranked_sound (setting_view c.args.setting.now) _ (stream c.args.tokens.now) _ c.in_ok-items.ensures.reads).0

pub made-requires : goal.made-requires
made-requires c = only_memory _ _ (ranked_sound (setting_view c.args.setting.now) _ (stream c.args.tokens.now) _ c.in_ok-items.ensures.reads).1 c.ranked.result c.ranked.ensures.made
