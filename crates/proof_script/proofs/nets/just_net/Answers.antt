use Rattle.proof_script.specs.Listing.{setting_view}
use Rattle.proof_script.proofs.Unbroken.{helped_sound, only_memory}
use Rattle.proof_script.proofs.nets.just_net.Goals as goal

pub made-requires : goal.made-requires
made-requires c = only_memory _ _ (helped_sound (setting_view c.args.setting.now) 0 _ _ _ c.in_ok-form.ensures.reads) c.just.result c.just.ensures.made
