use Rattle.rule_laws.proofs.NetSound.{ranked-sound}
use Rattle.rule_laws.proofs.laws.ranked_net_is_sound.Goals as goal

pub returns : goal.returns
returns c step system lemmas p q e nodes fit o run cited all = ranked-sound step system lemmas o run cited nodes fit p q e all
