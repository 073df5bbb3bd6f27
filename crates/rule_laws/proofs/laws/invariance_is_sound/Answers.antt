use Rattle.rule_laws.proofs.InvarianceSound.{invariance-sound}
use Rattle.rule_laws.proofs.laws.invariance_is_sound.Goals as goal

pub returns : goal.returns
returns c step system lemmas p stronger o run cited all = invariance-sound step system lemmas o run cited p stronger all
