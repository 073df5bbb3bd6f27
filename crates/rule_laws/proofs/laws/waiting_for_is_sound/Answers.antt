use Rattle.rule_laws.proofs.WaitingSound.{waiting-sound}
use Rattle.rule_laws.proofs.laws.waiting_for_is_sound.Goals as goal

pub returns : goal.returns
returns c step system lemmas p goals levels same o run cited all = waiting-sound step system lemmas o run cited p goals levels same all
