use Rattle.rule_laws.proofs.DrawnSound.{rank-sound}
use Rattle.rule_laws.proofs.laws.rank_diagram_is_sound.Goals as goal

pub returns : goal.returns
returns c step system lemmas p q e d fit o run cited all = rank-sound step system lemmas o run cited d fit p q e all
