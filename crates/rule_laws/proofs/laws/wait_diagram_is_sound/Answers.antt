use Rattle.rule_laws.proofs.WaitDrawn.{wait-sound}
use Rattle.rule_laws.proofs.laws.wait_diagram_is_sound.Goals as goal

pub returns : goal.returns
returns c step system lemmas p goals d fit o run cited all = wait-sound step system lemmas o run cited d p goals fit all
