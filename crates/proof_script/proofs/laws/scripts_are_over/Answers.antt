use Rattle.proof_script.proofs.Speech.{script_over}
use Rattle.proof_script.proofs.laws.scripts_are_over.Goals as goal

pub returns : goal.returns
returns c = λ vs locations names system over text steps h. script_over vs locations names system over text steps h
