use Rattle.proof_script.proofs.Fitting.{script_grouped}
use Rattle.proof_script.proofs.laws.groups_are_few.Goals as goal

pub returns : goal.returns
returns c = λ names system text steps h. script_grouped names system text steps h
