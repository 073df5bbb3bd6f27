use Rattle.proof_script.proofs.Fitting.{script_fits}
use Rattle.proof_script.proofs.laws.rules_fit_goals.Goals as goal

pub returns : goal.returns
returns c = λ names system text steps h. script_fits names system text steps h
