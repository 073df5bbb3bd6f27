use Rattle.proof_script.proofs.Citing.{script_cites}
use Rattle.proof_script.proofs.laws.scripts_cite_invariances.Goals as goal

pub returns : goal.returns
returns c = λ names system text steps h. script_cites names system text steps h
