use Rattle.proof_script.proofs.laws.scripts_are_proofs.Goals as goal

pub returns : goal.returns
returns c = λ names system text steps h. record { cites = c.scripts_cite_invariances.ensures names system text steps h; fits = c.rules_fit_goals.ensures names system text steps h }
