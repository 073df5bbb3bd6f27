use Rattle.proof_grammar.proofs.Scripts.{spelled_scripts_are_read}
use Rattle.printed_formulas.proofs.Steps as proved
use Rattle.printed_formulas.proofs.laws.printed_invariances_are_read.Goals as goal

pub returns : goal.returns
returns c = proved.printed_invariances_are_read spelled_scripts_are_read
