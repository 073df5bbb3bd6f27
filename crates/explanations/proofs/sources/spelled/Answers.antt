use Rattle.posed_conditions.specs.declared.faults.PosingFault.TheVariants as faults
use Rattle.explanations.proofs.sources.spelled.Goals as goal

pub returns-then-is_script-clause-refused : goal.returns-then-is_script-clause-refused
returns-then-is_script-clause-refused c none = (faults.Proof c.in-Err.fault, c.is_script.ensures c.if-is_script.true, c.in-Err.ensures)
