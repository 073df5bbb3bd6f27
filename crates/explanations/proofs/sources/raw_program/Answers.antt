use Rattle.std.proofs.Common.{inl}
use Rattle.posed_conditions.specs.declared.faults.PosingFault.TheVariants as faults
use Rattle.explanations.proofs.sources.raw_program.Goals as goal

pub returns-then-is_stop : goal.returns-then-is_stop
returns-then-is_stop c none proof = (faults.Program c.in-Err.fault, c.is_stop.ensures c.if-is_stop.true, inl c.in-Err.ensures.reads)
