use Rattle.std.proofs.Common.{◌≡◌, drop}
use Rattle.elimination_laws.specs.Mixing.{part}
use Rattle.lean_elimination.proofs.factors.part.Given as goal

abbrev pub invariant-loop-e : goal.invariant-loop-e
invariant-loop-e l = part l.var (drop l.e-index l.entries) ≡ part l.var l.entries
