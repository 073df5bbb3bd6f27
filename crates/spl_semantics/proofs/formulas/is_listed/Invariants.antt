use Rattle.std.proofs.Common.{◌≡◌, drop}
use Rattle.st_form.specs.Exchange.{is_listed}
use Rattle.spl_semantics.proofs.formulas.is_listed.Given as goal

abbrev pub invariant-loop-front : goal.invariant-loop-front
invariant-loop-front l = is_listed l.location (drop l.front-index l.fronts) ≡ is_listed l.location l.fronts
