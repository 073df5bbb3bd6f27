use Rattle.std.proofs.Common.{rules, Bool}
use Rattle.std.specs.Prelude.{Option}
use Rattle.std.specs.declared.vec.Vec.{Vec}
use Rattle.std.specs.declared.alloc.Global.{Global}
use Rattle.std.proofs.lemmas.Result.{IfOk-weaker}
use Rattle.control_states.proofs.Deciding.{are_right}
use Rattle.control_states.proofs.components.Components.places.Goals as goal

pub returns-clause-exact : goal.returns-clause-exact
returns-clause-exact c = search rules

pub returns-clause-right : goal.returns-clause-right
returns-clause-right c = IfOk-weaker {X = Vec (Option Bool) Global} _ _ _ (λ v same. are_right c.args.self.now c.args.cases.now v.items same) (returns-clause-exact c)
