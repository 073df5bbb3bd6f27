use Rattle.transition_system.specs.Plain.{plain_system}
use Rattle.vc_generator.specs.Plain.{plain_list}
use Rattle.vc_generator.specs.Refusing.{Begins}
use Rattle.obligations.proofs.Walking.{Behind}
use Rattle.obligations.proofs.scripts.append_steps.Given as goal

abbrev pub invariant-loop-index : goal.invariant-loop-index
invariant-loop-index l = record {
  behind : Behind (plain_system l.fn.fts) l.fn.steps l.index (plain_list l.list);
  begins : Begins (plain_list l.fn.list) (plain_list l.list);
}
