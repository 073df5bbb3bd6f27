use Rattle.std.proofs.Common.{◌≡◌, ◌++◌, map}
use Rattle.std.specs.Vec.Iter.{into_iter_items}
use Rattle.st_program.specs.Plain.{plain_stmts}
use Rattle.spl_semantics.specs.Going as going
use Rattle.spl_semantics.specs.Plain.{plain_acts, act_stores}
use Rattle.spl_semantics.proofs.surgery.join_all.Given as goal

abbrev pub invariant-loop-act : goal.invariant-loop-act
invariant-loop-act l = record {
  steps : plain_acts l.all.items ++ map (going.around (λ r. going.join (plain_stmts l.items) r l.block l.from)) (plain_acts (into_iter_items l.act-iterator)) ≡ map (going.around (λ r. going.join (plain_stmts l.items) r l.block l.from)) (plain_acts l.fn.acts.items);
  stores : act_stores l.all.items ++ act_stores (into_iter_items l.act-iterator) ≡ act_stores l.fn.acts.items;
}
