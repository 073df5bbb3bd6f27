use Rattle.std.proofs.Common.{◌≡◌, ◌++◌, ◌+◌, ◌^◌, ◌<◌, length, drop}
use Rattle.st_program.specs.Plain.{plain_stmts}
use Rattle.st_program.specs.Spots.{bodies_in}
use Rattle.spl_semantics.specs.Data.{store_of, types, AmongMeet}
use Rattle.spl_semantics.specs.Limits.{wide_among}
use Rattle.spl_semantics.specs.Plain.{plain_acts, act_stores, AllOfTypes}
use Rattle.spl_semantics.specs.Steps.{acts_among}
use Rattle.spl_semantics.proofs.actions.+first.Given as goal

abbrev pub invariant-among_acts-loop-item : goal.invariant-among_acts-loop-item
invariant-among_acts-loop-item l = AmongMeet (types l.store) (plain_stmts l.items) → record {
  meets : AmongMeet (types l.store) (plain_stmts (drop l.item-index l.items));
  stores : AllOfTypes (types l.store) (act_stores l.acts.items);
  steps : l.fn.component + length (bodies_in (plain_stmts l.items)) < 2 ^ 32 →
      (l.component + length (bodies_in (plain_stmts (drop l.item-index l.items))) ≡ l.fn.component + length (bodies_in (plain_stmts l.items)))
      × (wide_among (plain_stmts (drop l.item-index l.items)) (store_of l.store) ≡ wide_among (plain_stmts l.items) (store_of l.store))
      × (plain_acts l.acts.items ++ acts_among (plain_stmts (drop l.item-index l.items)) l.component (store_of l.store) ≡ acts_among (plain_stmts l.items) l.fn.component (store_of l.store));
}
