use Rattle.std.proofs.Common.{◌-◌, ◌≤◌, map, drop}
use Rattle.st_form.specs.Plain.{plain}
use Rattle.vc_generator.specs.Plain.{plain_list}
use Rattle.vc_generator.proofs.Growing.{Left}
use Rattle.rule_laws.specs.WaitingFor.{move_list}
use Rattle.vc_generator.specs.Asked.{system_of, lemmas_of}
use Rattle.waiting_rules.proofs.listing.modes_fall.Given as goal

abbrev pub invariant-loop-index : goal.invariant-loop-index
invariant-loop-index l = record {
  past : 1 ≤ l.index;
  left : Left (plain_list l.fn.out) (plain_list l.out) (move_list l.fn.asking.step (system_of l.fn.asking) (lemmas_of l.fn.asking) (map plain l.fn.levels))
      (move_list l.fn.asking.step (system_of l.fn.asking) (lemmas_of l.fn.asking) (map plain (drop (l.index - 1) l.fn.levels)));
}
