use Rattle.std.proofs.Common.{map, drop}
use Rattle.st_form.specs.Plain.{plain}
use Rattle.vc_generator.specs.Plain.{plain_list}
use Rattle.vc_generator.proofs.Growing.{Left}
use Rattle.rule_laws.specs.WaitingFor.{level_list}
use Rattle.vc_generator.specs.Asked.{lemmas_of}
use Rattle.waiting_rules.proofs.listing.levels_imply.Given as goal

abbrev pub invariant-loop-index : goal.invariant-loop-index
invariant-loop-index l =
    Left (plain_list l.fn.out) (plain_list l.out) (level_list l.fn.asking.step (lemmas_of l.fn.asking) (map plain l.fn.levels) (map plain l.fn.goals))
    (level_list l.fn.asking.step (lemmas_of l.fn.asking) (map plain (drop l.index l.fn.levels)) (map plain (drop l.index l.fn.goals)))
