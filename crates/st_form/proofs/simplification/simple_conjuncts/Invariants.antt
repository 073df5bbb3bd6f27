use Rattle.std.proofs.Common.{◌≡◌, drop, true}
use Rattle.std.specs.Option.{option_map}
use Rattle.st_form.specs.Plain.{plain_list}
use Rattle.st_form.specs.Simple.{AreModest, gathered, simples, append, tabled}
use Rattle.st_form.proofs.simplification.simple_conjuncts.Given as goal

abbrev pub invariant-loop-f : goal.invariant-loop-f
invariant-loop-f l = record {
  modest : AreModest (plain_list (drop l.f-index l.fs));
  same : option_map (append (plain_list l.out.items)) (gathered true (simples (tabled l.truths l.places) (plain_list (drop l.f-index l.fs)) true)) ≡ gathered true (simples (tabled l.truths l.places) (plain_list l.fs) true);
}
