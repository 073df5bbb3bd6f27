use Rattle.std.proofs.Common.{◌≡◌, drop}
use Rattle.std.specs.Option.{option_map}
use Rattle.st_form.specs.Plain.{plain_list}
use Rattle.st_form.specs.Simple.{AreModest, gathered, simples, append, tabled}
use Rattle.st_form.proofs.+simple.Given as goal

abbrev pub invariant-simplification::simple_all-loop-f : goal.invariant-simplification::simple_all-loop-f
invariant-simplification::simple_all-loop-f l = record {
  modest : AreModest (plain_list (drop l.f-index l.fs));
  same : option_map (append (plain_list l.out.items)) (gathered l.all (simples (tabled l.truths l.places) (plain_list (drop l.f-index l.fs)) l.plus)) ≡ gathered l.all (simples (tabled l.truths l.places) (plain_list l.fs) l.plus);
}
