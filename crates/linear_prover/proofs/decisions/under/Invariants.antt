use Rattle.std.proofs.Common.{◌≡◌, drop, true}
use Rattle.std.specs.Option.{option_map}
use Rattle.st_form.specs.Simple.{gathered, simples, append, tabled}
use Rattle.farkas_check.specs.Limits.{AreSettled}
use Rattle.search_laws.specs.Steady.{AreSteady}
use Rattle.linear_prover.specs.Plain.{plain_each}
use Rattle.linear_prover.proofs.decisions.under.Given as goal

abbrev pub invariant-loop-f : goal.invariant-loop-f
invariant-loop-f l = record {
  settled : AreSettled (plain_each (drop l.f-index l.fs));
  steady : AreSteady (plain_each (drop l.f-index l.fs)) true;
  same : option_map (append (plain_each l.out.items)) (gathered true (simples (tabled l.truths l.places) (plain_each (drop l.f-index l.fs)) true)) ≡ gathered true (simples (tabled l.truths l.places) (plain_each l.fs) true);
}
