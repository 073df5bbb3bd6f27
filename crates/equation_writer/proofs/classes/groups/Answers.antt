use Rattle.std.proofs.Common.{◌≡◌, ◌<◌, length, ap, sym, ◌∙◌, arith}
use Rattle.std.proofs.lemmas.Bool.Decides.{nat_tests}
use Rattle.equation_writer.specs.Plain.{plain_terms}
use Rattle.equation_writer.proofs.Grouping.{groups-skip, groups-next}
use Rattle.equation_writer.proofs.classes.groups.Goals as goal

pub loop-component-preserved-then-is_empty : goal.loop-component-preserved-then-is_empty
loop-component-preserved-then-is_empty c =
    let none : length c.in_ok-terms.terms.items ≡ 0 = grind (arith, nat_tests, c.in_ok-terms.terms.ok.0, c.if-is_empty.true, c.is_empty.ensures) in
    groups-skip c.args.owners.now c.args.places.now c.args.components c.loop-component.component (plain_terms c.loop-component.out.items) _ (omega arith) (ap length (sym c.in_ok-terms.ensures) ∙ none) c.loop-component.invariant

pub loop-component-preserved : goal.loop-component-preserved
loop-component-preserved c =
    let some : 0 < length c.in_ok-terms.terms.items = grind (arith, nat_tests, c.in_ok-terms.terms.ok.0, c.if-is_empty.false, c.is_empty.ensures) in
    rw c.in_ok-push.ensures.items
    (groups-next c.args.owners.now c.args.places.now c.args.components c.loop-component.component c.loop-component.out.items c.in_ok-terms.terms _ (omega arith) c.in_ok-terms.ensures some c.loop-component.invariant)
