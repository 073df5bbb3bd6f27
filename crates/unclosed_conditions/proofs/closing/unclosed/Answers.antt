use Rattle.std.proofs.Common.{◌≡◌, ◌∙◌, ◌∷◌, ℕ, List, map, length, sym, ap, subst, arith}
use Rattle.std.specs.Vec.Iter.{into_iter_items}
use Rattle.farkas_check.specs.PlainProblem.{setting}
use Rattle.discharge.specs.declared.marks.Undecided.{Undecided}
use Rattle.discharge.specs.Marked.{IsUndecided, place_of}
use Rattle.open_conditions.specs.Open.{AreOpen}
use Rattle.unclosed_conditions.proofs.Leaving.{IsOnWay, at-end, empty, goes-on, right-on}
use Rattle.unclosed_conditions.proofs.closing.unclosed.Goals as goal

pub loop-undecided-preserved : goal.loop-undecided-preserved
loop-undecided-preserved c =
    let k = setting c.args.components.now c.args.variables.now in
    let cs = c.args.conditions.now in
    let whole = map place_of c.args.found.items in
    let kept = c.loop-undecided.kept.items in
    let u = c.in-Some.undecided in
    let closed = c.in_ok-closed.closed in
    let rest : List Undecided = into_iter_items c.next.new.self in
    let items : into_iter_items c.loop-undecided.undecided-iterator ≡ u ∷ rest = c.in-Some.ensures.steps.0 in
    let there : IsUndecided k cs u × AreOpen k cs rest = subst (AreOpen k cs) items c.loop-undecided.invariant.rest in
    let way : IsOnWay k cs whole kept (u ∷ rest) = subst (IsOnWay k cs whole kept) items c.loop-undecided.invariant.way in
    let count = ap length items in
    record {
      way = subst (λ (us : List Undecided). IsOnWay k cs whole us rest) (sym c.in_ok-keep.ensures) (goes-on k cs closed whole kept rest u c.in_ok-closed.ensures way);
      kept = subst (AreOpen k cs) (sym c.in_ok-keep.ensures) (right-on k cs closed kept u c.loop-undecided.invariant.kept there.0);
      rest = there.1;
      long = omega (arith, c.in-Some.ensures.steps.1, c.loop-undecided.invariant.long, count);
    }

pub returns-clause-left : goal.returns-clause-left
returns-clause-left c =
    let k = setting c.args.components.now c.args.variables.now in
    let cs = c.args.conditions.now in
    let whole = map place_of c.args.found.items in
    let kept = c.loop-undecided.kept.items in
    let none = empty (into_iter_items c.loop-undecided.undecided-iterator) (sym c.loop-undecided.invariant.long ∙ c.in-None.ensures.steps.0) in
    at-end k cs whole kept (subst (IsOnWay k cs whole kept) none c.loop-undecided.invariant.way)
