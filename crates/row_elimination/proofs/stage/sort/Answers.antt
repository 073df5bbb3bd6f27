use Rattle.std.proofs.Common.{◌≡◌, ◌∷◌, ◌++◌, ◌∙◌, sym, ap, map, Some}
use Rattle.elimination_laws.specs.Mixing.{part}
use Rattle.elimination_laws.specs.Stages.{is_free, bounds_below, bounds_above}
use Rattle.row_elimination.specs.Plain.{rows}
use Rattle.row_elimination.specs.Places.{sift_from}
use Rattle.row_elimination.proofs.Sifting.{skipped, taken, kept-push, HaveAll-push, up-others, down-others}
use Rattle.row_elimination.proofs.stage.sort.Goals as goal

pub loop-line-preserved-in-Continue-branch-2 : goal.loop-line-preserved-in-Continue-branch-2
loop-line-preserved-in-Continue-branch-2 c =
    let o = up-others (part c.args.var c.in-Some.line.entries.items) c.in-Below.ensures in
    let e : c.loop-line.rest.items ≡ c.in-Some.line ∷ c.pop_front.new.self.items = c.in-Some.ensures.items in
    record {
      room = c.loop-line.invariant.room;
      same = sym (ap (λ ts. sift_from (rows c.loop-line.next.items) (map Some ts)) (skipped (is_free c.args.var) c.in-Some.line _ _ e o.0)) ∙ c.loop-line.invariant.same;
      lower = rw c.in_ok-push-in-Below.ensures.items (kept-push c.loop-line.lowers.items c.in-Some.line _ _ _ c.loop-line.invariant.lower (taken (bounds_below c.args.var) c.in-Some.line _ _ e c.in-Below.ensures));
      upper = sym (ap (λ ts. rows c.loop-line.uppers.items ++ ts) (skipped (bounds_above c.args.var) c.in-Some.line _ _ e o.1)) ∙ c.loop-line.invariant.upper;
      lower_have = rw c.in_ok-push-in-Below.ensures.items (HaveAll-push c.args.var _ c.in-Some.line c.loop-line.invariant.lower_have o.0);
      upper_have = c.loop-line.invariant.upper_have;
    }

pub loop-line-preserved : goal.loop-line-preserved
loop-line-preserved c =
    let o = down-others (part c.args.var c.in-Some.line.entries.items) c.in-Above.ensures in
    let e : c.loop-line.rest.items ≡ c.in-Some.line ∷ c.pop_front.new.self.items = c.in-Some.ensures.items in
    record {
      room = c.loop-line.invariant.room;
      same = sym (ap (λ ts. sift_from (rows c.loop-line.next.items) (map Some ts)) (skipped (is_free c.args.var) c.in-Some.line _ _ e o.0)) ∙ c.loop-line.invariant.same;
      lower = sym (ap (λ ts. rows c.loop-line.lowers.items ++ ts) (skipped (bounds_below c.args.var) c.in-Some.line _ _ e o.1)) ∙ c.loop-line.invariant.lower;
      upper = rw c.in_ok-push-in-Above.ensures.items (kept-push c.loop-line.uppers.items c.in-Some.line _ _ _ c.loop-line.invariant.upper (taken (bounds_above c.args.var) c.in-Some.line _ _ e c.in-Above.ensures));
      lower_have = c.loop-line.invariant.lower_have;
      upper_have = rw c.in_ok-push-in-Above.ensures.items (HaveAll-push c.args.var _ c.in-Some.line c.loop-line.invariant.upper_have o.0);
    }
