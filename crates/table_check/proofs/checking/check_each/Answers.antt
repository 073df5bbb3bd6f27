use Rattle.std.proofs.Common.{◌≡◌, ◌<◌, ◌≤◌, ◌∙◌, true, false, length, map, refl, sym, arith}
use Rattle.st_form.specs.Shared.{plain_condition}
use Rattle.farkas_check.specs.PlainProblem.{setting}
use Rattle.shared_certificates.specs.Nodes.{tree}
use Rattle.table_check.specs.Conditions.{HaveTrees}
use Rattle.table_check.specs.Nodes.{trees_by}
use Rattle.table_check.proofs.Proving.{proved-ends, proved-lengths, proved-on, proved-whole, searchable-on}
use Rattle.table_check.proofs.checking.check_each.Goals as goal

pub returns-then-roots-conditions : goal.returns-then-roots-conditions
returns-then-roots-conditions c =
    (λ no. absurd (cc), λ v. absurd (c.if-roots-conditions.true (proved-lengths (setting c.args.components.now c.args.variables.now) c.args.conditions.now (trees_by c.args.nodes.now) c.args.roots.now v)))

pub returns-then-not-yes : goal.returns-then-not-yes
returns-then-not-yes c =
    let k = setting c.args.components.now c.args.variables.now in
    let here : c.loop-place.place < length c.args.conditions.now = omega (arith, c.loop-place-test.true) in
    let there : c.loop-place.place < length c.args.roots.now = omega (arith, here, c.if-roots-conditions.false) in
    let exact = rw c.in-Some.is at c.in_ok-yes.ensures.exact in (
      λ no. absurd (cc),
      λ v. absurd (proved-ends k c.args.conditions.now (trees_by c.args.nodes.now) c.args.roots.now c.loop-place.place c.index-conditions-place.result
          (HaveTrees k (map plain_condition c.args.conditions.now) (map (tree (trees_by c.args.nodes.now)) c.args.roots.now)) here there c.index-conditions-place.is
          (λ p. let yes : c.in-Some.yes ≡ true = exact.1 p in let no : true ≡ false = sym yes ∙ c.if-not-yes.true in absurd (cc)) c.loop-place.invariant.same v),
    )

pub loop-place-preserved : goal.loop-place-preserved
loop-place-preserved c =
    let k = setting c.args.components.now c.args.variables.now in
    let here : c.loop-place.place < length c.args.conditions.now = omega (arith, c.loop-place-test.true) in
    let there : c.loop-place.place < length c.args.roots.now = omega (arith, here, c.if-roots-conditions.false) in
    let exact = rw c.in-Some.is at c.in_ok-yes.ensures.exact in
    record {
      knows = c.in_ok-yes.ensures.knows;
      known = c.in_ok-yes.ensures.known;
      searchable = searchable-on (length c.args.variables.now) c.args.conditions.now c.loop-place.place c.index-conditions-place.result here c.loop-place.invariant.searchable;
      same = proved-on k c.args.conditions.now (trees_by c.args.nodes.now) c.args.roots.now c.loop-place.place c.index-conditions-place.result
          (HaveTrees k (map plain_condition c.args.conditions.now) (map (tree (trees_by c.args.nodes.now)) c.args.roots.now)) here there c.index-conditions-place.is
          (exact.0 c.if-not-yes.false) c.loop-place.invariant.same;
    }

pub returns : goal.returns
returns c =
    let k = setting c.args.components.now c.args.variables.now in
    let here : length c.args.conditions.now ≤ c.loop-place.place = omega (arith, c.loop-place-test.false) in
    let there : length c.args.roots.now ≤ c.loop-place.place = omega (arith, here, c.if-roots-conditions.false) in (
      λ yes. proved-whole k c.args.conditions.now (trees_by c.args.nodes.now) c.args.roots.now c.loop-place.place
          (HaveTrees k (map plain_condition c.args.conditions.now) (map (tree (trees_by c.args.nodes.now)) c.args.roots.now)) here there c.loop-place.invariant.same,
      λ v. refl,
    )
