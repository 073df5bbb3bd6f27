use Rattle.std.proofs.Common.{◌≡◌, ℕ, ◌<◌, ◌∙◌, List, ap, get_or, length, refl, sym, true, arith}
use Rattle.std.specs.Int.{bit_at}
use Rattle.std.specs.Prelude.{slice_index_or}
use Rattle.st_form.specs.Formula.{Formula}
use Rattle.st_form.specs.Simple.{Decided, simple}
use Rattle.form_table.specs.Table.{formula}
use Rattle.form_table.specs.Nodes.{formulas_in, parts_at}
use Rattle.form_table.specs.Contents.{decision_at}
use Rattle.form_table.specs.Lists.{listed_in}
use Rattle.form_table.specs.Memory.{choices}
use Rattle.form_table.proofs.Making.{extends-trans}
use Rattle.form_table.proofs.Taking.{next-part, no-part}
use Rattle.form_table.proofs.Remembering.{remembers-both, remembers-later}
use Rattle.form_table.proofs.Restricting.{ends-some, goes-under, joined-under, entry-is, takes-lasting}
use Rattle.form_table.proofs.restriction.+under.Goals as goal

pub under_parts-loop-part-preserved : goal.under_parts-loop-part-preserved
under_parts-loop-part-preserved t c =
    let d : Decided = decision_at (choices c.args.decisions.now) c.args.decision in
    let at : c.loop-part.part-index < length c.args.parts.now = omega arith in
    let part : ℕ = get_or c.args.parts.now c.loop-part.part-index 0 in
    let low : part < length (formulas_in c.args.pool.now.store) = omega (arith, c.requires.below c.loop-part.part-index 0 at, c.requires.there) in
    let same = ap (λ x. simple d x true) (c.loop-part.invariant.extends.same part low) in
    let next = next-part d (formulas_in c.args.pool.now.store) c.args.parts.now c.loop-part.part-index (simple d (formula (formulas_in c.loop-part.pool.store) part) true) at same in
    record {
      extends = extends-trans _ _ _ c.loop-part.invariant.extends c.in_ok-take_under.ensures.extends;
      remembers = c.in_ok-take_under.ensures.remembers;
      there = c.in_ok-take_under.ensures.there;
      same = goes-under c.args.all c.in_ok-take_under.field-0 _ _ c.loop-part.out.items c.take_under.new.out.items (simple d (formula (formulas_in c.loop-part.pool.store) part) true) _ _ _ c.in_ok-take_under.ensures.extends c.loop-part.invariant.there next c.loop-part.invariant.same c.in_ok-take_under.ensures.takes c.if-not-branch.false;
    }

pub under_parts-returns-clause-made : goal.under_parts-returns-clause-made
under_parts-returns-clause-made t c =
    let d : Decided = decision_at (choices c.args.decisions.now) c.args.decision in
    ends-some c.args.all _ _ _ (no-part d (formulas_in c.args.pool.now.store) c.args.parts.now c.loop-part.part-index c.loop-part-test.false) c.loop-part.invariant.same

pub under_joined-returns-clause-remembers : goal.under_joined-returns-clause-remembers
under_joined-returns-clause-remembers t c =
    let ts : List Formula = formulas_in c.args.pool.now.store in
    let us : List Formula = formulas_in c.under_parts.new.pool.store in
    let vs : List Formula = formulas_in c.joined.new.pool.store in
    let made = joined-under (decision_at (choices c.args.decisions.now) c.args.decision) c.args.all ts vs (parts_at c.args.pool.now.store.parts c.args.at.0 c.args.at.1) c.as_slice-2.result.now c.args.number c.in_ok-simple.simple (listed_in us c.in_ok-gathered.gathered)
    c.requires.same (c.as_slice-2.ensures.value ∙ c.in_ok-parts.ensures.items ∙ c.parts.ensures) c.in_ok-gathered.ensures.made c.in_ok-simple.ensures.made in
    let known = remembers-later us vs (choices c.args.decisions.now) _ c.in_ok-simple.ensures.extends c.in_ok-gathered.ensures.remembers in
    let entries = c.remember.ensures.entries vs (choices c.args.decisions.now) known.entries
    (entry-is ts vs (choices c.args.decisions.now) c.args.decision c.args.number c.in_ok-simple.simple _ refl refl refl (extends-trans ts us vs c.in_ok-gathered.ensures.extends c.in_ok-simple.ensures.extends) c.requires.there made) in
    remembers-both vs (choices c.args.decisions.now) _ _ entries c.remember.ensures.lasting known.lasting

pub under_joined-returns-in_err-remember-clause-remembers : goal.under_joined-returns-in_err-remember-clause-remembers
under_joined-returns-in_err-remember-clause-remembers t c =
    let ts : List Formula = formulas_in c.args.pool.now.store in
    let us : List Formula = formulas_in c.under_parts.new.pool.store in
    let vs : List Formula = formulas_in c.joined.new.pool.store in
    let made = joined-under (decision_at (choices c.args.decisions.now) c.args.decision) c.args.all ts vs (parts_at c.args.pool.now.store.parts c.args.at.0 c.args.at.1) c.as_slice-2.result.now c.args.number c.in_ok-simple.simple (listed_in us c.in_ok-gathered.gathered)
    c.requires.same (c.as_slice-2.ensures.value ∙ c.in_ok-parts.ensures.items ∙ c.parts.ensures) c.in_ok-gathered.ensures.made c.in_ok-simple.ensures.made in
    let known = remembers-later us vs (choices c.args.decisions.now) _ c.in_ok-simple.ensures.extends c.in_ok-gathered.ensures.remembers in
    let entries = c.remember.ensures.entries vs (choices c.args.decisions.now) known.entries
    (entry-is ts vs (choices c.args.decisions.now) c.args.decision c.args.number c.in_ok-simple.simple _ refl refl refl (extends-trans ts us vs c.in_ok-gathered.ensures.extends c.in_ok-simple.ensures.extends) c.requires.there made) in
    remembers-both vs (choices c.args.decisions.now) _ _ entries c.remember.ensures.lasting known.lasting

pub take_under-returns-then-is_lasting-clause-takes : goal.take_under-returns-then-is_lasting-clause-takes
take_under-returns-then-is_lasting-clause-takes t c =
    let at : ℕ = c.args.decision in
    let bit : bit_at (slice_index_or c.args.memo.now.lasting.items c.args.part 0) at ≡ 1
    = sym (ap (λ ws. bit_at (slice_index_or ws c.args.part 0) at) c.as_slice.ensures.value) ∙ c.is_lasting.ensures c.if-is_lasting.true in
    takes-lasting (formulas_in c.args.pool.now.store) (choices c.args.decisions.now) at c.args.part c.args.all c.args.out.now.items c.push.new.self.items c.if-all.true
    c.in_ok-push.ensures.items (c.requires.remembers.lasting.each c.args.part at bit)
