use Rattle.std.proofs.Common.{◌≡◌, ◌∙◌, ℕ, List, ◌++◌, map, length, refl, ap, sym, subst, arith}
use Rattle.std.specs.Prelude.{Some, slice_get}
use Rattle.std.specs.Option.{option_map}
use Rattle.std.specs.List.{Contains}
use Rattle.std.proofs.lemmas.Bool.Decides.{not_from_Decides}
use Rattle.std.proofs.lemmas.Option.{slice_get_read, slice_get-map}
use Rattle.temporal_goals.specs.declared.scripts.Step.{Step}
use Rattle.temporal_goals.specs.Plain.{plain_step}
use Rattle.cited_steps.specs.Looking.{AreGathered}
use Rattle.cited_steps.proofs.Gathering.{passed, added}
use Rattle.cited_steps.proofs.needing.look_at.Goals as goal

pub returns-in_ok-push_cited : goal.returns-in_ok-push_cited
returns-in_ok-push_cited c = λ goals g.
    (let n = c.args.number in
    let ss = c.args.steps.now in
    let s = c.index-steps-number.result in
    let ns = c.args.needed.now.items in
    let at = slice_get_read ss (length ss) n s refl (omega (arith, c.requires.number)) c.index-steps-number.is in
    let there : slice_get (map plain_step ss) n ≡ Some (plain_step s) = slice_get-map plain_step ss n ∙ ap (option_map plain_step) at in
    let among : Contains ns n = subst (λ (l : List ℕ). Contains l n) c.deref.ensures.value (c.is_among.ensures.0 c.if-is_among.true) in
    let same : c.push_cited.new.needed.items ≡ ns ++ s.cited.items = c.in_ok-push_cited.ensures ∙ ap (λ (l : List ℕ). ns ++ l) (c.deref-then-is_among.ensures.value ∙ ap (λ (t : Step). t.cited.items) (sym c.index-steps-number.is)) in
    subst (AreGathered (map plain_step ss) goals n) (sym same) (added (map plain_step ss) goals c.requires.cites n (plain_step s) ns there among g))

pub returns-else-is_among : goal.returns-else-is_among
returns-else-is_among c = λ goals g.
    passed (map plain_step c.args.steps.now) goals c.requires.cites c.args.number c.args.needed.now.items
    (λ among. not_from_Decides c.is_among.result c.is_among.ensures c.if-is_among.false (subst (λ (l : List ℕ). Contains l c.args.number) (sym c.deref.ensures.value) among)) g
