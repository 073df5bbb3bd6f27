use Rattle.std.proofs.Common.{◌∙◌, ◌+◌, ◌∷◌, length, drop, refl, ap, sym, arith}
use Rattle.std.proofs.lemmas.List.{drop_more, drop_all}
use Rattle.std.proofs.lemmas.Option.{slice_get_read}
use Rattle.st_form.specs.declared.conditions.Condition.{Condition}
use Rattle.farkas_check.specs.PlainProblem.{setting}
use Rattle.discharge.proofs.Halves.{answers-more, answers-all}
use Rattle.discharge.proofs.Marking.{searchable_at}
use Rattle.discharge.proofs.deciding.decide_each.Goals as goal

pub decide-requires : goal.decide-requires
decide-requires c =
    let cs = c.args.conditions.now in
    let i = c.loop-condition.condition-index in
    let at = slice_get_read cs (length cs) i c.condition-item.result refl (omega arith) c.condition-item.is in
    let it = searchable_at (length c.args.variables.now) cs i c.condition-item.result c.requires.searchable at in
    record { few = c.requires.few; given = it.given; shown = it.shown; given_below = it.given_below; shown_below = it.shown_below; knows = c.loop-condition.invariant.knows }

pub loop-condition-preserved : goal.loop-condition-preserved
loop-condition-preserved c =
    let cs = c.args.conditions.now in
    let i = c.loop-condition.condition-index in
    let x = c.condition-item.result in
    record {
      knows = c.in_ok-decide.ensures.knows;
      answers = answers-more (setting c.args.components.now c.args.variables.now) cs (drop i cs) (drop (i + 1) cs) c.loop-condition.verdicts.items c.push.new.self.items x c.in_ok-decide.field-0
          (drop_more cs i x (omega arith) ∙ ap (λ (y : Condition). y ∷ drop (i + 1) cs) (sym c.condition-item.is)) c.in_ok-push.ensures.items
          (record { exact = c.in_ok-decide.ensures.exact; right = c.in_ok-decide.ensures.right }) c.loop-condition.invariant.answers;
    }

pub returns-clause-answers : goal.returns-clause-answers
returns-clause-answers c =
    let cs = c.args.conditions.now in
    let i = c.loop-condition.condition-index in
    answers-all (setting c.args.components.now c.args.variables.now) cs (drop i cs) c.loop-condition.verdicts.items (drop_all i cs (omega (arith, c.loop-condition-test.false))) c.loop-condition.invariant.answers
