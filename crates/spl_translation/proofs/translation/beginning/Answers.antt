use Rattle.std.proofs.Common.{◌≡◌, ◌++◌, List, [], ◌∷◌, map, refl, ap, ◌∙◌}
use Rattle.st_form.specs.Formula.{at, every, more, formulas}
use Rattle.st_form.specs.Simple.{append}
use Rattle.st_form.specs.Plain.{plain, plain_list}
use Rattle.st_form.specs.declared.formulas.Form.{Form}
use Rattle.st_program.specs.Plain.{plain_children}
use Rattle.spl_semantics.specs.Control.{starts}
use Rattle.st_form.proofs.Nodes.{plain-And}
use Rattle.std.proofs.lemmas.List.{take_all}
use Rattle.spl_translation.proofs.translation.beginning.Goals as goal

list_append : (xs ys : List Form) → plain_list (xs ++ ys) ≡ append (plain_list xs) (plain_list ys)
list_append [] ys = refl
list_append (x ∷ xs) ys = ap (more (plain x)) (list_append xs ys)

pub returns : goal.returns
returns c =
    let parts = c.loop-location.parts.items in
    let further = plain_list c.in_ok-further.further.items in
    let items = c.deref-location-items.result.now in
    plain-And c.append.new.self
    ∙ ap (λ z. every (plain_list z)) c.in_ok-append.ensures.items
    ∙ ap every (list_append parts c.in_ok-further.further.items)
    ∙ ap (λ z. every (append (formulas z) further)) (c.loop-location.invariant ∙ ap (map (λ l. at l)) (take_all c.loop-location.location-index items c.loop-location-test.false ∙ c.deref-location-items.ensures.value ∙ c.in_ok-starts.ensures))
    ∙ ap (λ z. every (append (formulas (map (λ l. at l) (starts (plain_children c.args.processes.now)))) z)) c.in_ok-further.ensures
