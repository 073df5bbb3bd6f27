use Rattle.std.proofs.Common.{◌≢◌, ◌++◌, ◌∷◌, [], false, map, ap, sym, refl, ◌∙◌, pos}
use Rattle.std.proofs.lemmas.List.{map-append}
use Rattle.st_form.specs.Formula.{formulas}
use Rattle.st_form.specs.Plain.{plain}
use Rattle.st_form.specs.Simple.{closed}
use Rattle.equation_writer.proofs.Limiting.{other-whereabouts}
use Rattle.equation_writer.proofs.cases.push_whereabouts.Goals as goal

pub returns : goal.returns
returns c =
    let k = c.args.class.now in
    let other : k ≢ pos 0 = λ e. c.if-class-eq0.false (rw e refl) in
    ap (map plain) c.in_ok-push.ensures.items
    ∙ map-append plain c.args.out.now.items (c.closed.result ∷ [])
    ∙ ap (λ f. map plain c.args.out.now.items ++ f ∷ []) (c.closed.ensures ∙ ap (λ fs. closed false (formulas fs)) c.in_ok-locations_with.ensures)
    ∙ ap (λ fs. map plain c.args.out.now.items ++ fs) (sym (other-whereabouts c.args.terms.now k other))
