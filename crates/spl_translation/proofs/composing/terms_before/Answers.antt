use Rattle.std.proofs.Common.{◌++◌, Some, sym, ap, ◌∙◌}
use Rattle.std.specs.Option.{option_map}
use Rattle.std.proofs.lemmas.List.{append-nil, drop_all}
use Rattle.st_form.specs.Plain.{plain_change}
use Rattle.st_program.specs.Plain.{plain_targets}
use Rattle.spl_translation.specs.Composing.{terms_before}
use Rattle.spl_translation.proofs.composing.terms_before.Goals as goal

pub returns : goal.returns
returns c =
    let out = plain_targets c.loop-target.out.items in
    sym c.loop-target.invariant
    ∙ ap (λ z. option_map (λ ts. out ++ ts) (terms_before (plain_change c.args.change.now) (plain_targets z))) (drop_all c.loop-target.target-index c.args.targets.now c.loop-target-test.false)
    ∙ ap Some (append-nil out)
