use Rattle.std.proofs.Common.{◌≡◌, ◌++◌, drop}
use Rattle.std.specs.Option.{option_map}
use Rattle.st_form.specs.Plain.{plain_change}
use Rattle.st_program.specs.Plain.{plain_targets}
use Rattle.spl_translation.specs.Composing.{terms_before}
use Rattle.spl_translation.proofs.composing.terms_before.Given as goal

abbrev pub invariant-loop-target : goal.invariant-loop-target
invariant-loop-target l =
    option_map (λ ts. plain_targets l.out.items ++ ts) (terms_before (plain_change l.change) (plain_targets (drop l.target-index l.targets)))
    ≡ terms_before (plain_change l.change) (plain_targets l.targets)
