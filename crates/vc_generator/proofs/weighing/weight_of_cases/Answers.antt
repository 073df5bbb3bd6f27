use Rattle.std.proofs.Common.{arith, List, Vec, Global, map}
use Rattle.std.proofs.lemmas.List.{at_drop_all}
use Rattle.st_form.specs.Formula.{formulas, weight_of}
use Rattle.st_form.specs.Shared.{case_of}
use Rattle.st_form.specs.declared.formulas.Form.{Form}
use Rattle.vc_generator.proofs.weighing.weight_of_cases.Goals as goal

pub returns : goal.returns
returns c =
    omega (arith, c.loop-case.invariant, at_drop_all (λ (xs : List (Vec Form Global)). weight_of (formulas (map case_of xs))) c.args.cases.now c.loop-case.case-index (omega arith))
