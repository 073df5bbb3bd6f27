use Rattle.std.proofs.Common.{◌∙◌, ap, sym, map, true, false}
use Rattle.std.proofs.lemmas.Result.{IfOk-weaker}
use Rattle.st_form.specs.Formula.{formulas, more, none}
use Rattle.st_form.specs.Shared.{case_of, consequent_of}
use Rattle.st_form.specs.Simple.{gathered, nothing, simple, simples}
use Rattle.form_table.proofs.Beginning.{denied-cases}
use Rattle.form_table.proofs.beginnings.denied.Goals as goal

pub returns-in-Any-clause-made : goal.returns-in-Any-clause-made
returns-in-Any-clause-made c =
    IfOk-weaker c.gathered_cases.result _ _
    (λ o h. h ∙ ap (λ cs. gathered true (simples nothing (formulas (map case_of cs)) false)) c.as_slice.ensures.value ∙ denied-cases (formulas (map case_of c.in-Any.cases.items))
    ∙ ap (λ s. gathered true (more (simple nothing (consequent_of s) false) none)) (sym c.in-Any.is))
    c.gathered_cases.ensures.made
