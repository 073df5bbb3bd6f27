-- The list of conditions, and cases, as plain data.
use Rattle.std.specs.Prelude.{ℕ, List, map, refl}
use Rattle.std.specs.Coded.{Coded, code_by, coded×, coded_list, coded_ℕ}
use Rattle.st_form.specs.Plain.{plain}
use Rattle.st_form.specs.Shared.{plain_condition}
use Rattle.st_form.specs.Condition.{Implication}
use Rattle.st_form.specs.declared.conditions.Condition.{Condition}
use Rattle.st_form.specs.contracts.conditions.Condition as condition_code
use Rattle.vc_generator.specs.declared.building.Case.{Case}
use Rattle.vc_generator.specs.Atoms.{PlainCase}

-- what contracts see of a list of conditions
pub record View : Type 0 where
  pub items : List Condition
  pub weight : ℕ

abbrev pub view_code : Coded View
view_code =
    code_by (List Condition × ℕ) (coded× (coded_list condition_code.the_row.coded) coded_ℕ)
    (λ v. (v.items, v.weight))
    (λ p. record { items = p.0; weight = p.1 })
    (λ _. refl)

abbrev pub plain_list : View → List Implication
plain_list v = map plain_condition v.items

abbrev pub plain_case : Case → PlainCase
plain_case c = record { now = plain c.now; behind = plain c.behind; falls = c.falls.items }
