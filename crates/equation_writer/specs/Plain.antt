-- The code's values as plain data.
use Rattle.std.specs.declared.vec.Vec.{Vec}
use Rattle.std.specs.declared.alloc.Global.{Global}
use Rattle.std.specs.Prelude.{ℕ, ℤ, List, map}
use Rattle.st_form.specs.Formula.{Formula}
use Rattle.st_form.specs.Plain.{plain}
use Rattle.equation_forms.specs.Formulas.{Terms}
use Rattle.equation_writer.specs.declared.cases.Case.{Case}

abbrev pub plain_terms : List (Vec (ℕ × ℤ) Global) → List Terms
plain_terms vs = map (λ v. v.items) vs

abbrev pub plain_case : Case → List Formula × ℤ
plain_case c = (map plain c.parts.items, c.sum)
