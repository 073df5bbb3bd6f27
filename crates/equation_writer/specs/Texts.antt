-- How formulas are printed: by the grammar of proof texts, with parentheses round a conjunction or a disjunction inside another
-- formula.
use Rattle.std.specs.Prelude.{ℕ, Bool, true, false, List, [], ◌++◌, codes}
use Rattle.st_form.specs.Formula.{Formula, Formulas, truth_value, row, equal, bool_var, at, negation, every, some, none, more}
use Rattle.st_program.specs.Names.{Names}
use Rattle.step_report.specs.Names.{variable_text, location_text}
use Rattle.step_report.specs.Sums.{sum_text}

-- what stands round a formula inside another
abbrev pub opening : Formula → List ℕ
opening (every fs) = codes "("
opening (some fs) = codes "("
opening f = []

abbrev pub closing : Formula → List ℕ
closing (every fs) = codes ")"
closing (some fs) = codes ")"
closing f = []

abbrev mutual
  pub formula_text : Names → Formula → List ℕ
  formula_text names (truth_value true) = codes "true"
  formula_text names (truth_value false) = codes "false"
  formula_text names (row f) = sum_text names f ++ codes " >= 0"
  formula_text names (equal f) = sum_text names f ++ codes " = 0"
  formula_text names (bool_var v) = variable_text names v
  formula_text names (at l) = codes "at " ++ location_text names l
  formula_text names (negation f) = codes "~" ++ opening f ++ formula_text names f ++ closing f
  formula_text names (every fs) = joined_text names (codes " /\\ ") (codes "true") fs
  formula_text names (some fs) = joined_text names (codes " \\/ ") (codes "false") fs

  -- parts with a sign between them, or what stands for none
  pub joined_text : Names → List ℕ → List ℕ → Formulas → List ℕ
  joined_text names sign empty none = empty
  joined_text names sign empty (more f fs) = opening f ++ formula_text names f ++ closing f ++ further_text names sign fs

  pub further_text : Names → List ℕ → Formulas → List ℕ
  further_text names sign none = []
  further_text names sign (more f fs) = sign ++ opening f ++ formula_text names f ++ closing f ++ further_text names sign fs

-- the parts from one on, which may be the first
abbrev pub from_part : Names → List ℕ → List ℕ → Bool → Formulas → List ℕ
from_part names sign empty true fs = joined_text names sign empty fs
from_part names sign empty false fs = further_text names sign fs
