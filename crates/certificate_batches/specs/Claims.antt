-- Conditions that may be checked.
use Rattle.std.specs.Prelude.{◌≤◌, List, length}
use Rattle.st_form.specs.Condition.{Implication}
use Rattle.st_form.specs.declared.conditions.Condition.{Condition}
use Rattle.farkas_check.specs.Problem.{Setting}
use Rattle.farkas_check.specs.PlainProblem.{setting}
use Rattle.search_laws.specs.Searchable.{AreSearchable}
use Rattle.search_laws.specs.Forms.{IsInOrder}
use Rattle.block_laws.specs.Plain.{plains}
use Rattle.certificate_batches.specs.declared.claims.Claims.{Claims}

abbrev pub setting_of : Claims → Setting
setting_of claims = setting claims.components.now claims.variables.now

abbrev pub conditions_of : Claims → List Condition
conditions_of claims = claims.conditions.now

abbrev pub implications_of : Claims → List Implication
implications_of claims = plains claims.conditions.now

pub record MayBeChecked (claims : Claims) : Type 0 where
  pub few : length claims.conditions.now ≤ 20000
  pub searchable : AreSearchable (length claims.variables.now) claims.conditions.now
  pub few_variables : length claims.variables.now ≤ 64
  pub ordered : IsInOrder (setting_of claims).control
