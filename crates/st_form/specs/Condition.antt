-- Conditions.
use Rattle.st_form.specs.Formula.{Formula}
use Rattle.st_form.specs.declared.conditions.CondName.{CondName}

-- a condition as plain data: where the one formula is true, the other is to be true
pub record Implication : Type 0 where
  pub given : Formula
  pub shown : Formula
  pub name : CondName
