-- What it means that a shown state refutes a condition.
use Rattle.std.specs.Prelude.{◌≡◌, true, false}
use Rattle.st_form.specs.Formula.{truth}
use Rattle.st_form.specs.Shared.{given_of, shown_of}
use Rattle.st_form.specs.declared.conditions.Condition.{Condition}
use Rattle.shown_states.specs.declared.pictures.Picture.{Picture}
use Rattle.shown_states.specs.Pictures.{seen}

-- what is given is true in it, and what is to be shown is false
pub record IsRefuting (c : Condition) (p : Picture) : Type 0 where
  pub given : truth (seen p) (given_of c) ≡ true
  pub shown : truth (seen p) (shown_of c) ≡ false
