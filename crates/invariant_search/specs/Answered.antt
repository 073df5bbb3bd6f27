-- The model of `Answered`.
use Rattle.std.specs.Prelude.{◌<◌, ◌^◌, length}
use Rattle.farkas_check.specs.PlainProblem.{setting}
use Rattle.shared_search.specs.Books.{Knows}
use Rattle.invariant_search.specs.declared.prover.Answered.TheInside.{Inside}

-- there are few variables, and what the book says is so for them and for the components
pub record IsAnswered (a : Inside) : Type 0 where
  pub few : length a.variables.now < 2 ^ 32
  pub knows : Knows (setting a.components.now a.variables.now) a.book
