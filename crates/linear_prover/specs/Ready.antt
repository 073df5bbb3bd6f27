-- What stays so of the conjuncts of each problem of the search.
use Rattle.std.specs.Prelude.{ℕ, ◌<◌, ◌≤◌, true, List, [], ◌∷◌, Option, Some, None}
use Rattle.st_form.specs.Formula.{Formulas}
use Rattle.farkas_check.specs.Problem.{Problem}
use Rattle.farkas_check.specs.Limits.{AreSettled}
use Rattle.search_laws.specs.Forms.{AllFormsOf, IsProper}
use Rattle.search_laws.specs.Steady.{AreSteady}
use Rattle.search_laws.specs.Walks.{Found, found, stopped}

-- numbers are within the checker's limits, variables rise and are below n, and conjuncts are as simplification leaves them
pub record AreReady (n : ℕ) (fs : Formulas) : Type 0 where
  pub settled : AreSettled fs
  pub proper : AllFormsOf (IsProper n) fs
  pub steady : AreSteady fs true

abbrev pub IfReady : ℕ → Option Formulas → Type 0
IfReady n None = Unit {0}
IfReady n (Some fs) = AreReady n fs

abbrev pub AllReady : ℕ → List Problem → Type 0
AllReady n [] = Unit {0}
AllReady n (p ∷ ps) = IfReady n p.conjuncts × AllReady n ps

-- where a tree is found, the count of nodes has risen, and is within the limit
abbrev pub Rises : ℕ → Found → Type 0
Rises n (found t r) = (n < r) × (r ≤ 100000)
Rises n (stopped path e) = Unit {0}
