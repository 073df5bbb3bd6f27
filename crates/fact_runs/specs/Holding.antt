-- What it is that facts, and their formulas, hold on the runs of a program.
use Rattle.std.specs.Prelude.{ℕ, true, false, List, [], ◌∷◌, ℤ, pos, neg_ℤ}
use Rattle.list_laws.specs.Each.{Each}
use Rattle.st_form.specs.Formula.{Formula, Situation, equal, bool_var, at, negation, some, formulas}
use Rattle.observations.specs.Observation.{Observation, state_at}
use Rattle.st_program.specs.Tree.{Processes}
use Rattle.spl_semantics.specs.Runs.{IsRunOf}
use Rattle.temporal_goals.specs.Texts.{invariant}
use Rattle.obligation_laws.specs.Obligations.{HoldsOnRuns}
use Rattle.constant_facts.specs.declared.fact.Constant.{Constant}
use Rattle.constant_facts.specs.declared.fact.Constant.TheVariants.{Number, Truth}
use Rattle.constant_facts.specs.declared.fact.Fact.{Fact}
use Rattle.constant_facts.specs.Facts.{AllHold}

-- the facts hold in each state that is seen of each run
abbrev pub HoldAlways : Processes → Formula → List Fact → Type 0
HoldAlways p initial fs = (o : Observation Situation) → IsRunOf p initial o → (k : ℕ) → AllHold (state_at o k) fs

-- that the variable has the value
abbrev pub has : ℕ → Constant → Formula
has v (Number z) = equal (record { constant = neg_ℤ z; entries = (v, pos 1) ∷ [] })
has v (Truth true) = bool_var v
has v (Truth false) = negation (bool_var v)

-- a fact as a formula
abbrev pub formula_of : Fact → Formula
formula_of f = some (formulas (negation (at f.place) ∷ (has f.variable f.value ∷ [])))

-- each fact's formula is invariant
abbrev pub AllInvariant : Processes → Formula → List Fact → Type 0
AllInvariant p initial fs = Each (λ f. HoldsOnRuns p initial (invariant (formula_of f))) fs
