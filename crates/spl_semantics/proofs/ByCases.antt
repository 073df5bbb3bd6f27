-- The steps of runs, which are given by cases, as elements of the list of steps.
use Rattle.std.proofs.Common.{◌≡◌, ℕ, refl, subst}
use Rattle.st_form.specs.declared.conditions.Part.{Part}
use Rattle.st_form.specs.declared.conditions.TransName.{TransName}
use Rattle.st_form.specs.declared.conditions.TransName.TheVariants.{Step}
use Rattle.st_program.specs.Tree.{Processes}
use Rattle.st_program.specs.Member.{Member}
use Rattle.st_program.specs.Residuals.{Rests}
use Rattle.st_program.specs.Spots.{IsNumbered}
use Rattle.spl_semantics.specs.Steps.{steps_of}
use Rattle.spl_semantics.specs.Going.{Act, act}
use Rattle.spl_semantics.specs.Cases.{Steps}
use Rattle.spl_semantics.specs.Runs.{State, LeadsBy}
use Rattle.spl_semantics.proofs.CasesAgree.{in_lists, of_lists}

-- the state behind a step
abbrev pub behind_act : Act Rests → State
behind_act a = record { left = a.left; store = a.store }

-- the steps of the list with this name and mode that lead to the state
abbrev pub Listed : Processes → State → TransName → ℕ → State → Type 0
Listed p s name mode t = (a : Act Rests) × Member a (steps_of s.left p s.store) × (a.name ≡ name) × (a.mode ≡ mode) × (t ≡ behind_act a)

pub listed : (p : Processes) → IsNumbered p → (s t : State) (o : ℕ) (part : Part) (mode : ℕ) → LeadsBy p s (Step o part) mode t → Listed p s (Step o part) mode t
listed p numbered s t o part mode l = (act (Step o part) mode t.left t.store, in_lists p numbered l, refl, refl, refl)

pub by_cases : (p : Processes) → IsNumbered p → (s : State) (o : ℕ) (part : Part) (a : Act Rests) → Member a (steps_of s.left p s.store) → a.name ≡ Step o part → LeadsBy p s (Step o part) a.mode (behind_act a)
by_cases p numbered s o part a m e = subst (λ n. Steps p s.store s.left (act n a.mode a.left a.store)) e (of_lists p numbered s.left s.store a m)
