-- The names of a program's transitions, in order, each with its fairness.
--
-- Idling comes first, then each statement's own by occurrence, an entry directly before its exit. Nothing is owed to
-- idling and to a noncritical section; a request is owed compassion, all others justice (Manna and Pnueli, *Temporal
-- Verification of Reactive Systems: Safety*, section 0.6).
use Rattle.std.specs.Prelude.{ℕ, Bool, true, false, ◌&&◌, ◌==◌, List, [], ◌∷◌, flat_map}
use Rattle.st_form.specs.declared.conditions.Part.{Part}
use Rattle.st_form.specs.declared.conditions.Part.TheVariants.{Whole, Entry, Exit}
use Rattle.st_form.specs.declared.conditions.TransName.{TransName}
use Rattle.st_form.specs.declared.conditions.TransName.TheVariants.{Idle, Step}
use Rattle.observations.specs.declared.Fairness.{Fairness}
use Rattle.observations.specs.declared.Fairness.TheVariants.{Unfair, Just, Compassionate}
use Rattle.st_program.specs.Tree.{Action, skip, noncritical, request, block, select, cooperate, Processes, occurrence, action}
use Rattle.st_program.specs.Spots.{all_spots}

abbrev pub own_names : Action → ℕ → List (TransName × Fairness)
own_names noncritical o = (Step o Whole, Unfair) ∷ []
own_names (request v) o = (Step o Whole, Compassionate) ∷ []
own_names (block ss) o = []
own_names (select ss) o = []
own_names (cooperate ps) o = (Step o Entry, Just) ∷ (Step o Exit, Just) ∷ []
own_names skip o = (Step o Whole, Just) ∷ []
own_names _ o = (Step o Whole, Just) ∷ []

abbrev pub all_names : Processes → List (TransName × Fairness)
all_names p = (Idle, Unfair) ∷ flat_map (λ x. own_names (action x.stmt) (occurrence x.stmt)) (all_spots p)

abbrev pub same_part : Part → Part → Bool
same_part Whole Whole = true
same_part Entry Entry = true
same_part Exit Exit = true
same_part Whole _ = false
same_part Entry _ = false
same_part Exit _ = false

abbrev pub same_name : TransName → TransName → Bool
same_name Idle Idle = true
same_name (Step o q) (Step n r) = (o == n) && same_part q r
same_name Idle (Step n r) = false
same_name (Step o q) Idle = false
