-- What steps in order say of a name: the same as the steps in the order of their definition.
use Rattle.std.proofs.Common.{◌≡◌, Bool, true, false, cond, List, [], ◌∷◌, map, Option, Some, None, refl, ap, ◌∙◌, sym}
use Rattle.std.specs.Prelude.{◌||◌, if◌then◌else◌}
use Rattle.std.specs.List.{list_any, filter}
use Rattle.st_form.specs.declared.conditions.TransName.{TransName}
use Rattle.st_form.specs.declared.conditions.TransName.TheVariants.{Idle, Step}
use Rattle.st_program.specs.Residuals.{Rests}
use Rattle.st_program.specs.Tree.{Processes}
use Rattle.spl_semantics.specs.declared.acts.Move.{Move}
use Rattle.spl_semantics.specs.InOrder.{InOrder}
use Rattle.spl_semantics.specs.Names.{same_name}
use Rattle.spl_semantics.specs.Plain.{plain_moves}
use Rattle.spl_semantics.specs.Runs.{State}
use Rattle.spl_semantics.specs.Observed.{is_enabled}
use Rattle.spl_semantics.specs.Steps.{steps_of}
use Rattle.spl_semantics.specs.Going.{Act}
use Rattle.trace_player.specs.Playing.{step_named, behind_in, is_among}

module _ (name : TransName) where
  abbrev has : Act Rests → Bool
  has a = same_name a.name name

  abbrev first : List (Act Rests) → Option State
  first [] = None
  first (a ∷ rest) = Some (record { left = a.left; store = a.store })

  abbrev is_there : List (Act Rests) → Bool
  is_there [] = false
  is_there (a ∷ rest) = true

  -- the steps of the name alone tell where it leads, and whether it is there
  first-filter : (xs : List (Act Rests)) → step_named xs name ≡ first (filter has xs)
  first-filter [] = refl
  first-filter (x ∷ xs) = at_first (has x) (first-filter xs)
    where
      at_first : (b : Bool) → step_named xs name ≡ first (filter has xs)
          → (if b then Some (record { left = x.left; store = x.store }) else step_named xs name) ≡ first (cond b (x ∷ filter has xs) (filter has xs))
      at_first true e = refl
      at_first false e = e

  any-filter : (xs : List (Act Rests)) → list_any has xs ≡ is_there (filter has xs)
  any-filter [] = refl
  any-filter (x ∷ xs) = at_first (has x) (any-filter xs)
    where
      at_first : (b : Bool) → list_any has xs ≡ is_there (filter has xs) → (b || list_any has xs) ≡ is_there (cond b (x ∷ filter has xs) (filter has xs))
      at_first true e = refl
      at_first false e = e

  module _ (steps : List (Act Rests)) (moves : List Move) (order : InOrder steps moves) where
    same-step : step_named (plain_moves moves) name ≡ step_named steps name
    same-step = first-filter (plain_moves moves) ∙ ap first (order.kept name) ∙ sym (first-filter steps)

    same-any : list_any has (plain_moves moves) ≡ list_any has steps
    same-any = any-filter (plain_moves moves) ∙ ap is_there (order.kept name) ∙ sym (any-filter steps)

-- where a move leads
pub same-behind : (steps : List (Act Rests)) (moves : List Move) → InOrder steps moves → (s : State) (name : TransName) → behind_in (plain_moves moves) s name ≡ behind_in steps s name
same-behind steps moves order s Idle = refl
same-behind steps moves order s (Step o part) = same-step (Step o part) steps moves order

names-any : (name : TransName) (moves : List Move) → is_among name (map (λ m. m.name) moves) ≡ list_any (has name) (plain_moves moves)
names-any name [] = refl
names-any name (m ∷ moves) = ap (λ b. same_name m.name name || b) (names-any name moves)

-- the names of idling and of the steps are those that are enabled
pub names-enabled : (p : Processes) (s : State) (moves : List Move) → InOrder (steps_of s.left p s.store) moves
    → (name : TransName) → is_among name (Idle ∷ map (λ m. m.name) moves) ≡ is_enabled p s name
names-enabled p s moves order Idle = refl
names-enabled p s moves order (Step o part) = names-any (Step o part) moves ∙ same-any (Step o part) (steps_of s.left p s.store) moves order
