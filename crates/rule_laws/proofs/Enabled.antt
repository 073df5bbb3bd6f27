-- The formula that a transition is enabled is true where it is seen to be enabled.
use Rattle.std.proofs.Common.{◌≡◌, ◌∙◌, ap, sym, refl, ℕ, zero, suc, Bool, true, false, ◌&&◌, ◌||◌, IsTrue, List, [], ◌∷◌, ◌++◌, map, slice_get, Option, Some, None}
use Rattle.std.proofs.lemmas.Bool.{false≢true}
use Rattle.std.specs.List.{list_any, list_all}
use Rattle.st_form.specs.Formula.{Formula, Situation, truth, every_truth, some_truth, at, every, formulas}
use Rattle.observations.specs.RankedNet.{IsAmong}
use Rattle.transition_system.specs.Systems.{PlainMode, PlainTransition, System}
use Rattle.transition_system.specs.Meaning.{can_go, is_enabled, enabled_in, enabled_form, enabling_of}
use Rattle.rule_laws.specs.Names.{enabled_if, enabled_of}

module _ (s : Situation) where
  conditions-truth : (ls : List ℕ) (f : Formula) → every_truth s (formulas (map (λ l. at l) ls ++ f ∷ [])) ≡ (list_all (λ l. s.located l) ls && truth s f)
  conditions-truth [] f = and-true (truth s f)
    where
      and-true : (b : Bool) → (b && true) ≡ (true && b)
      and-true true = refl
      and-true false = refl
  conditions-truth (l ∷ ls) f = ap (λ b. s.located l && b) (conditions-truth ls f) ∙ sym (and-assoc (s.located l) (list_all (λ l. s.located l) ls) (truth s f))
    where
      and-assoc : (a b c : Bool) → ((a && b) && c) ≡ (a && (b && c))
      and-assoc true b c = refl
      and-assoc false b c = refl

  modes-truth : (ms : List PlainMode) → some_truth s (formulas (map (λ m. every (formulas (enabling_of m))) ms)) ≡ list_any (λ m. can_go m s) ms
  modes-truth [] = refl
  modes-truth (m ∷ ms) = ap (λ b. b || some_truth s (formulas (map (λ m. every (formulas (enabling_of m))) ms))) (conditions-truth m.at m.guard) ∙ ap (λ b. can_go m s || b) (modes-truth ms)

  -- the formula says what it is for
  pub enabled-truth : (t : PlainTransition) → truth s (enabled_form t) ≡ is_enabled t s
  enabled-truth t = modes-truth t.modes

  seen-enabled : (ts : List PlainTransition) (n : ℕ) → IsTrue (truth s (enabled_if (slice_get ts n))) → slice_get (map (λ t. is_enabled t s) ts) n ≡ Some true
  seen-enabled [] n h = absurd (false≢true h)
  seen-enabled (t ∷ ts) zero h = ap Some (sym (enabled-truth t) ∙ h)
  seen-enabled (t ∷ ts) (suc n) h = seen-enabled ts n h

  -- a transition whose formula is true is among those that are enabled
  pub enabled-among : (system : System) (g : Option ℕ) → IsTrue (truth s (enabled_of system g)) → IsAmong g (enabled_in system s)
  enabled-among system None h = absurd (false≢true h)
  enabled-among system (Some n) h = seen-enabled system.transitions n h
