-- The formula of a transition's enabledness is true where some mode can be taken.
use Rattle.std.proofs.Common.{◌≡◌, ℕ, Bool, true, List, [], ◌∷◌, ◌++◌, map, refl, ap, ◌∙◌}
use Rattle.std.specs.Prelude.{◌&&◌, ◌||◌}
use Rattle.std.specs.List.{list_any, list_all}
use Rattle.st_form.specs.Formula.{Formula, Situation, truth, every_truth, some_truth, at, every, formulas}
use Rattle.transition_system.specs.Systems.{PlainMode, PlainTransition}
use Rattle.transition_system.specs.Meaning.{can_go, is_enabled, enabling_of, enabled_form}

located_then : (s : Situation) (ls : List ℕ) (g : Formula) → every_truth s (formulas (map (λ l. at l) ls ++ g ∷ [])) ≡ (list_all (λ l. s.located l) ls && truth s g)
located_then s [] g = and_true (truth s g)
  where
    and_true : (b : Bool) → (b && true) ≡ b
    and_true b = elim b as (λ b. (b && true) ≡ b) [ true ↦ refl | _ ↦ refl ]
located_then s (l ∷ ls) g = ap (λ b. s.located l && b) (located_then s ls g) ∙ grouped (s.located l) (list_all (λ l. s.located l) ls) (truth s g)
  where
    grouped : (a b c : Bool) → (a && (b && c)) ≡ ((a && b) && c)
    grouped a b c = elim a as (λ a. (a && (b && c)) ≡ ((a && b) && c)) [ true ↦ refl | _ ↦ refl ]

some_mode : (s : Situation) (ms : List PlainMode) → some_truth s (formulas (map (λ m. every (formulas (enabling_of m))) ms)) ≡ list_any (λ m. can_go m s) ms
some_mode s [] = refl
some_mode s (m ∷ ms) =
    ap (λ b. b || some_truth s (formulas (map (λ m. every (formulas (enabling_of m))) ms))) (located_then s m.at m.guard)
    ∙ ap (λ b. can_go m s || b) (some_mode s ms)

pub enabled-truth : (t : PlainTransition) (s : Situation) → truth s (enabled_form t) ≡ is_enabled t s
enabled-truth t s = some_mode s t.modes
