-- Names of a program by their places, with what is seen there: their fairness, and whether they are enabled.
use Rattle.std.proofs.Common.{◌≡◌, ℕ, List, map, true, refl, sym, ap, ◌∙◌}
use Rattle.std.specs.Prelude.{slice_get}
use Rattle.std.specs.Option.{option_map}
use Rattle.std.specs.declared.option.Option.{Option}
use Rattle.std.specs.declared.option.Option.TheVariants.{Some, None}
use Rattle.std.proofs.lemmas.Option.{slice_get-map}
use Rattle.basic_laws.proofs.Types.{some_same}
use Rattle.observations.specs.declared.Fairness.{Fairness}
use Rattle.st_program.specs.Tree.{Processes}
use Rattle.st_program.specs.Spots.{IsNumbered}
use Rattle.spl_semantics.specs.Names.{all_names}
use Rattle.spl_semantics.specs.Runs.{State, Leads}
use Rattle.spl_semantics.specs.Observed.{is_enabled, enabled_names}
use Rattle.spl_semantics.proofs.EnabledNames.{enabled_step, step_enabled}
use Rattle.spl_semantics.proofs.NameOrder.{Named}

-- what stands at a place of a list, where its image does
mapped : {A B : Type 0} (f : A → B) (o : Option A) (y : B) → option_map f o ≡ Some y → (x : A) × (o ≡ Some x) × (f x ≡ y)
mapped f None y e = cc
mapped f (Some x) y e = (x, refl, some_same (f x) y e)

from_image : {A B : Type 0} (f : A → B) (xs : List A) (k : ℕ) (y : B) → slice_get (map f xs) k ≡ Some y → (x : A) × (slice_get xs k ≡ Some x) × (f x ≡ y)
from_image f xs k y e = mapped f (slice_get xs k) y (sym (slice_get-map f xs k) ∙ e)

to_image : {A B : Type 0} (f : A → B) (xs : List A) (k : ℕ) (x : A) → slice_get xs k ≡ Some x → slice_get (map f xs) k ≡ Some (f x)
to_image f xs k x e = slice_get-map f xs k ∙ ap (option_map f) e

module _ (p : Processes) where
  -- the name stands at the place
  abbrev pub At : ℕ → Named → Type 0
  At x n = slice_get (all_names p) x ≡ Some n

  -- the name at a place with this fairness
  pub owed_at : (x : ℕ) (f : Fairness) → slice_get (map (λ n. n.1) (all_names p)) x ≡ Some f → (n : Named) × At x n × (n.1 ≡ f)
  owed_at x f e = from_image (λ n. n.1) (all_names p) x f e

  pub fairness_at : (x : ℕ) (n : Named) → At x n → slice_get (map (λ n. n.1) (all_names p)) x ≡ Some n.1
  fairness_at x n at = to_image (λ n. n.1) (all_names p) x n at

  -- the name at a place that is seen to be enabled
  pub enabled_at : (s : State) (x : ℕ) → slice_get (enabled_names p s) x ≡ Some true → (n : Named) × At x n × (is_enabled p s n.0 ≡ true)
  enabled_at s x e = from_image (λ n. is_enabled p s n.0) (all_names p) x true e

  -- a name that is seen to be enabled leads somewhere, and the other way round
  pub leads_on : (numbered : IsNumbered p) (s : State) (x : ℕ) (n : Named) → At x n → slice_get (enabled_names p s) x ≡ Some true → (t : State) × Leads p s n.0 t
  leads_on numbered s x n at e =
      enabled_step p numbered s n.0 (some_same (is_enabled p s n.0) true (sym (to_image (λ n. is_enabled p s n.0) (all_names p) x n at) ∙ e))

  pub on_leads : (numbered : IsNumbered p) (s : State) (x : ℕ) (n : Named) → At x n → (t : State) × Leads p s n.0 t → slice_get (enabled_names p s) x ≡ Some true
  on_leads numbered s x n at to = to_image (λ n. is_enabled p s n.0) (all_names p) x n at ∙ ap Some (step_enabled p numbered s n.0 to.0 to.1)
