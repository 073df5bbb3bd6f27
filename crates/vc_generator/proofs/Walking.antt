-- What holds of all conditions of a walk holds of those of each place of it.
use Rattle.std.proofs.Common.{◌≡◌, sym, subst, ℕ, zero, suc, ◌+◌, List, [], ◌∷◌, ◌++◌, slice_get, Some, arith}
use Rattle.std.proofs.lemmas.Option.{none-some}
use Rattle.st_form.specs.Formula.{Situation}
use Rattle.vc_generator.specs.Building.{Draft}
use Rattle.transition_system.specs.Systems.{PlainMode, PlainTransition, System}
use Rattle.vc_generator.specs.Validity.{AllHoldIn}
use Rattle.vc_generator.specs.Walks.{numbered_from, each_mode}

module _ (s : Situation) where
  pub first-hold : (cs ds : List Draft) → AllHoldIn (cs ++ ds) s → AllHoldIn cs s
  first-hold [] ds all = tt
  first-hold (c ∷ cs) ds all = (all.0, first-hold cs ds all.1)

  pub others-hold : (cs ds : List Draft) → AllHoldIn (cs ++ ds) s → AllHoldIn ds s
  others-hold [] ds all = all
  others-hold (c ∷ cs) ds all = others-hold cs ds all.1

  pub numbered-hold : {A : Type 0} (f : ℕ → A → List Draft) (n : ℕ) (xs : List A) (i : ℕ) (x : A) → slice_get xs i ≡ Some x → AllHoldIn (numbered_from f n xs) s → AllHoldIn (f (n + i) x) s
  numbered-hold f n [] i x here all = absurd (none-some x here)
  numbered-hold f n (y ∷ ys) zero x here all =
      let same : y ≡ x = cc in
      let number : n + 0 ≡ n = omega arith in
      subst (λ k. AllHoldIn (f k x) s) (sym number) (subst (λ z. AllHoldIn (f n z) s) same (first-hold (f n y) (numbered_from f (n + 1) ys) all))
  numbered-hold f n (y ∷ ys) (suc i) x here all =
      let number : n + 1 + i ≡ n + suc i = omega arith in
      subst (λ k. AllHoldIn (f k x) s) number (numbered-hold f (n + 1) ys i x here (others-hold (f n y) (numbered_from f (n + 1) ys) all))

  -- the conditions of a mode of a transition
  pub mode-holds : (f : ℕ → PlainTransition → ℕ → PlainMode → List Draft) (system : System) (number place : ℕ) (t : PlainTransition) (m : PlainMode)
      → slice_get system.transitions number ≡ Some t → slice_get t.modes place ≡ Some m → AllHoldIn (each_mode f system) s → AllHoldIn (f number t (1 + place) m) s
  mode-holds f system number place t m here moded all =
      let modes = numbered-hold (λ n t. numbered_from (λ k m. f n t k m) 1 t.modes) 0 system.transitions number t here all in
      let same : 0 + number ≡ number = omega arith in
      numbered-hold (λ k m. f number t k m) 1 t.modes place m moded (subst (λ n. AllHoldIn (numbered_from (λ k m. f n t k m) 1 t.modes) s) same modes)
