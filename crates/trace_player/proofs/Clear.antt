-- How many states of a run are clear, and what lists of values tell that are as long.
use Rattle.std.proofs.Common.{◌≡◌, ℕ, zero, suc, ◌≤◌, ◌<◌, Bool, true, false, List, [], ◌∷◌, length, map, Some, refl, ap, ◌∙◌, sym, arith, if◌then◌else◌}
use Rattle.std.specs.Prelude.{◌||◌, min, slice_get}
use Rattle.std.proofs.lemmas.List.{length-map}
use Rattle.observations.specs.Observation.{Moment, Observation, moment_after, state_at, last}
use Rattle.trace_player.specs.Columns.{states_in, column}

-- how many of the first ones aren't wide
abbrev pub clear : {A : Type 0} → (A → Bool) → List A → ℕ
clear wide [] = 0
clear wide (x ∷ xs) = if wide x then 0 else suc (clear wide xs)

pub column-long : {A B : Type 0} (wide : A → Bool) (value : A → B) (xs : List A) → length (column wide value xs) ≡ clear wide xs
column-long wide value [] = refl
column-long wide value (x ∷ xs) = by (wide x) (column-long wide value xs)
  where
    by : (b : Bool) → length (column wide value xs) ≡ clear wide xs → length (if b then [] else value x ∷ column wide value xs) ≡ (if b then 0 else suc (clear wide xs))
    by true h = refl
    by false h = ap suc h

pub clear-within : {A : Type 0} (wide : A → Bool) (xs : List A) → clear wide xs ≤ length xs
clear-within wide [] = omega arith
clear-within wide (x ∷ xs) = by (wide x) (clear-within wide xs)
  where
    by : (b : Bool) → clear wide xs ≤ length xs → (if b then 0 else suc (clear wide xs)) ≤ length (x ∷ xs)
    by true h = omega arith
    by false h = omega (arith, h)

pub clear-or : {A : Type 0} (v w : A → Bool) (xs : List A) → min (clear v xs) (clear w xs) ≡ clear (λ x. v x || w x) xs
clear-or v w [] = refl
clear-or v w (x ∷ xs) = by (v x) (w x) (clear-or v w xs)
  where
    by : (a b : Bool) → min (clear v xs) (clear w xs) ≡ clear (λ x. v x || w x) xs
        → min (if a then 0 else suc (clear v xs)) (if b then 0 else suc (clear w xs)) ≡ (if a || b then 0 else suc (clear (λ x. v x || w x) xs))
    by true b h = omega arith
    by false true h = omega arith
    by false false h = omega (arith, h)

pub before-clear : {A : Type 0} (wide : A → Bool) (xs : List A) (j : ℕ) (x : A) → j < clear wide xs → slice_get xs j ≡ Some x → wide x ≡ false
before-clear wide [] j x h e = absurd (omega (arith, h))
before-clear wide (y ∷ ys) j x h e = by (wide y) refl j h e (before-clear wide ys)
  where
    by : (b : Bool) → wide y ≡ b → (j : ℕ) → j < (if b then 0 else suc (clear wide ys)) → slice_get (y ∷ ys) j ≡ Some x
        → ((j : ℕ) (x : _) → j < clear wide ys → slice_get ys j ≡ Some x → wide x ≡ false) → wide x ≡ false
    by true q j h e down = absurd (omega (arith, h))
    by false q zero h e down = let same : x ≡ y = cc in ap wide same ∙ q
    by false q (suc j) h e down = down j x (omega (arith, h)) e

pub at-clear : {A : Type 0} (wide : A → Bool) (xs : List A) (x : A) → slice_get xs (clear wide xs) ≡ Some x → wide x ≡ true
at-clear wide [] x e = cc
at-clear wide (y ∷ ys) x e = by (wide y) refl e (at-clear wide ys x)
  where
    by : (b : Bool) → wide y ≡ b → slice_get (y ∷ ys) (if b then 0 else suc (clear wide ys)) ≡ Some x → (slice_get ys (clear wide ys) ≡ Some x → wide x ≡ true) → wide x ≡ true
    by true q e down = let same : x ≡ y = cc in ap wide same ∙ q
    by false q e down = down e

pub column-at : {A B : Type 0} (wide : A → Bool) (value : A → B) (xs : List A) (j : ℕ) (x : A) → j < clear wide xs → slice_get xs j ≡ Some x → slice_get (column wide value xs) j ≡ Some (value x)
column-at wide value [] j x h e = absurd (omega (arith, h))
column-at wide value (y ∷ ys) j x h e = by (wide y) j h e (column-at wide value ys)
  where
    by : (b : Bool) (j : ℕ) → j < (if b then 0 else suc (clear wide ys)) → slice_get (y ∷ ys) j ≡ Some x
        → ((j : ℕ) (x : _) → j < clear wide ys → slice_get ys j ≡ Some x → slice_get (column wide value ys) j ≡ Some (value x))
        → slice_get (if b then [] else value y ∷ column wide value ys) j ≡ Some (value x)
    by true j h e down = absurd (omega (arith, h))
    by false zero h e down = let same : x ≡ y = cc in ap (λ z. Some (value z)) (sym same)
    by false (suc j) h e down = down j x (omega (arith, h)) e

pub column-map : {A B C : Type 0} (f : A → B) (wide : B → Bool) (value : B → C) (xs : List A) → column wide value (map f xs) ≡ column (λ x. wide (f x)) (λ x. value (f x)) xs
column-map f wide value [] = refl
column-map f wide value (x ∷ xs) = ap (λ l. if wide (f x) then [] else value (f x) ∷ l) (column-map f wide value xs)

-- the states of an observation by position
there : {S : Type 0} (now : Moment S) (later : List (ℕ × Moment S)) (k : ℕ) → k ≤ length later → slice_get (now.state ∷ map (λ step. step.1.state) later) k ≡ Some ((moment_after now later k).state)
there now [] zero h = refl
there now [] (suc k) h = absurd (omega (arith, h))
there now (step ∷ later) zero h = refl
there now (step ∷ later) (suc k) h = there step.1 later k (omega (arith, h))

pub state-there : {S : Type 0} (o : Observation S) (k : ℕ) → k ≤ last o → slice_get (states_in o) k ≡ Some (state_at o k)
state-there o k h = there o.first o.later k h

pub states-long : {S : Type 0} (o : Observation S) → length (states_in o) ≡ suc (last o)
states-long {S} o = ap suc (length-map o.later (λ (step : ℕ × Moment S). step.1.state))

-- a list that is as long as the run has the value of each state
module _ {S B : Type 0} (wide : S → Bool) (value : S → B) (o : Observation S) (ys : List B) (is : ys ≡ column wide value (states_in o)) (all : length (states_in o) ≤ length ys) where
  whole : clear wide (states_in o) ≡ suc (last o)
  whole =
      let e = ap length is ∙ column-long wide value (states_in o) in
      let within = clear-within wide (states_in o) in
      omega (arith, e, within, all, states-long o)

  pub each-long : length ys ≡ suc (last o)
  each-long = ap length is ∙ column-long wide value (states_in o) ∙ whole

  pub each-value : (k : ℕ) → k ≤ last o → slice_get ys k ≡ Some (value (state_at o k))
  each-value k h = ap (λ l. slice_get l k) is ∙ column-at wide value (states_in o) k (state_at o k) (omega (arith, h, whole)) (state-there o k h)
