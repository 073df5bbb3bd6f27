-- A run and what comes behind it for ever, as one infinite run.
use Rattle.std.proofs.Common.{◌≡◌, ℕ, zero, suc, ◌+◌, List, [], ◌∷◌, length, arith, refl, sym, subst, ap, ◌∙◌}
use Rattle.st_form.specs.declared.conditions.TransName.{TransName}
use Rattle.st_program.specs.Tree.{Processes}
use Rattle.spl_semantics.specs.Runs.{State, Leads, Follows}
use Rattle.fair_runs.specs.Programs.{steps_along}

module _ (p : Processes) where
  abbrev pub end_of : State → List (TransName × State) → State
  end_of s [] = s
  end_of s (x ∷ later) = end_of x.1 later

  abbrev pub states : State → List (TransName × State) → (ℕ → State) → ℕ → State
  states s [] f k = f k
  states s (x ∷ later) f zero = s
  states s (x ∷ later) f (suc k) = states x.1 later f k

  abbrev pub names : List (TransName × State) → (ℕ → TransName) → ℕ → TransName
  names [] g k = g k
  names (x ∷ later) g zero = x.0
  names (x ∷ later) g (suc k) = names later g k

  pub states_first : (s : State) (later : List (TransName × State)) (f : ℕ → State) → f 0 ≡ end_of s later → states s later f 0 ≡ s
  states_first s [] f e = e
  states_first s (x ∷ later) f e = refl

  pub states_behind : (s : State) (later : List (TransName × State)) (f : ℕ → State) (k : ℕ) → states s later f (length later + k) ≡ f k
  states_behind s [] f k = ap f (let e : 0 + k ≡ k = omega arith in e)
  states_behind s (x ∷ later) f k = ap (states s (x ∷ later) f) (let e : suc (length later) + k ≡ suc (length later + k) = omega arith in e) ∙ states_behind x.1 later f k

  pub names_behind : (later : List (TransName × State)) (g : ℕ → TransName) (k : ℕ) → names later g (length later + k) ≡ g k
  names_behind [] g k = ap g (let e : 0 + k ≡ k = omega arith in e)
  names_behind (x ∷ later) g k = ap (names (x ∷ later) g) (let e : suc (length later) + k ≡ suc (length later + k) = omega arith in e) ∙ names_behind later g k

  pub states_lead : (s : State) (later : List (TransName × State)) (f : ℕ → State) (g : ℕ → TransName) → Follows p s later → f 0 ≡ end_of s later
      → ((k : ℕ) → Leads p (f k) (g k) (f (suc k))) → (k : ℕ) → Leads p (states s later f k) (names later g k) (states s later f (suc k))
  states_lead s [] f g follows e leads k = leads k
  states_lead s (x ∷ later) f g follows e leads zero = subst (Leads p s x.0) (sym (states_first x.1 later f e)) follows.0
  states_lead s (x ∷ later) f g follows e leads (suc k) = states_lead x.1 later f g follows.1 e leads k

  run_shift : (st : ℕ → State) (nm : ℕ → TransName) (n k : ℕ) → steps_along st nm (suc k) n ≡ steps_along (λ j. st (suc j)) (λ j. nm (suc j)) k n
  run_shift st nm zero k = refl
  run_shift st nm (suc n) k = ap (λ z. (nm (suc k), st (suc (suc k))) ∷ z) (run_shift st nm n (suc k))

  pub run_is : (s : State) (later : List (TransName × State)) (f : ℕ → State) (g : ℕ → TransName) → f 0 ≡ end_of s later
      → steps_along (states s later f) (names later g) 0 (length later) ≡ later
  run_is s [] f g e = refl
  run_is s (x ∷ later) f g e =
      ap (λ z. (x.0, states x.1 later f 0) ∷ z) (run_shift (states s (x ∷ later) f) (names (x ∷ later) g) (length later) 0 ∙ run_is x.1 later f g e)
      ∙ ap (λ z. (x.0, z) ∷ later) (states_first x.1 later f e)
