-- Where a schedule stops: at the first state in which a number is too large, or before the first move that isn't a step.
use Rattle.std.proofs.Common.{◌≡◌, ℕ, suc, ◌+◌, Bool, true, false, List, [], ◌∷◌, Option, Some, None, refl, sym, ap, ◌∙◌, subst, arith}
use Rattle.std.specs.Prelude.{if◌then◌else◌, slice_get}
use Rattle.st_form.specs.Formula.{Formula}
use Rattle.st_form.specs.declared.conditions.TransName.{TransName}
use Rattle.st_form.specs.declared.conditions.TransName.TheVariants.{Idle, Step}
use Rattle.st_program.specs.Tree.{Processes}
use Rattle.st_program.specs.Programs.{WellFormed}
use Rattle.st_program.specs.Spots.{IsNumbered}
use Rattle.spl_semantics.specs.Limits.{wide_rests}
use Rattle.spl_semantics.specs.Runs.{State, Reached, next, Leads}
use Rattle.spl_semantics.specs.Steps.{steps_of}
use Rattle.spl_semantics.proofs.ByCases.{listed}
use Rattle.trace_player.specs.Playing.{Outcome, made, too_large, illegal, onto, go_on, outcome, behind_move}
use Rattle.trace_laws.specs.Schedules.{IsNarrow}
use Rattle.trace_laws.specs.Endings.{Reaches, stays, moves, IsWideBehind, IsStuckBehind}
use Rattle.trace_laws.proofs.Played.{named_found, move_leads, leads_move, narrow_goes}

none_some : {A : Type 0} (s : State) → None ≡ Some s → A
none_some s e = cc

-- a move that isn't made isn't a step
no_step : (p : Processes) → IsNumbered p → (s : State) (name : TransName) → behind_move p s name ≡ None → (t : State) → Leads p s name t → ⊥
no_step p numbered s Idle e t l = none_some s (sym e)
no_step p numbered s (Step o part) e t l =
    let a = listed p numbered s t o part l.0 l.1 in
    let f = named_found (Step o part) (steps_of s.left p s.store) a.0 a.1 a.2 in
    none_some f.0 (sym e ∙ f.1)

-- what isn't a step isn't made
no_move : (p : Processes) → IsNumbered p → (s : State) (name : TransName) → ((t : State) → Leads p s name t → ⊥) → behind_move p s name ≡ None
no_move p numbered s name off = by_move (behind_move p s name) refl
  where
    by_move : (o : Option State) → behind_move p s name ≡ o → o ≡ None
    by_move None e = refl
    by_move (Some t) e = absurd (off t (move_leads p numbered s t name e))

-- one move more
wide_later : (p : Processes) (s t : State) (name : TransName) (names : List TransName) (k : ℕ) → IsNarrow p s → Leads p s name t → IsWideBehind p t names k → IsWideBehind p s (name ∷ names) (suc k)
wide_later p s t name names k n l w = record { state = w.state; reaches = moves n l w.reaches; wide = w.wide }

stuck_later : (p : Processes) (s t : State) (name : TransName) (names : List TransName) (k : ℕ) → IsNarrow p s → Leads p s name t → IsStuckBehind p t names k → IsStuckBehind p s (name ∷ names) (suc k)
stuck_later p s t name names k n l w = record { state = w.state; reaches = moves n l w.reaches; narrow = w.narrow; name = w.name; is_next = w.is_next; off = w.off }

-- position j is k behind the first one
abbrev Ahead : (ℕ → Type 0) → ℕ → ℕ → Type 0
Ahead P k j = (i : ℕ) × (j ≡ k + i) × P i

module _ (p : Processes) (numbered : IsNumbered p) where
  -- what an answer says of the moves from the state at position k
  abbrev Says : State → List TransName → ℕ → Outcome → Type 0
  Says s names k (made later) = Unit {0}
  Says s names k (too_large j) = Ahead (IsWideBehind p s names) k j
  Says s names k (illegal j) = Ahead (IsStuckBehind p s names) k j

  wide_here : (s : State) (names : List TransName) (k : ℕ) → wide_rests s.left p s.store ≡ true → Says s names k (too_large k)
  wide_here s names k w = (0, omega arith, record { state = s; reaches = stays; wide = w })

  onward : (s t : State) (name : TransName) (names : List TransName) (k : ℕ) → IsNarrow p s → Leads p s name t → (r : Outcome) → Says t names (suc k) r → Says s (name ∷ names) k (onto name t r)
  onward s t name names k n l (made later) h = tt
  onward s t name names k n l (too_large j) h = let f : j ≡ suc k + h.0 = h.1 in (suc h.0, omega (arith, f), wide_later p s t name names h.0 n l h.2)
  onward s t name names k n l (illegal j) h = let f : j ≡ suc k + h.0 = h.1 in (suc h.0, omega (arith, f), stuck_later p s t name names h.0 n l h.2)

  said : (names : List TransName) (s : State) (k : ℕ) → Says s names k (outcome p names s k)
  said [] s k = at_test (wide_rests s.left p s.store) refl
    where
      at_test : (b : Bool) → wide_rests s.left p s.store ≡ b → Says s [] k (if b then too_large k else made [])
      at_test true q = wide_here s [] k q
      at_test false q = tt
  said (name ∷ names) s k = at_test (wide_rests s.left p s.store) refl (λ t. said names t (suc k))
    where
      at_move : (o : Option State) → behind_move p s name ≡ o → IsNarrow p s → ((t : State) → Says t names (suc k) (outcome p names t (suc k)))
          → Says s (name ∷ names) k (go_on o (λ t. outcome p names t (suc k)) name k)
      at_move None q n further = (0, omega arith, record { state = s; reaches = stays; narrow = n; name = name; is_next = refl; off = no_step p numbered s name q })
      at_move (Some t) q n further = onward s t name names k n (move_leads p numbered s t name q) (outcome p names t (suc k)) (further t)

      at_test : (b : Bool) → wide_rests s.left p s.store ≡ b → ((t : State) → Says t names (suc k) (outcome p names t (suc k)))
          → Says s (name ∷ names) k (if b then too_large k else go_on (behind_move p s name) (λ t. outcome p names t (suc k)) name k)
      at_test true q further = wide_here s (name ∷ names) k q
      at_test false q further = at_move (behind_move p s name) refl q further

  -- at the place itself
  pub wide_at : (names : List TransName) (s : State) (k i : ℕ) → outcome p names s k ≡ too_large (k + i) → IsWideBehind p s names i
  wide_at names s k i e =
      let r : Ahead (IsWideBehind p s names) k (k + i) = subst (Says s names k) e (said names s k) in
      let f : k + i ≡ k + r.0 = r.1 in
      let g : r.0 ≡ i = omega (arith, f) in
      subst (IsWideBehind p s names) g r.2

  pub stuck_at : (names : List TransName) (s : State) (k i : ℕ) → outcome p names s k ≡ illegal (k + i) → IsStuckBehind p s names i
  stuck_at names s k i e =
      let r : Ahead (IsStuckBehind p s names) k (k + i) = subst (Says s names k) e (said names s k) in
      let f : k + i ≡ k + r.0 = r.1 in
      let g : r.0 ≡ i = omega (arith, f) in
      subst (IsStuckBehind p s names) g r.2

  wide_stops : (names : List TransName) (s : State) (k : ℕ) → wide_rests s.left p s.store ≡ true → outcome p names s k ≡ too_large k
  wide_stops [] s k w = ap (λ b. if b then too_large k else made []) w
  wide_stops (name ∷ names) s k w = ap (λ b. if b then too_large k else go_on (behind_move p s name) (λ t. outcome p names t (suc k)) name k) w

  stuck_stops : (names : List TransName) (s : State) (name : TransName) (k : ℕ) → IsNarrow p s → slice_get names 0 ≡ Some name → ((t : State) → Leads p s name t → ⊥) → outcome p names s k ≡ illegal k
  stuck_stops [] s name k n e off = cc
  stuck_stops (x ∷ names) s name k n e off =
      let f : x ≡ name = cc in
      let others : State → Outcome = λ t. outcome p names t (suc k) in
      narrow_goes p s k (go_on (behind_move p s x) others x k) n
      ∙ ap (λ o. go_on o others x k) (no_move p numbered s x (subst (λ z. (t : State) → Leads p s z t → ⊥) (sym f) off))

-- the moves before are made in states of runs
module _ (p : Processes) (initial : Formula) (well : WellFormed p) where
  made_before : (s t : State) (name : TransName) (names : List TransName) (k : ℕ) → Reached p initial s → IsNarrow p s → Leads p s name t → outcome p (name ∷ names) s k ≡ onto name t (outcome p names t (suc k))
  made_before s t name names k r n l =
      let others : State → Outcome = λ t. outcome p names t (suc k) in
      narrow_goes p s k (go_on (behind_move p s name) others name k) n ∙ ap (λ o. go_on o others name k) (leads_move p initial well s t name r l)

  pub wide_large : {s u : State} {names : List TransName} {i : ℕ} → Reached p initial s → Reaches p s names i u → wide_rests u.left p u.store ≡ true → (k : ℕ) → outcome p names s k ≡ too_large (k + i)
  wide_large {s} {names = names} r stays w k = let e : k ≡ k + 0 = omega arith in wide_stops p well.numbered names s k w ∙ ap too_large e
  wide_large r (moves {s = s} {t = t} {name = name} {names = names} {k = i} n l d) w k =
      let e : suc k + i ≡ k + suc i = omega arith in
      made_before s t name names k r n l ∙ ap (onto name t) (wide_large (next name r l) d w (suc k)) ∙ ap too_large e

  pub stuck_illegal : {s u : State} {names : List TransName} {i : ℕ} → Reached p initial s → Reaches p s names i u → IsNarrow p u → (name : TransName) → slice_get names i ≡ Some name
      → ((t : State) → Leads p u name t → ⊥) → (k : ℕ) → outcome p names s k ≡ illegal (k + i)
  stuck_illegal {s} {names = names} r stays h name q off k = let e : k ≡ k + 0 = omega arith in stuck_stops p well.numbered names s name k h q off ∙ ap illegal e
  stuck_illegal r (moves {s = s} {t = t} {name = x} {names = names} {k = i} n l d) h name q off k =
      let e : suc k + i ≡ k + suc i = omega arith in
      made_before s t x names k r n l ∙ ap (onto x t) (stuck_illegal (next x r l) d h name q off (suc k)) ∙ ap illegal e
