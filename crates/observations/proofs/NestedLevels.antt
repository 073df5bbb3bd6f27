-- Levels of a nested net against the bases and the delay that there were at the beginning of a round.
--
-- A node is low where at some depth its upper number is below what stood there and the groups around it are never
-- enabled in the round. What is low stays low, and its numbers together are less.
use Rattle.std.proofs.Common.{◌≡◌, ◌≢◌, ℕ, ◌⊎◌, inl, inr, List, [], ◌∷◌, Bool, true, ℤ, pos, ◌+ℤ◌, ◌≤ℤ◌, arith, subst, ◌∙◌}
use Rattle.std.specs.Prelude.{slice_get}
use Rattle.std.proofs.lemmas.Int.{ints}
use Rattle.std.specs.declared.option.Option.TheVariants.{Some}
use Rattle.observations.specs.NestedNet.{Level, upper, lower, AreRanked, SomeEnabled, Leads, Stays}
use Rattle.observations.specs.NestedNet.Leads.{Falls, Free, Under}

-- all bases and the delay together
abbrev pub whole : {S : Type 0} → List (Level S) → (S → ℤ) → S → ℤ
whole [] delay s = delay s
whole (l ∷ ls) delay s = l.base s +ℤ whole ls delay s

pub whole_below : {S : Type 0} (ls : List (Level S)) (d : S → ℤ) (s : S) → AreRanked ls d s → (pos 0 ≤ℤ whole ls d s) × (whole ls d s ≤ℤ upper ls d s)
whole_below [] d s h = (h, omega (arith, ints))
whole_below (l ∷ ls) d s h =
    let rest = whole_below ls d s h.2 in
    (omega (arith, ints), omega (arith, ints))

lower_below : {S : Type 0} (ls : List (Level S)) (d : S → ℤ) (s : S) → AreRanked ls d s → lower ls d s ≤ℤ upper ls d s
lower_below [] d s h = omega (arith, ints)
lower_below (l ∷ ls) d s h = let rest = whole_below ls d s h.2 in omega (arith, ints)

-- against groups with the bases that they had, and the delay that there was: at some depth the node's upper number is
-- below what stood there; the groups around it are never enabled
pub data Low {S : Type 0} (Q : ℕ → Type 0) (D : ℤ) (s : S) : List (ℕ × ℤ) → List (Level S) → (S → ℤ) → Type 0 where
  AtEnd : {ms : List (Level S)} {e : S → ℤ} → (upper ms e s +ℤ pos 1) ≤ℤ D → Low Q D s [] ms e
  AtLevel : {f : ℕ × ℤ} {fs : List (ℕ × ℤ)} {ms : List (Level S)} {e : S → ℤ} → (upper ms e s +ℤ pos 1) ≤ℤ f.1 → Low Q D s (f ∷ fs) ms e
  Below : {f : ℕ × ℤ} {fs : List (ℕ × ℤ)} {m : Level S} {ms : List (Level S)} {e : S → ℤ} → Q f.0 → m.group ≡ f.0 → m.base s ≤ℤ f.1 → Low Q D s fs ms e → Low Q D s (f ∷ fs) (m ∷ ms) e

abbrev pub frames : {S : Type 0} → List (Level S) → S → List (ℕ × ℤ)
frames [] s = []
frames (l ∷ ls) s = (l.group, l.base s) ∷ frames ls s

-- the sum of the bases of the frames and the delay
abbrev pub total : List (ℕ × ℤ) → ℤ → ℤ
total [] D = D
total (f ∷ fs) D = f.1 +ℤ total fs D

-- the frames' bases and the delay are at least 0
abbrev pub NotNegative : List (ℕ × ℤ) → ℤ → Type 0
NotNegative [] D = pos 0 ≤ℤ D
NotNegative (f ∷ fs) D = (pos 0 ≤ℤ f.1) × NotNegative fs D

total_at_least : (fs : List (ℕ × ℤ)) (D : ℤ) → NotNegative fs D → pos 0 ≤ℤ total fs D
total_at_least [] D h = h
total_at_least (f ∷ fs) D h = let rest = total_at_least fs D h.1 in omega (arith, ints)

-- where a node is low, its numbers together are less
pub low_less : {S : Type 0} (Q : ℕ → Type 0) (D : ℤ) (s : S) (fs : List (ℕ × ℤ)) (ms : List (Level S)) (e : S → ℤ) → AreRanked ms e s → NotNegative fs D → Low Q D s fs ms e → (whole ms e s +ℤ pos 1) ≤ℤ total fs D
low_less Q D s [] ms e ranked at_least (AtEnd h) = let w = whole_below ms e s ranked in omega (arith, ints)
low_less Q D s (f ∷ fs) ms e ranked at_least (AtLevel h) = let w = whole_below ms e s ranked in let t = total_at_least fs D at_least.1 in omega (arith, ints)
low_less Q D s (f ∷ fs) (m ∷ ms) e ranked at_least (Below quiet same base low) = let rest = low_less Q D s fs ms e ranked.2 at_least.1 low in omega (arith, ints)

pub leads_upper : {S : Type 0} (enabled : List Bool) (name : ℕ) (s t : S) (ls : List (Level S)) (d : S → ℤ) (ms : List (Level S)) (e : S → ℤ) → AreRanked ls d s → Leads enabled name s t ls d ms e → upper ms e t ≤ℤ upper ls d s
leads_upper enabled name s t ls d ms e ranked (Falls h) = let low = lower_below ls d s ranked in omega (arith, ints)
leads_upper enabled name s t (l ∷ ls) d (m ∷ ms) e ranked (Free same other lit base top) = top
leads_upper enabled name s t (l ∷ ls) d (m ∷ ms) e ranked (Under same other base top rest) = top

pub stays_upper : {S : Type 0} (name : ℕ) (s t : S) (ls : List (Level S)) (d : S → ℤ) → Stays name s t ls d → upper ls d t ≤ℤ upper ls d s
stays_upper name s t [] d h = h
stays_upper name s t (l ∷ ls) d h = h.2

module _ {S : Type 0} (Q : ℕ → Type 0) (enabled : List Bool) (name : ℕ) (s t : S) (quiet : (g : ℕ) → Q g → ¬ (slice_get enabled g ≡ Some true)) where
  off : (g h : ℕ) → g ≡ h → Q h → slice_get enabled g ≡ Some true → ⊥
  off g h same q lit = quiet h q (subst (λ x. slice_get enabled x ≡ Some true) same lit)

  pub low_step : (D : ℤ) (fs : List (ℕ × ℤ)) (ls : List (Level S)) (d : S → ℤ) (ms : List (Level S)) (e : S → ℤ) → AreRanked ls d s → Low Q D s fs ls d → Leads enabled name s t ls d ms e → Low Q D t fs ms e
  low_step D [] ls d ms e ranked (AtEnd h) leads = let u = leads_upper enabled name s t ls d ms e ranked leads in AtEnd (omega (arith, ints))
  low_step D (f ∷ fs) ls d ms e ranked (AtLevel h) leads = let u = leads_upper enabled name s t ls d ms e ranked leads in AtLevel (omega (arith, ints))
  low_step D (f ∷ fs) (l ∷ ls) d ms e ranked (Below q same base low) (Falls h) = AtLevel (omega (arith, ints))
  low_step D (f ∷ fs) (l ∷ ls) d (m ∷ ms) e ranked (Below q same base low) (Free same' other lit b u) = absurd (off l.group f.0 same q lit)
  low_step D (f ∷ fs) (l ∷ ls) d (m ∷ ms) e ranked (Below q same base low) (Under same' other b u rest) = Below q (same' ∙ same) (omega (arith, ints)) (low_step D fs ls d ms e ranked.2 low rest)

  pub low_stay : (D : ℤ) (fs : List (ℕ × ℤ)) (ls : List (Level S)) (d : S → ℤ) → Low Q D s fs ls d → Stays name s t ls d → Low Q D t fs ls d
  low_stay D [] ls d (AtEnd h) stays = let u = stays_upper name s t ls d stays in AtEnd (omega (arith, ints))
  low_stay D (f ∷ fs) ls d (AtLevel h) stays = let u = stays_upper name s t ls d stays in AtLevel (omega (arith, ints))
  low_stay D (f ∷ fs) (l ∷ ls) d (Below q same base low) stays = Below q same (let b = stays.1 in omega (arith, ints)) (low_stay D fs ls d low stays.3)

-- the node has the frames' groups down to g, with no higher bases; the groups around g are never enabled
pub data Kept {S : Type 0} (Q : ℕ → Type 0) (g : ℕ) (s : S) : List (ℕ × ℤ) → List (Level S) → Type 0 where
  Last : {f : ℕ × ℤ} {fs : List (ℕ × ℤ)} {m : Level S} {ms : List (Level S)} → m.group ≡ g → m.base s ≤ℤ f.1 → Kept Q g s (f ∷ fs) (m ∷ ms)
  Inside : {f : ℕ × ℤ} {fs : List (ℕ × ℤ)} {m : Level S} {ms : List (Level S)} → Q f.0 → m.group ≡ f.0 → m.base s ≤ℤ f.1 → Kept Q g s fs ms → Kept Q g s (f ∷ fs) (m ∷ ms)

-- the node has the frames' groups, none of which is ever enabled, and no higher bases and delay
abbrev pub Fits : {S : Type 0} → (ℕ → Type 0) → ℤ → S → List (ℕ × ℤ) → List (Level S) → (S → ℤ) → Type 0
Fits Q D s [] [] d = d s ≤ℤ D
Fits Q D s [] (l ∷ ls) d = ⊥
Fits Q D s (f ∷ fs) [] d = ⊥
Fits Q D s (f ∷ fs) (l ∷ ls) d = Q f.0 × (l.group ≡ f.0) × (l.base s ≤ℤ f.1) × Fits Q D s fs ls d

module _ {S : Type 0} (Q : ℕ → Type 0) (enabled : List Bool) (name : ℕ) (s t : S) (quiet : (g : ℕ) → Q g → ¬ (slice_get enabled g ≡ Some true)) where
  pub kept_step : (g : ℕ) (D : ℤ) (fs : List (ℕ × ℤ)) (ls : List (Level S)) (d : S → ℤ) (ms : List (Level S)) (e : S → ℤ) → Kept Q g s fs ls → Leads enabled name s t ls d ms e → Low Q D t fs ms e ⊎ ((g ≢ name) × Kept Q g t fs ms)
  kept_step g D [] ls d ms e kept leads = elim kept [ ]
  kept_step g D (f ∷ fs) [] d ms e kept leads = elim kept [ ]
  kept_step g D (f ∷ fs) (l ∷ ls) d ms e (Last same base) (Falls h) = inl (AtLevel (omega (arith, ints)))
  kept_step g D (f ∷ fs) (l ∷ ls) d (m ∷ ms) e (Last same base) (Free same' other lit b u) = inr ((λ x. other (same ∙ x)), Last (same' ∙ same) (omega (arith, ints)))
  kept_step g D (f ∷ fs) (l ∷ ls) d (m ∷ ms) e (Last same base) (Under same' other b u rest) = inr ((λ x. other (same ∙ x)), Last (same' ∙ same) (omega (arith, ints)))
  kept_step g D (f ∷ fs) (l ∷ ls) d ms e (Inside q same base kept) (Falls h) = inl (AtLevel (omega (arith, ints)))
  kept_step g D (f ∷ fs) (l ∷ ls) d (m ∷ ms) e (Inside q same base kept) (Free same' other lit b u) = absurd (off Q enabled name s t quiet l.group f.0 same q lit)
  kept_step g D (f ∷ fs) (l ∷ ls) d (m ∷ ms) e (Inside q same base kept) (Under same' other b u rest) =
      let here' : m.base t ≤ℤ f.1 = omega (arith, ints) in
      elim (kept_step g D fs ls d ms e kept rest) [
        | inl low ↦ inl (Below q (same' ∙ same) here' low)
        | inr go ↦ inr (go.0, Inside q (same' ∙ same) here' go.1)
      ]

  pub kept_stay : (g : ℕ) (fs : List (ℕ × ℤ)) (ls : List (Level S)) (d : S → ℤ) → Kept Q g s fs ls → Stays name s t ls d → (g ≢ name) × Kept Q g t fs ls
  kept_stay g [] ls d kept stays = elim kept [ ]
  kept_stay g (f ∷ fs) [] d kept stays = elim kept [ ]
  kept_stay g (f ∷ fs) (l ∷ ls) d (Last same base) stays = ((λ x. stays.0 (same ∙ x)), Last same (let b = stays.1 in omega (arith, ints)))
  kept_stay g (f ∷ fs) (l ∷ ls) d (Inside q same base kept) stays =
      let rest = kept_stay g fs ls d kept stays.3 in
      (rest.0, Inside q same (let b = stays.1 in omega (arith, ints)) rest.1)

  pub fits_step : (D : ℤ) (fs : List (ℕ × ℤ)) (ls : List (Level S)) (d : S → ℤ) (ms : List (Level S)) (e : S → ℤ) → Fits Q D s fs ls d → Leads enabled name s t ls d ms e → Low Q D t fs ms e
  fits_step D [] [] d ms e fits (Falls h) = AtEnd (omega (arith, ints))
  fits_step D [] (l ∷ ls) d ms e fits leads = absurd fits
  fits_step D (f ∷ fs) [] d ms e fits leads = absurd fits
  fits_step D (f ∷ fs) (l ∷ ls) d ms e fits (Falls h) = AtLevel (let b = fits.2 in omega (arith, ints))
  fits_step D (f ∷ fs) (l ∷ ls) d (m ∷ ms) e fits (Free same' other lit b u) = absurd (off Q enabled name s t quiet l.group f.0 fits.1 fits.0 lit)
  fits_step D (f ∷ fs) (l ∷ ls) d (m ∷ ms) e fits (Under same' other b u rest) = Below fits.0 (same' ∙ fits.1) (let c = fits.2 in omega (arith, ints)) (fits_step D fs ls d ms e fits.3 rest)

  pub fits_stay : (D : ℤ) (fs : List (ℕ × ℤ)) (ls : List (Level S)) (d : S → ℤ) → Fits Q D s fs ls d → Stays name s t ls d → Fits Q D t fs ls d
  fits_stay D [] [] d fits stays = omega (arith, ints)
  fits_stay D [] (l ∷ ls) d fits stays = absurd fits
  fits_stay D (f ∷ fs) [] d fits stays = absurd fits
  fits_stay D (f ∷ fs) (l ∷ ls) d fits stays = (fits.0, fits.1, (let b = fits.2 in let c = stays.1 in omega (arith, ints)), fits_stay D fs ls d fits.3 stays.3)

  pub fits_off : (D : ℤ) (fs : List (ℕ × ℤ)) (ls : List (Level S)) (d : S → ℤ) → Fits Q D s fs ls d → SomeEnabled ls enabled → ⊥
  fits_off D fs [] d fits lit = lit
  fits_off D [] (l ∷ ls) d fits lit = fits
  fits_off D (f ∷ fs) (l ∷ ls) d fits (inl lit) = off Q enabled name s t quiet l.group f.0 fits.1 fits.0 lit
  fits_off D (f ∷ fs) (l ∷ ls) d fits (inr lit) = fits_off D fs ls d fits.3 lit
