-- What is ahead of a position, and what it says of the ends of rounds.
use Rattle.std.proofs.Common.{◌≡◌, ℕ, zero, suc, ◌≤◌, ◌<◌, ◌⊎◌, inl, inr, List, [], ◌∷◌, length, get_or, Bool, true, false, arith, refl, sym, subst, ap, ◌∙◌, replicate}
use Rattle.std.specs.Prelude.{slice_get, unwrap_or, option_map, if◌then◌else◌}
use Rattle.std.specs.declared.option.Option.{Option}
use Rattle.std.specs.declared.option.Option.TheVariants.{Some, None}
use Rattle.std.specs.declared.vec.Vec.{Vec}
use Rattle.std.specs.declared.alloc.Global.{Global}
use Rattle.std.proofs.lemmas.List.{length-replicate, get_or-replicate}
use Rattle.std.proofs.lemmas.Bool.{cases_lt}
use Rattle.std.proofs.lemmas.Bool.Decides.{nat_tests}
use Rattle.std.proofs.lemmas.Option.{slice_get_cases, slice_get_within, get_or_from_slice_get}
use Rattle.observations.specs.declared.Fairness.{Fairness}
use Rattle.observations.specs.declared.Fairness.TheVariants.{Unfair, Just, Compassionate}
use Rattle.observations.specs.Observation.{Observation, moment_at, last, IsEnabled, IsTaken, IsJust, IsCompassionate}
use Rattle.observations.specs.Rounds.{TakenBetween, DisabledWithin, NeverEnabled, Round}
use Rattle.run_judging.specs.declared.ahead.Ahead.{Ahead}
use Rattle.run_judging.specs.declared.course.Course.{Course}
use Rattle.run_judging.specs.Shown.{Shows}
use Rattle.run_judging.specs.Rows.{flags_at}
use Rattle.run_judging.specs.Paying.{is_on, is_of, earlier, nothing, LooksBack, Pays, PaysAll}

-- n is the first position from k on with the property, or beyond the last one where there is none
pub record IsFirst (P : ℕ → Type 0) (last k n : ℕ) : Type 0 where
  pub found : n ≤ last → P n × (k ≤ n)
  pub before : (m : ℕ) → k ≤ m → m ≤ last → P m → n ≤ m

pub first-here : (P : ℕ → Type 0) (last k : ℕ) → P k → IsFirst P last k k
first-here P last k p = record { found = λ _. (p, omega arith); before = λ m from _ _. from }

pub first-later : (P : ℕ → Type 0) (last k n : ℕ) → (P k → ⊥) → IsFirst P last (suc k) n → IsFirst P last k n
first-later P last k n none h = record {
  found = λ le. (let f = h.found le in (f.0, omega (arith, f.1)));
  before = λ m from le p. elim (cases_lt k m) [
    | inl less ↦ h.before m (omega arith) le p
    | inr same ↦ absurd (none (let is : m ≡ k = omega arith in subst P is p))
  ];
}

pub first-never : (P : ℕ → Type 0) (last k n : ℕ) → last < k → n ≡ suc last → IsFirst P last k n
first-never P last k n behind is = record {
  found = λ le. absurd (omega arith);
  before = λ m from le _. absurd (omega arith);
}

-- the step that leads to the position has the name
pub record Follows {S : Type 0} (o : Observation S) (x m : ℕ) : Type 0 where
  pub step : ℕ
  pub leads : m ≡ suc step
  pub taken : IsTaken o x step

-- what is ahead of the position for the name
pub record IsAhead {S : Type 0} (o : Observation S) (x k : ℕ) (a : Ahead) : Type 0 where
  pub served : IsFirst (Follows o x) (last o) (suc k) a.served
  pub off : IsFirst (λ m. ¬ (IsEnabled o x m)) (last o) k a.off
  pub on : IsFirst (IsEnabled o x) (last o) k a.on

pub record AreAhead {S : Type 0} (o : Observation S) (k : ℕ) (aheads : List Ahead) : Type 0 where
  pub each : (x : ℕ) (a : Ahead) → slice_get aheads x ≡ Some a → IsAhead o x k a

pub ahead-never : {S : Type 0} (o : Observation S) (x k : ℕ) (a : Ahead) → last o < k → a.served ≡ suc (last o) → a.off ≡ suc (last o) → a.on ≡ suc (last o) → IsAhead o x k a
ahead-never o x k a behind s f n = record {
  served = first-never (Follows o x) (last o) (suc k) a.served (omega arith) s;
  off = first-never (λ m. ¬ (IsEnabled o x m)) (last o) k a.off behind f;
  on = first-never (IsEnabled o x) (last o) k a.on behind n;
}

module _ {S : Type 0} (o : Observation S) (x k : ℕ) (a : Ahead) (h : IsAhead o x (suc k) a) where
  served-step : (t : Bool) → (t ≡ true → IsTaken o x k) → (t ≡ false → ¬ (IsTaken o x k)) → IsFirst (Follows o x) (last o) (suc k) (if t then suc k else a.served)
  served-step true is none = first-here (Follows o x) (last o) (suc k) (record { step = k; leads = refl; taken = is refl })
  served-step false is none = first-later (Follows o x) (last o) (suc k) a.served (λ f. none refl (let same : f.step ≡ k = omega (arith, f.leads) in subst (λ j. IsTaken o x j) same f.taken)) h.served

  off-step : (e : Bool) → (e ≡ true → IsEnabled o x k) → (e ≡ false → ¬ (IsEnabled o x k)) → IsFirst (λ m. ¬ (IsEnabled o x m)) (last o) k (if e then a.off else k)
  off-step true is none = first-later (λ m. ¬ (IsEnabled o x m)) (last o) k a.off (λ off. off (is refl)) h.off
  off-step false is none = first-here (λ m. ¬ (IsEnabled o x m)) (last o) k (none refl)

  on-step : (e : Bool) → (e ≡ true → IsEnabled o x k) → (e ≡ false → ¬ (IsEnabled o x k)) → IsFirst (IsEnabled o x) (last o) k (if e then k else a.on)
  on-step true is none = first-here (IsEnabled o x) (last o) k (is refl)
  on-step false is none = first-later (IsEnabled o x) (last o) k a.on (none refl) h.on

  pub ahead-step : (e t : Bool) → (e ≡ true → IsEnabled o x k) → (e ≡ false → ¬ (IsEnabled o x k)) → (t ≡ true → IsTaken o x k) → (t ≡ false → ¬ (IsTaken o x k)) → IsAhead o x k (earlier k e t a)
  ahead-step e t en dis is none = record { served = served-step t is none; off = off-step e en dis; on = on-step e en dis }

pub on-true : (v : Option Bool) → unwrap_or v false ≡ true → v ≡ Some true
on-true None e = cc
on-true (Some b) e = ap Some e

pub on-false : (v : Option Bool) → unwrap_or v false ≡ false → v ≡ Some true → ⊥
on-false None e f = cc
on-false (Some b) e f = cc

of-true : (v : Option ℕ) (x : ℕ) → is_of v x ≡ true → v ≡ Some x
of-true None x e = cc
of-true (Some y) x e = ap Some (let same : y ≡ x = grind (arith, nat_tests) in same)

of-false : (v : Option ℕ) (x : ℕ) → is_of v x ≡ false → v ≡ Some x → ⊥
of-false None x e f = cc
of-false (Some y) x e f = (let same : y ≡ x = cc in grind (arith, nat_tests))

-- one position back, for all names
pub back : {S : Type 0} (o : Observation S) (c : Course) (k : ℕ) (old new : List Ahead) → Shows c o → k ≤ last o → LooksBack old k (flags_at c.enabled.items k) (slice_get c.taken.items k) new → AreAhead o (suc k) old → AreAhead o k new
back o c k old new shows within looks h = record { each = λ x a e. here x a e (slice_get_cases old x) }
  where
    flags : (moment_at o k).enabled ≡ flags_at c.enabled.items k
    flags = shows.enabled k within

    stepped : (x : ℕ) (b : Ahead) → slice_get old x ≡ Some b → IsAhead o x k (earlier k (is_on (flags_at c.enabled.items k) x) (is_of (slice_get c.taken.items k) x) b)
    stepped x b was = ahead-step o x k b (h.each x b was) (is_on (flags_at c.enabled.items k) x) (is_of (slice_get c.taken.items k) x)
        (λ e. subst (λ r. slice_get r x ≡ Some true) (sym flags) (on-true (slice_get (flags_at c.enabled.items k) x) e))
        (λ e en. on-false (slice_get (flags_at c.enabled.items k) x) e (subst (λ r. slice_get r x ≡ Some true) flags en))
        (λ e. shows.taken k ∙ of-true (slice_get c.taken.items k) x e)
        (λ e is. of-false (slice_get c.taken.items k) x e (sym (shows.taken k) ∙ is))

    here : (x : ℕ) (a : Ahead) → slice_get new x ≡ Some a → (slice_get old x ≡ slice_get old x) × (((b : Ahead) × (x < length old) × (slice_get old x ≡ Some b) × (get_or old x b ≡ b)) ⊎ ((length old ≤ x) × (slice_get old x ≡ None))) → IsAhead o x k a
    here x a e cases = elim cases.1 [
      | inl in_list ↦ (
          let b = in_list.0 in
          let was = in_list.2 in
          let made : Some (earlier k (is_on (flags_at c.enabled.items k) x) (is_of (slice_get c.taken.items k) x) b) ≡ Some a = sym (ap (option_map (earlier k (is_on (flags_at c.enabled.items k) x) (is_of (slice_get c.taken.items k) x))) was) ∙ sym (looks x) ∙ e in
          let same : earlier k (is_on (flags_at c.enabled.items k) x) (is_of (slice_get c.taken.items k) x) b ≡ a = cc in
          subst (λ z. IsAhead o x k z) same (stepped x b was)
          )
      | inr past ↦ absurd (gone x a e past.1)
    ]
      where
        gone : (x : ℕ) (a : Ahead) → slice_get new x ≡ Some a → slice_get old x ≡ None → ⊥
        gone x a e none = (let made : Some a ≡ None = sym e ∙ looks x ∙ ap (option_map (earlier k (is_on (flags_at c.enabled.items k) x) (is_of (slice_get c.taken.items k) x))) none in cc)

-- the ends of rounds are where all names are paid
module _ {S : Type 0} (o : Observation S) (x k l : ℕ) (a : Ahead) (h : IsAhead o x k a) (within : l ≤ last o) where
  taken-sound : a.served ≤ l → TakenBetween o x k l
  taken-sound le =
      let f = h.served.found (omega arith) in
      let leads = f.0.leads in
      let from = f.1 in
      (f.0.step, omega arith, omega arith, f.0.taken)

  taken-complete : TakenBetween o x k l → a.served ≤ l
  taken-complete t =
      let from = t.1 in
      let below = t.2 in
      let le = h.served.before (suc t.0) (omega arith) (omega arith) (record { step = t.0; leads = refl; taken = t.3 }) in
      omega arith

  off-sound : a.off ≤ l → DisabledWithin o x k l
  off-sound le = let f = h.off.found (omega arith) in (a.off, f.1, le, f.0)

  off-complete : DisabledWithin o x k l → a.off ≤ l
  off-complete d =
      let up = d.2 in
      let le = h.off.before d.0 d.1 (omega arith) d.3 in
      omega arith

  never-sound : l < a.on → NeverEnabled o x k l
  never-sound less = λ m from to en. (let le = h.on.before m from (omega arith) en in absurd (omega arith))

  never-complete : NeverEnabled o x k l → a.on ≤ l → ⊥
  never-complete never le = (let f = h.on.found (omega arith) in never a.on f.1 le f.0)

  pub just-sound : Pays Just a l → TakenBetween o x k l ⊎ DisabledWithin o x k l
  just-sound (inl le) = inl (taken-sound le)
  just-sound (inr le) = inr (off-sound le)

  pub just-complete : TakenBetween o x k l ⊎ DisabledWithin o x k l → Pays Just a l
  just-complete (inl t) = inl (taken-complete t)
  just-complete (inr d) = inr (off-complete d)

  pub compassion-sound : Pays Compassionate a l → TakenBetween o x k l ⊎ NeverEnabled o x k l
  compassion-sound pays = elim (cases_lt l a.on) [ inl less ↦ inr (never-sound less) | inr le ↦ inl (taken-sound (pays le)) ]

  pub compassion-complete : TakenBetween o x k l ⊎ NeverEnabled o x k l → Pays Compassionate a l
  compassion-complete (inl t) = λ _. taken-complete t
  compassion-complete (inr never) = λ le. absurd (never-complete never le)

  pub compassion-just : k ≤ l → TakenBetween o x k l ⊎ NeverEnabled o x k l → TakenBetween o x k l ⊎ DisabledWithin o x k l
  compassion-just up (inl t) = inl t
  compassion-just up (inr never) = inr (k, omega arith, up, never k (omega arith) up)

pub pays-round : {S : Type 0} (o : Observation S) (k l : ℕ) (aheads : List Ahead) → AreAhead o k aheads → Round o k l → PaysAll o.fairness aheads l
pays-round o k l aheads h round = record { each = λ x f a is at_x. pay x f a is (h.each x a at_x) }
  where
    pay : (x : ℕ) (f : Fairness) (a : Ahead) → slice_get o.fairness x ≡ Some f → IsAhead o x k a → Pays f a l
    pay x Unfair a is ahead = tt
    pay x Just a is ahead = just-complete o x k l a ahead round.within (round.just x (inl is))
    pay x Compassionate a is ahead = compassion-complete o x k l a ahead round.within (round.compassionate x is)

pub round-pays : {S : Type 0} (o : Observation S) (k l : ℕ) (aheads : List Ahead) → AreAhead o k aheads → length o.fairness ≡ length aheads → k < l → l ≤ last o → PaysAll o.fairness aheads l → Round o k l
round-pays o k l aheads h same ahead within pays = record {
  ahead = ahead;
  within = within;
  just = λ x is. just x is;
  compassionate = λ x is. compassionate x is (known x Compassionate is (slice_get_cases aheads x));
}
  where
    known : (x : ℕ) (f : Fairness) → slice_get o.fairness x ≡ Some f → (slice_get aheads x ≡ slice_get aheads x) × (((a : Ahead) × (x < length aheads) × (slice_get aheads x ≡ Some a) × (get_or aheads x a ≡ a)) ⊎ ((length aheads ≤ x) × (slice_get aheads x ≡ None))) → (a : Ahead) × (slice_get aheads x ≡ Some a)
    known x f is cases = elim cases.1 [
      | inl in_list ↦ (in_list.0, in_list.2)
      | inr past ↦ (let less = slice_get_within o.fairness x f is in let gone = past.0 in absurd (omega arith))
    ]

    compassionate : (x : ℕ) → IsCompassionate o.fairness x → (a : Ahead) × (slice_get aheads x ≡ Some a) → TakenBetween o x k l ⊎ NeverEnabled o x k l
    compassionate x is found = compassion-sound o x k l found.0 (h.each x found.0 found.1) within (pays.each x Compassionate found.0 is found.1)

    simple : (x : ℕ) → slice_get o.fairness x ≡ Some Just → (a : Ahead) × (slice_get aheads x ≡ Some a) → TakenBetween o x k l ⊎ DisabledWithin o x k l
    simple x is found = just-sound o x k l found.0 (h.each x found.0 found.1) within (pays.each x Just found.0 is found.1)

    just : (x : ℕ) → IsJust o.fairness x → TakenBetween o x k l ⊎ DisabledWithin o x k l
    just x (inl is) = simple x is (known x Just is (slice_get_cases aheads x))
    just x (inr is) = (
        let found = known x Compassionate is (slice_get_cases aheads x) in
        compassion-just o x k l found.0 (h.each x found.0 found.1) within (omega arith) (compassionate x is found)
        )

-- behind the last position nothing is ahead
pub nothing-ahead : {S : Type 0} (o : Observation S) (names never : ℕ) (aheads : List Ahead) → aheads ≡ replicate names (nothing never) → never ≡ suc (last o) → AreAhead o never aheads
nothing-ahead o names never aheads is size = record {
  each = λ x a e.
      let within : x < length aheads = slice_get_within aheads x a e in
      let long : length aheads ≡ names = ap length is ∙ length-replicate names (nothing never) in
      let got : get_or aheads x a ≡ a = get_or_from_slice_get aheads x a a e in
      let there : get_or aheads x a ≡ nothing never = ap (λ l. get_or l x a) is ∙ get_or-replicate names x (nothing never) a (omega arith) in
      let same : nothing never ≡ a = cc in
      subst (λ z. IsAhead o x never z) same (ahead-never o x never (nothing never) (omega arith) size size size);
}

-- the same where the position counts down from the one before, and the row and the step were read
pub back-from : {S : Type 0} (o : Observation S) (c : Course) (p k : ℕ) (flags : List Bool) (taken : Option ℕ) (old new : List Ahead) → p ≡ suc k → k < length c.enabled.items → flags ≡ flags_at c.enabled.items k → taken ≡ slice_get c.taken.items k → LooksBack old k flags taken new → Shows c o → AreAhead o p old → AreAhead o k new
back-from o c p k flags taken old new is within row step looks shows h =
    back o c k old new shows (let long = shows.long in omega arith)
    (subst (λ t. LooksBack old k (flags_at c.enabled.items k) t new) step (subst (λ r. LooksBack old k r taken new) row looks))
    (subst (λ i. AreAhead o i old) is h)

-- the flags in a place, where the row was read
pub flags_at-read : (rows : List (Vec Bool Global)) (k : ℕ) (row : Vec Bool Global) → k < length rows → row ≡ get_or rows k row → flags_at rows k ≡ row.items
flags_at-read [] k row within is = absurd (omega arith)
flags_at-read (r ∷ rows) zero row within is = ap (λ v. v.items) (sym is)
flags_at-read (r ∷ rows) (suc k) row within is = flags_at-read rows k row (omega arith) is
