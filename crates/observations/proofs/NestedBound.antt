-- The bound on rounds of a net with groups in groups.
--
-- In a round, let g be the first of the node's groups, from the outermost on, that is taken. The groups around it aren't
-- taken, so they are never enabled, by compassion; then a step that isn't one of g keeps them, and the step of g falls
-- at their depth or further out. Where no group is taken none is enabled, so the helper is, and the step that takes or
-- disables it falls. In each case the bases and the delay together are less at the round's end.
use Rattle.std.proofs.Common.{◌≡◌, ℕ, suc, ◌≤◌, ◌<◌, ◌⊎◌, inl, inr, List, [], ◌∷◌, Bool, true, ℤ, pos, ◌+ℤ◌, ◌≤ℤ◌, arith, refl, subst, ap}
use Rattle.std.specs.Prelude.{slice_get}
use Rattle.std.proofs.lemmas.Int.{ints}
use Rattle.std.specs.declared.option.Option.{Option}
use Rattle.std.specs.declared.option.Option.TheVariants.{Some, None}
use Rattle.observations.specs.Observation.{Observation, moment_at, state_at, last, IsTaken, IsJust, IsCompassionate}
use Rattle.observations.specs.Rounds.{TakenBetween, NeverEnabled, Round}
use Rattle.observations.specs.Goals.{HoldsBetween, Response}
use Rattle.observations.specs.RankedNet.{IsAmong, IfName}
use Rattle.observations.specs.NestedNet.{Level, NestedNode, AreRanked, IsOnNested, StartsBelowNested, NestedMove, AllGroups, NestedHolds}
use Rattle.observations.specs.NestedNet.NestedMove.{To, Stay}
use Rattle.observations.proofs.Positions.{Reach, reach, reach_le, name_from, from_next}
use Rattle.observations.proofs.Positions.Reach.{here, further}
use Rattle.observations.proofs.RoundCount.{response_at}
use Rattle.observations.proofs.NestedLevels.{whole, whole_below, Low, frames, total, NotNegative, low_less, leads_upper, stays_upper, low_step, low_stay, Kept, Fits, kept_step, kept_stay, fits_step, fits_stay, fits_off}
use Rattle.observations.proofs.NestedLevels.Kept.{Last, Inside}

abbrev Event : {S : Type 0} → Observation S → NestedNode S → ℕ → ℕ → Type 0
Event o n m l = ((h : ℕ) × (n.helper ≡ Some h) × (m < l) × IsTaken o h m) ⊎ ¬ (IsAmong n.helper (moment_at o m).enabled)

-- at l there is a node whose upper number is below the bound
abbrev Below : {S : Type 0} → List (NestedNode S) → Observation S → ℕ → ℤ → Type 0
Below nodes o l bound = StartsBelowNested nodes (state_at o l) bound

-- at l there is a node whose numbers together are below the bound
pub record Less {S : Type 0} (nodes : List (NestedNode S)) (o : Observation S) (l : ℕ) (bound : ℤ) : Type 0 where
  pub node : NestedNode S
  pub is_on : IsOnNested nodes (state_at o l) node
  pub less : (whole node.levels node.delay (state_at o l) +ℤ pos 1) ≤ℤ bound

-- at l there is a node that is low against the frames
pub record LowAt {S : Type 0} (nodes : List (NestedNode S)) (o : Observation S) (Q : ℕ → Type 0) (D : ℤ) (fs : List (ℕ × ℤ)) (l : ℕ) : Type 0 where
  pub node : NestedNode S
  pub is_on : IsOnNested nodes (state_at o l) node
  pub low : Low Q D (state_at o l) fs node.levels node.delay

module _ {S : Type 0} (nodes : List (NestedNode S)) (p q : S → Bool) (e : S → ℤ) (o : Observation S) (net : NestedHolds nodes p q e o) where
  behind : (k name : ℕ) (U : ℤ) → k < last o → (u : Below nodes o k U) → NestedMove nodes (moment_at o k).enabled name u.node (state_at o k) (state_at o (suc k)) → Below nodes o (suc k) U
  behind k name U h u (To j at leads) =
      let top = leads_upper (moment_at o k).enabled name (state_at o k) (state_at o (suc k)) u.node.levels u.node.delay j.levels j.delay (net.rank k (omega arith) u.node u.is_on) leads in
      let below = u.below in
      record { node = j; is_on = at; below = omega (arith, ints) }
  behind k name U h u (Stay at helper stays) =
      let top = stays_upper name (state_at o k) (state_at o (suc k)) u.node.levels u.node.delay stays in
      let below = u.below in
      record { node = u.node; is_on = at; below = omega (arith, ints) }

  lead_in : {l k : ℕ} (U : ℤ) → Reach l k → l ≤ last o → Below nodes o k U → HoldsBetween q o k l ⊎ Below nodes o l U
  lead_in U here h u = inr u
  lead_in {l} {k} U (further r) h u =
      let r_le = reach_le r in
      let step = name_from o k (omega arith) in
      elim (net.move k step.0 step.1 u.node u.is_on) [
        | inl now ↦ inl (suc k, omega arith, r_le, now)
        | inr move ↦ from_next q o (lead_in U r h (behind k step.0 U (omega arith) u move))
      ]

  -- inside a round, where the names of Q are never enabled
  module _ (l : ℕ) (end : l ≤ last o) (begin : ℕ) (Q : ℕ → Type 0) (never : (g : ℕ) → Q g → NeverEnabled o g begin l) (D : ℤ) where
    quiet_at : (k : ℕ) → begin ≤ k → k ≤ l → (g : ℕ) → Q g → ¬ (slice_get (moment_at o k).enabled g ≡ Some true)
    quiet_at k a b g in_q = never g in_q k a b

    low_walk : {k : ℕ} (fs : List (ℕ × ℤ)) → Reach l k → begin ≤ k → LowAt nodes o Q D fs k → HoldsBetween q o k l ⊎ LowAt nodes o Q D fs l
    low_walk fs here from w = inr w
    low_walk {k} fs (further r) from w =
        let r_le = reach_le r in
        let s = state_at o k in
        let step = name_from o k (omega arith) in
        let quiet = quiet_at k from (omega arith) in
        elim (net.move k step.0 step.1 w.node w.is_on) [
          | inl now ↦ inl (suc k, omega arith, r_le, now)
          | inr (To j at leads) ↦ from_next q o (low_walk fs r (omega arith) (record {
            node = j;
            is_on = at;
            low = low_step Q (moment_at o k).enabled step.0 s (state_at o (suc k)) quiet D fs w.node.levels w.node.delay j.levels j.delay (net.rank k (omega arith) w.node w.is_on) w.low leads;
          }))
          | inr (Stay at helper stays) ↦ from_next q o (low_walk fs r (omega arith) (record {
            node = w.node;
            is_on = at;
            low = low_stay Q (moment_at o k).enabled step.0 s (state_at o (suc k)) quiet D fs w.node.levels w.node.delay w.low stays;
          }))
        ]

    -- up to the position m at which g is taken, the first of the node's groups that is enabled in the round
    taken_walk : {m k : ℕ} (g : ℕ) (fs : List (ℕ × ℤ)) → Reach m k → m < l → IsTaken o g m → begin ≤ k → (n : NestedNode S) → IsOnNested nodes (state_at o k) n → Kept Q g (state_at o k) fs n.levels
        → HoldsBetween q o k l ⊎ LowAt nodes o Q D fs l
    taken_walk {m} g fs here before taken from n is kept =
        let s = state_at o m in
        let quiet = quiet_at m from (omega arith) in
        elim (net.move m g taken n is) [
          | inl now ↦ inl (suc m, omega arith, before, now)
          | inr (To j at leads) ↦ elim (kept_step Q (moment_at o m).enabled g s (state_at o (suc m)) quiet g D fs n.levels n.delay j.levels j.delay kept leads) [
            | inl low ↦ from_next q o (low_walk fs (reach (suc m) l before) (omega arith) (record { node = j; is_on = at; low = low }))
            | inr other ↦ absurd (other.0 refl)
          ]
          | inr (Stay at helper stays) ↦ absurd ((kept_stay Q (moment_at o m).enabled g s (state_at o (suc m)) quiet g fs n.levels n.delay kept stays).0 refl)
        ]
    taken_walk {m} {k} g fs (further r) before taken from n is kept =
        let r_le = reach_le r in
        let s = state_at o k in
        let step = name_from o k (omega arith) in
        let quiet = quiet_at k from (omega arith) in
        elim (net.move k step.0 step.1 n is) [
          | inl now ↦ inl (suc k, omega arith, omega arith, now)
          | inr (To j at leads) ↦ elim (kept_step Q (moment_at o k).enabled step.0 s (state_at o (suc k)) quiet g D fs n.levels n.delay j.levels j.delay kept leads) [
            | inl low ↦ from_next q o (low_walk fs (reach (suc k) l (omega arith)) (omega arith) (record { node = j; is_on = at; low = low }))
            | inr go ↦ from_next q o (taken_walk g fs r before taken (omega arith) j at go.1)
          ]
          | inr (Stay at helper stays) ↦
              from_next q o (taken_walk g fs r before taken (omega arith) n at (kept_stay Q (moment_at o k).enabled step.0 s (state_at o (suc k)) quiet g fs n.levels n.delay kept stays).1)
        ]

    -- up to the position m at which the helper is taken or isn't enabled, where none of the node's groups is ever enabled
    helped_walk : {m k : ℕ} (fs : List (ℕ × ℤ)) (n : NestedNode S) → Reach m k → m ≤ l → Event o n m l → begin ≤ k → IsOnNested nodes (state_at o k) n → Fits Q D (state_at o k) fs n.levels n.delay
        → HoldsBetween q o k l ⊎ LowAt nodes o Q D fs l
    helped_walk {m} fs n here m_le (inl taken) from is fits =
        let s = state_at o m in
        let quiet = quiet_at m from m_le in
        elim (net.move m taken.0 taken.3 n is) [
          | inl now ↦ inl (suc m, omega arith, taken.2, now)
          | inr (To j at leads) ↦ from_next q o (low_walk fs (reach (suc m) l taken.2) (omega arith) (record {
            node = j;
            is_on = at;
            low = fits_step Q (moment_at o m).enabled taken.0 s (state_at o (suc m)) quiet D fs n.levels n.delay j.levels j.delay fits leads;
          }))
          | inr (Stay at helper stays) ↦ absurd (helper taken.1)
        ]
    helped_walk {m} fs n here m_le (inr disabled) from is fits =
        elim (net.help m (omega arith) n is) [
          | inl lit ↦ absurd (disabled lit)
          | inr lit ↦ absurd (fits_off Q (moment_at o m).enabled 0 (state_at o m) (state_at o m) (quiet_at m from m_le) D fs n.levels n.delay fits lit)
        ]
    helped_walk {m} {k} fs n (further r) m_le event from is fits =
        let r_le = reach_le r in
        let s = state_at o k in
        let step = name_from o k (omega arith) in
        let quiet = quiet_at k from (omega arith) in
        elim (net.move k step.0 step.1 n is) [
          | inl now ↦ inl (suc k, omega arith, omega arith, now)
          | inr (To j at leads) ↦ from_next q o (low_walk fs (reach (suc k) l (omega arith)) (omega arith) (record {
            node = j;
            is_on = at;
            low = fits_step Q (moment_at o k).enabled step.0 s (state_at o (suc k)) quiet D fs n.levels n.delay j.levels j.delay fits leads;
          }))
          | inr (Stay at helper stays) ↦
              from_next q o (helped_walk fs n r m_le event (omega arith) at (fits_stay Q (moment_at o k).enabled step.0 s (state_at o (suc k)) quiet D fs n.levels n.delay fits stays))
        ]

  event_of : (k l : ℕ) → Round o k l → (n : NestedNode S) → (h : Option ℕ) → n.helper ≡ h → IfName (IsJust o.fairness) h → (m : ℕ) × (k ≤ m) × (m ≤ l) × Event o n m l
  event_of k l round n None same just =
      let ahead = round.ahead in
      (k, omega arith, omega arith, inr (λ lit. subst (λ x. IsAmong x (moment_at o k).enabled) same lit))
  event_of k l round n (Some h) same just =
      elim (round.just h just) [
        | inl taken ↦ (taken.0, taken.1, (let lt = taken.2 in omega arith), inl (h, same, taken.2, taken.3))
        | inr off_there ↦ (off_there.0, off_there.1, off_there.2, inr (λ lit. off_there.3 (subst (λ x. IsAmong x (moment_at o off_there.0).enabled) same lit)))
      ]

  -- the first of the groups that is taken in the round, with those around it never enabled, or none
  classify : (k l : ℕ) → Round o k l → (s : S) (ls : List (Level S)) (d : S → ℤ) → AllGroups (IsCompassionate o.fairness) ls
      → Fits (λ g. NeverEnabled o g k l) (d s) s (frames ls s) ls d ⊎ ((g : ℕ) × TakenBetween o g k l × Kept (λ g. NeverEnabled o g k l) g s (frames ls s) ls)
  classify k l round s [] d fair = inl (omega (arith, ints))
  classify k l round s (v ∷ ls) d fair =
      let same_base : v.base s ≤ℤ v.base s = omega (arith, ints) in
      elim (round.compassionate v.group fair.0) [
        | inl taken ↦ inr (v.group, taken, Last refl same_base)
        | inr never ↦ elim (classify k l round s ls d fair.1) [
          | inl fits ↦ inl (never, refl, same_base, fits)
          | inr found ↦ inr (found.0, found.1, Inside never refl same_base found.2)
        ]
      ]

  total_frames : (ls : List (Level S)) (d : S → ℤ) (s : S) → total (frames ls s) (d s) ≡ whole ls d s
  total_frames [] d s = refl
  total_frames (v ∷ ls) d s = ap (λ z. v.base s +ℤ z) (total_frames ls d s)

  frames_at_least : (ls : List (Level S)) (d : S → ℤ) (s : S) → AreRanked ls d s → NotNegative (frames ls s) (d s)
  frames_at_least [] d s h = h
  frames_at_least (v ∷ ls) d s h = (h.0, frames_at_least ls d s h.2)

  one_round : (k l : ℕ) → Round o k l → (n : NestedNode S) → IsOnNested nodes (state_at o k) n → HoldsBetween q o k l ⊎ Less nodes o l (whole n.levels n.delay (state_at o k))
  one_round k l round n is =
      let s = state_at o k in
      let ahead = round.ahead in
      let within = round.within in
      elim (classify k l round s n.levels n.delay (net.groups is.place n is.listed)) [
        | inl fits ↦
            let ev = event_of k l round n n.helper refl (net.helpers is.place n is.listed) in
            finish (helped_walk l within k (λ g. NeverEnabled o g k l) (λ g h. h) (n.delay s) (frames n.levels s) n (reach k ev.0 ev.1) ev.2 ev.3 (omega arith) is fits)
        | inr found ↦ finish (taken_walk l within k (λ g. NeverEnabled o g k l) (λ g h. h) (n.delay s) found.0 (frames n.levels s) (reach k found.1.0 found.1.1) found.1.2 found.1.3 (omega arith) n is found.2)
      ]
    where
      finish : HoldsBetween q o k l ⊎ LowAt nodes o (λ g. NeverEnabled o g k l) (n.delay (state_at o k)) (frames n.levels (state_at o k)) l → HoldsBetween q o k l ⊎ Less nodes o l (whole n.levels n.delay (state_at o k))
      finish (inl now) = inl now
      finish (inr w) = inr (record {
        node = w.node;
        is_on = w.is_on;
        less = subst (λ z. (whole w.node.levels w.node.delay (state_at o l) +ℤ pos 1) ≤ℤ z) (total_frames n.levels n.delay (state_at o k))
            (low_less (λ g. NeverEnabled o g k l) (n.delay (state_at o k)) (state_at o l) (frames n.levels (state_at o k)) w.node.levels w.node.delay
            (net.rank l round.within w.node w.is_on)
            (frames_at_least n.levels n.delay (state_at o k) (net.rank k (let ahead = round.ahead in let within = round.within in omega arith) n is)) w.low);
      })

module _ {S : Type 0} (nodes : List (NestedNode S)) (p q : S → Bool) (e : S → ℤ) (o : Observation S) (net : NestedHolds nodes p q e o) where
  less_same : (k : ℕ) (b c : ℤ) → b ≤ℤ c → Less nodes o k b → Less nodes o k c
  less_same k b c h w = let less = w.less in record { node = w.node; is_on = w.is_on; less = omega (arith, ints) }

  less_none : (l : ℕ) → l ≤ last o → Less nodes o l (pos 0) → ⊥
  less_none l h w =
      let less = w.less in
      let at_least = whole_below w.node.levels w.node.delay (state_at o l) (net.rank l h w.node w.is_on) in
      omega (arith, ints)

  less_one : (k l : ℕ) (bound : ℤ) → Round o k l → Less nodes o k (bound +ℤ pos 1) → HoldsBetween q o k l ⊎ Less nodes o l bound
  less_one k l bound round w =
      let less = w.less in
      elim (one_round nodes p q e o net k l round w.node w.is_on) [
        | inl now ↦ inl now
        | inr low ↦ (let lower = low.less in inr (record { node = low.node; is_on = low.is_on; less = omega (arith, ints) }))
      ]

  pub response_by_nested : Response p q e o
  response_by_nested i within_i holds k l from within rounds =
      response_at q o (Less nodes o) less_one less_same less_none (e (state_at o i)) i k l from within rounds (elim (net.cover i within_i holds) [
        | inl now ↦ inl (i, omega arith, from, now)
        | inr start ↦ elim (lead_in nodes p q e o net (e (state_at o i)) (reach i k from) within start) [
          | inl now ↦ inl now
          | inr u ↦
              let below = u.below in
              let w = whole_below u.node.levels u.node.delay (state_at o k) (net.rank k within u.node u.is_on) in
              inr (record { node = u.node; is_on = u.is_on; less = omega (arith, ints) })
        ]
      ])
