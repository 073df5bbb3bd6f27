-- The bound on rounds of a ranked net.
--
-- A round reaches q, or at its end base and delay together are less than at its beginning. A step of the group is a drop
-- or reaches q. Where the group isn't taken, it is never enabled in the round, by compassion; then there is no free
-- move, and the helper is enabled on its node, so it is taken or was disabled, and the delay falls. Behind a drop base
-- and delay together stay below the old base, since they fit under the top, which no further step raises.
use Rattle.std.proofs.Common.{◌≡◌, ℕ, suc, ◌≤◌, ◌<◌, ◌⊎◌, inl, inr, List, Bool, ℤ, pos, ◌+ℤ◌, ◌-ℤ◌, ◌≤ℤ◌, arith, refl, subst, ◌∙◌}
use Rattle.std.proofs.lemmas.Int.{ints}
use Rattle.std.specs.declared.option.Option.{Option}
use Rattle.std.specs.declared.option.Option.TheVariants.{Some, None}
use Rattle.observations.specs.Observation.{Observation, moment_at, state_at, last, IsTaken, IsJust, IsCompassionate}
use Rattle.observations.specs.Rounds.{Round}
use Rattle.observations.specs.Goals.{HoldsBetween, Response}
use Rattle.observations.specs.RankedNet.{Node, IsAmong, IsOn, StartsBelow, Move, IfName, NetHolds}
use Rattle.observations.specs.RankedNet.Move.{Drop, Free, Inner, Stay}
use Rattle.observations.proofs.Positions.{Reach, reach, reach_le, name_from, from_next}
use Rattle.observations.proofs.Positions.Reach.{here, further}
use Rattle.observations.proofs.RoundCount.{response_at}

-- none of the states k to l has the name enabled, where there is a name
abbrev Quiet : {S : Type 0} → Observation S → Option ℕ → ℕ → ℕ → Type 0
Quiet o g k l = (m : ℕ) → k ≤ m → m ≤ l → ¬ (IsAmong g (moment_at o m).enabled)

-- at l there is a node whose top is below the bound
abbrev Under : {S : Type 0} → List (Node S) → Observation S → ℕ → ℤ → Type 0
Under nodes o l bound = StartsBelow nodes (state_at o l) bound

-- at l there is a node of the group with base and delay within the bounds
pub record Within {S : Type 0} (nodes : List (Node S)) (o : Observation S) (l : ℕ) (g : Option ℕ) (base delay : ℤ) : Type 0 where
  pub node : Node S
  pub is_on : IsOn nodes (state_at o l) node
  pub grouped : node.group ≡ g
  pub based : node.base (state_at o l) ≤ℤ base
  pub delayed : node.delay (state_at o l) ≤ℤ delay

-- at m the node's helper is taken, on the way to l, or isn't enabled
abbrev Event : {S : Type 0} → Observation S → Node S → ℕ → ℕ → Type 0
Event o n m l = ((h : ℕ) × (n.helper ≡ Some h) × (m < l) × IsTaken o h m) ⊎ ¬ (IsAmong n.helper (moment_at o m).enabled)

-- at l there is a node whose base and delay together are below the bound
pub record Less {S : Type 0} (nodes : List (Node S)) (o : Observation S) (l : ℕ) (bound : ℤ) : Type 0 where
  pub node : Node S
  pub is_on : IsOn nodes (state_at o l) node
  pub less : (node.base (state_at o l) +ℤ node.delay (state_at o l) +ℤ pos 1) ≤ℤ bound

or_under : {A : Type 0} (B C : Type 0) → A ⊎ B → A ⊎ (B ⊎ C)
or_under B C (inl a) = inl a
or_under B C (inr b) = inr (inl b)

module _ {S : Type 0} (nodes : List (Node S)) (p q : S → Bool) (e : S → ℤ) (o : Observation S) (net : NetHolds nodes p q e o) where
  -- behind a step a node stands whose top is no higher
  top_behind : (k name : ℕ) (n : Node S) (U : ℤ) → k < last o → IsOn nodes (state_at o k) n → (n.top (state_at o k) +ℤ pos 1) ≤ℤ U → Move nodes (moment_at o k).enabled name n (state_at o k) (state_at o (suc k)) → Under nodes o (suc k) U
  top_behind k name n U h is t (Drop j at falls) =
      let ranked = net.rank k (omega arith) n is in
      record { node = j; is_on = at; below = omega (arith, ints) }
  top_behind k name n U h is t (Free j at same other en keeps) = record { node = j; is_on = at; below = omega (arith, ints) }
  top_behind k name n U h is t (Inner j at same other falls keeps) = record { node = j; is_on = at; below = omega (arith, ints) }
  top_behind k name n U h is t (Stay at other helper falls keeps) = record { node = n; is_on = at; below = omega (arith, ints) }

  keeps_under : {l k : ℕ} (U : ℤ) → Reach l k → l ≤ last o → Under nodes o k U → HoldsBetween q o k l ⊎ Under nodes o l U
  keeps_under U here h u = inr u
  keeps_under {l} {k} U (further r) h u =
      let r_le = reach_le r in
      let step = name_from o k (omega arith) in
      elim (net.move k step.0 step.1 u.node u.is_on) [
        | inl now ↦ inl (suc k, omega arith, r_le, now)
        | inr move ↦ from_next q o (keeps_under U r h (top_behind k step.0 u.node U (omega arith) u.is_on u.below move))
      ]

  -- a round's part in which the group is never enabled: the delay does not rise
  quiet_walk : {l k : ℕ} (g : Option ℕ) (B D : ℤ) → Reach l k → l ≤ last o → Quiet o g k l → Within nodes o k g B D → HoldsBetween q o k l ⊎ (Under nodes o l B ⊎ Within nodes o l g B D)
  quiet_walk g B D here h quiet w = inr (inr w)
  quiet_walk {l} {k} g B D (further r) h quiet w =
      let r_le = reach_le r in
      let step = name_from o k (omega arith) in
      let quiet' : Quiet o g (suc k) l = λ m a b. quiet m (omega arith) b in
      elim (net.move k step.0 step.1 w.node w.is_on) [
        | inl now ↦ inl (suc k, omega arith, r_le, now)
        | inr (Drop j at falls) ↦
            from_next q o (or_under _ _ (keeps_under B r h (let based = w.based in record { node = j; is_on = at; below = omega (arith, ints) })))
        | inr (Free j at same other en keeps) ↦ absurd (quiet k (omega arith) (omega arith) (subst (λ x. IsAmong x (moment_at o k).enabled) w.grouped en))
        | inr (Inner j at same other falls keeps) ↦
            from_next q o (quiet_walk g B D r h quiet' (record { node = j; is_on = at; grouped = same ∙ w.grouped; based = omega (arith, ints); delayed = omega (arith, ints) }))
        | inr (Stay at other helper falls keeps) ↦
            from_next q o (quiet_walk g B D r h quiet' (record { node = w.node; is_on = at; grouped = w.grouped; based = omega (arith, ints); delayed = omega (arith, ints) }))
      ]

  -- as `quiet_walk`, up to the position m at which the helper is taken or disabled: the delay falls
  watch : {m k : ℕ} (l : ℕ) (g : Option ℕ) (B D : ℤ) (n : Node S) → Reach m k → m ≤ l → l ≤ last o → Quiet o g k l → n.group ≡ g
      → Event o n m l
      → IsOn nodes (state_at o k) n → n.base (state_at o k) ≤ℤ B → n.delay (state_at o k) ≤ℤ (D +ℤ pos 1)
      → HoldsBetween q o k l ⊎ (Under nodes o l B ⊎ Within nodes o l g B D)
  watch {m} l g B D n here m_le h quiet grouped (inl taken) is based delayed =
      let r = reach (suc m) l taken.2 in
      let quiet' : Quiet o g (suc m) l = λ x a b. quiet x (omega arith) b in
      elim (net.move m taken.0 taken.3 n is) [
        | inl now ↦ inl (suc m, omega arith, taken.2, now)
        | inr (Drop j at falls) ↦
            from_next q o (or_under _ _ (keeps_under B r h (record { node = j; is_on = at; below = omega (arith, ints) })))
        | inr (Free j at same other en keeps) ↦ absurd (quiet m (omega arith) (omega arith) (subst (λ x. IsAmong x (moment_at o m).enabled) grouped en))
        | inr (Inner j at same other falls keeps) ↦
            from_next q o (quiet_walk g B D r h quiet' (record { node = j; is_on = at; grouped = same ∙ grouped; based = omega (arith, ints); delayed = omega (arith, ints) }))
        | inr (Stay at other helper falls keeps) ↦ absurd (helper taken.1)
      ]
  watch {m} l g B D n here m_le h quiet grouped (inr disabled) is based delayed =
      elim (net.help m (omega arith) n is) [
        | inl en ↦ absurd (disabled en)
        | inr en ↦ absurd (quiet m (omega arith) (omega arith) (subst (λ x. IsAmong x (moment_at o m).enabled) grouped en))
      ]
  watch {m} {k} l g B D n (further r) m_le h quiet grouped event is based delayed =
      let r_le = reach_le r in
      let step = name_from o k (omega arith) in
      let rest = reach (suc k) l (omega arith) in
      let quiet' : Quiet o g (suc k) l = λ x a b. quiet x (omega arith) b in
      elim (net.move k step.0 step.1 n is) [
        | inl now ↦ inl (suc k, omega arith, omega arith, now)
        | inr (Drop j at falls) ↦
            from_next q o (or_under _ _ (keeps_under B rest h (record { node = j; is_on = at; below = omega (arith, ints) })))
        | inr (Free j at same other en keeps) ↦ absurd (quiet k (omega arith) (omega arith) (subst (λ x. IsAmong x (moment_at o k).enabled) grouped en))
        | inr (Inner j at same other falls keeps) ↦
            from_next q o (quiet_walk g B D rest h quiet' (record { node = j; is_on = at; grouped = same ∙ grouped; based = omega (arith, ints); delayed = omega (arith, ints) }))
        | inr (Stay at other helper falls keeps) ↦
            from_next q o (watch l g B D n r m_le h quiet' grouped event at (omega (arith, ints)) (omega (arith, ints)))
      ]

  -- up to the position m at which the group is taken: there is a drop
  busy : {m k : ℕ} (l g : ℕ) (B : ℤ) (n : Node S) → Reach m k → m < l → l ≤ last o → IsTaken o g m → n.group ≡ Some g
      → IsOn nodes (state_at o k) n → n.base (state_at o k) ≤ℤ B
      → HoldsBetween q o k l ⊎ Under nodes o l B
  busy {m} l g B n here m_lt h taken grouped is based =
      elim (net.move m g taken n is) [
        | inl now ↦ inl (suc m, omega arith, m_lt, now)
        | inr (Drop j at falls) ↦
            from_next q o (keeps_under B (reach (suc m) l m_lt) h (record { node = j; is_on = at; below = omega (arith, ints) }))
        | inr (Free j at same other en keeps) ↦ absurd (other grouped)
        | inr (Inner j at same other falls keeps) ↦ absurd (other grouped)
        | inr (Stay at other helper falls keeps) ↦ absurd (other grouped)
      ]
  busy {m} {k} l g B n (further r) m_lt h taken grouped is based =
      let r_le = reach_le r in
      let step = name_from o k (omega arith) in
      elim (net.move k step.0 step.1 n is) [
        | inl now ↦ inl (suc k, omega arith, omega arith, now)
        | inr (Drop j at falls) ↦
            from_next q o (keeps_under B (reach (suc k) l (omega arith)) h (record { node = j; is_on = at; below = omega (arith, ints) }))
        | inr (Free j at same other en keeps) ↦ from_next q o (busy l g B j r m_lt h taken (same ∙ grouped) at (omega (arith, ints)))
        | inr (Inner j at same other falls keeps) ↦ from_next q o (busy l g B j r m_lt h taken (same ∙ grouped) at (omega (arith, ints)))
        | inr (Stay at other helper falls keeps) ↦ from_next q o (busy l g B n r m_lt h taken grouped at (omega (arith, ints)))
      ]

  -- a node under base, or in the group with base kept and delay fallen, is less; base and delay are at least 0
  less_from : (k l : ℕ) (g : Option ℕ) (B D : ℤ) → l ≤ last o → pos 0 ≤ℤ D → HoldsBetween q o k l ⊎ (Under nodes o l B ⊎ Within nodes o l g B (D -ℤ pos 1)) → HoldsBetween q o k l ⊎ Less nodes o l (B +ℤ D)
  less_from k l g B D h at_least (inl now) = inl now
  less_from k l g B D h at_least (inr (inl u)) =
      let ranked = net.rank l h u.node u.is_on in
      let below = u.below in
      inr (record { node = u.node; is_on = u.is_on; less = omega (arith, ints) })
  less_from k l g B D h at_least (inr (inr w)) =
      let based = w.based in
      let delayed = w.delayed in
      inr (record { node = w.node; is_on = w.is_on; less = omega (arith, ints) })

  -- the helper's event in a round
  event_of : (k l : ℕ) → Round o k l → (n : Node S) → (h : Option ℕ) → n.helper ≡ h → IfName (IsJust o.fairness) h
      → (m : ℕ) × (k ≤ m) × (m ≤ l) × Event o n m l
  event_of k l round n None same just =
      let ahead = round.ahead in
      (k, omega arith, omega arith, inr (λ en. subst (λ x. IsAmong x (moment_at o k).enabled) same en))
  event_of k l round n (Some h) same just =
      elim (round.just h just) [
        | inl taken ↦ (taken.0, taken.1, (let lt = taken.2 in omega arith), inl (h, same, taken.2, taken.3))
        | inr off ↦ (off.0, off.1, off.2, inr (λ en. off.3 (subst (λ x. IsAmong x (moment_at o off.0).enabled) same en)))
      ]

  -- a round in which the group is never enabled
  quiet_round : (k l : ℕ) → Round o k l → (n : Node S) → IsOn nodes (state_at o k) n → Quiet o n.group k l
      → HoldsBetween q o k l ⊎ Less nodes o l (n.base (state_at o k) +ℤ n.delay (state_at o k))
  quiet_round k l round n is quiet =
      let ahead = round.ahead in
      let ev = event_of k l round n n.helper refl (net.helpers n is.listed) in
      let ranked = net.rank k (omega (arith, round.within)) n is in
      less_from k l n.group _ _ round.within ranked.delay (watch l n.group (n.base (state_at o k)) (n.delay (state_at o k) -ℤ pos 1) n (reach k ev.0 ev.1) ev.2 round.within quiet refl ev.3 is (omega (arith, ints)) (omega (arith, ints)))

  -- a round reaches the goal, or base and delay together fall
  one_round : (k l : ℕ) → Round o k l → (n : Node S) → IsOn nodes (state_at o k) n → (g : Option ℕ) → n.group ≡ g → IfName (IsCompassionate o.fairness) g
      → HoldsBetween q o k l ⊎ Less nodes o l (n.base (state_at o k) +ℤ n.delay (state_at o k))
  one_round k l round n is None same fair = quiet_round k l round n is (λ m a b en. subst (λ x. IsAmong x (moment_at o m).enabled) same en)
  one_round k l round n is (Some g) same fair =
      let ahead = round.ahead in
      let within = round.within in
      let ranked = net.rank k (omega arith) n is in
      elim (round.compassionate g fair) [
        | inl taken ↦ less_from k l None _ _ within ranked.delay (or_under _ _ (busy l g (n.base (state_at o k)) n (reach k taken.0 taken.1) taken.2 within taken.3 same is (omega (arith, ints))))
        | inr never ↦ quiet_round k l round n is (λ m a b en. never m a b (subst (λ x. IsAmong x (moment_at o m).enabled) same en))
      ]

  less_same : (k : ℕ) (b c : ℤ) → b ≤ℤ c → Less nodes o k b → Less nodes o k c
  less_same k b c h w = let less = w.less in record { node = w.node; is_on = w.is_on; less = omega (arith, ints) }

  less_none : (l : ℕ) → l ≤ last o → Less nodes o l (pos 0) → ⊥
  less_none l h w =
      let ranked = net.rank l h w.node w.is_on in
      let less = w.less in
      omega (arith, ints)

  less_one : (k l : ℕ) (bound : ℤ) → Round o k l → Less nodes o k (bound +ℤ pos 1) → HoldsBetween q o k l ⊎ Less nodes o l bound
  less_one k l bound round w =
      let less = w.less in
      elim (one_round k l round w.node w.is_on w.node.group refl (net.groups w.node w.is_on.listed)) [
        | inl now ↦ inl now
        | inr low ↦ (let lower = low.less in inr (record { node = low.node; is_on = low.is_on; less = omega (arith, ints) }))
      ]

  -- before the first round the top stays below e, and base and delay fit under it
  pub response_by_net : Response p q e o
  response_by_net i within_i holds k l from within rounds =
      response_at q o (Less nodes o) less_one less_same less_none (e (state_at o i)) i k l from within rounds (elim (net.cover i within_i holds) [
        | inl now ↦ inl (i, omega arith, from, now)
        | inr start ↦ elim (keeps_under (e (state_at o i)) (reach i k from) within start) [
          | inl now ↦ inl now
          | inr u ↦
              let below = u.below in
              let ranked = net.rank k within u.node u.is_on in
              inr (record { node = u.node; is_on = u.is_on; less = omega (arith, ints) })
        ]
      ])
