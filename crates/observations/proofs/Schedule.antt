-- A schedule that takes the enabled just name which was taken least recently.
--
-- With M names in the queue a name that is enabled before M steps of a stretch is taken in it. So a stretch of at least
-- M steps is a round where each compassionate name is enabled in none of its states or before at least M of its steps.
-- A long enough schedule has n such stretches one behind the other, by induction on the number of compassionate names
-- that are ever enabled: either some name is enabled nowhere in a long part, or every name again and again.
use Rattle.std.proofs.Common.{◌≡◌, ℕ, zero, suc, ◌+◌, ◌*◌, ◌≤◌, ◌<◌, ◌⊎◌, inl, inr, List, [], ◌∷◌, length, Bool, true, false, IsTrue, arith, refl, subst, ap, ◌∙◌}
use Rattle.std.specs.Prelude.{◌==◌}
use Rattle.std.proofs.lemmas.Bool.Decides.{nat_tests}
use native.Mathlib.Decide.{dec_le}
use Rattle.std.specs.declared.option.Option.{Option}
use Rattle.std.specs.declared.option.Option.TheVariants.{Some, None}
use Rattle.observations.proofs.Queue.{pick, without, place, elem, one_if, rotated, true_or_false, picked_none, picked_elem, served_step, place_below, elem-rotated, elem-without, length-without, length-rotated}

pub record Turn (S : Type 0) : Type 0 where
  pub state : S
  pub queue : List ℕ

module _ {S : Type 0} (en : S → ℕ → Bool) (next : S → ℕ → S) where
  abbrev pub chosen : Turn S → Option ℕ
  chosen t = pick (en t.state) t.queue

  abbrev pub turned : Option ℕ → Turn S → Turn S
  turned None t = t
  turned (Some y) t = record { state = next t.state y; queue = rotated y t.queue }

  abbrev pub turn : Turn S → Turn S
  turn t = turned (chosen t) t

  abbrev pub turn_at : Turn S → ℕ → Turn S
  turn_at t zero = t
  turn_at t (suc k) = turn_at (turn t) k

  -- how often x is enabled before one of the next n steps
  abbrev pub count : ℕ → Turn S → ℕ → ℕ
  count x t zero = 0
  count x t (suc n) = one_if (en t.state x) + count x (turn t) n

  abbrev pub Taken : ℕ → Turn S → ℕ → Type 0
  Taken x t n = (m : ℕ) × (m < n) × (chosen (turn_at t m) ≡ Some x)

  abbrev pub Never : ℕ → Turn S → ℕ → Type 0
  Never x t n = (m : ℕ) → m ≤ n → en (turn_at t m).state x ≡ false

  Taken-later : (x : ℕ) (t : Turn S) (n : ℕ) → Taken x (turn t) n → Taken x t (suc n)
  Taken-later x t n h = (suc h.0, (let lt = h.1 in omega arith), h.2)

  pub elem_turn : (x : ℕ) (t : Turn S) → IsTrue (elem x t.queue) → IsTrue (elem x (turn t).queue)
  elem_turn x t h = go (chosen t)
    where
      go : (c : Option ℕ) → IsTrue (elem x (turned c t).queue)
      go None = h
      go (Some y) = elem-rotated x y t.queue h

  pub length_turn : (t : Turn S) → length (turn t).queue ≡ length t.queue
  length_turn t = go (chosen t) refl
    where
      go : (c : Option ℕ) → chosen t ≡ c → length (turned c t).queue ≡ length t.queue
      go None e = refl
      go (Some y) e = length-rotated y t.queue (picked_elem (en t.state) t.queue y e)

  one_turn : (x : ℕ) (t : Turn S) → IsTrue (elem x t.queue) → (chosen t ≡ Some x) ⊎ (place x (turn t).queue + one_if (en t.state x) ≤ place x t.queue)
  one_turn x t h = go (chosen t) refl
    where
      go : (c : Option ℕ) → chosen t ≡ c → (chosen t ≡ Some x) ⊎ (place x (turned c t).queue + one_if (en t.state x) ≤ place x t.queue)
      go None e = inr (rw (picked_none (en t.state) t.queue x e h) (omega arith))
      go (Some y) e = elim (true_or_false (y == x)) [
        | inl same ↦ (let e2 : y ≡ x = grind (arith, nat_tests) in inl (cc))
        | inr apart ↦ inr (served_step (en t.state) t.queue x y h e (λ e2. let t : (y == x) ≡ true = grind (arith, nat_tests) in cc))
      ]

  served : (x n : ℕ) (t : Turn S) → IsTrue (elem x t.queue) → Taken x t n ⊎ (place x (turn_at t n).queue + count x t n ≤ place x t.queue)
  served x zero t h = inr (omega arith)
  served x (suc n) t h = elim (one_turn x t h) [
    | inl now ↦ inl (0, omega arith, now)
    | inr falls ↦ elim (served x n (turn t) (elem_turn x t h)) [
      | inl later ↦ inl (Taken-later x t n later)
      | inr rest ↦ inr (omega arith)
    ]
  ]

  -- a name that is enabled before as many steps as there are names is taken
  pub served_often : (x n M : ℕ) (t : Turn S) → IsTrue (elem x t.queue) → length t.queue ≤ M → M ≤ count x t n → Taken x t n
  served_often x n M t h fits often = elim (served x n t h) [
    | inl taken ↦ taken
    | inr rest ↦ (let below = place_below x t.queue h in absurd (omega arith))
  ]

  pub turn_more : (a b : ℕ) (t : Turn S) → turn_at (turn_at t a) b ≡ turn_at t (a + b)
  turn_more zero b t = ap (turn_at t) (let e : b ≡ 0 + b = omega arith in e)
  turn_more (suc a) b t = turn_more a b (turn t) ∙ ap (turn_at t) (let e : suc (a + b) ≡ suc a + b = omega arith in e)

  pub count_more : (x a b : ℕ) (t : Turn S) → count x t (a + b) ≡ count x t a + count x (turn_at t a) b
  count_more x zero b t = (let e : 0 + b ≡ b = omega arith in rw e (let z : count x t b ≡ 0 + count x t b = omega arith in z))
  count_more x (suc a) b t =
      let e : suc a + b ≡ suc (a + b) = omega arith in
      let rest = count_more x a b (turn t) in
      rw e (omega arith)

  pub disabled_before : (x n : ℕ) (t : Turn S) → count x t n < n → (m : ℕ) × (m < n) × (en (turn_at t m).state x ≡ false)
  disabled_before x zero t h = absurd (omega arith)
  disabled_before x (suc n) t h = elim (true_or_false (en t.state x)) [
    | inl on ↦ (let one : one_if (en t.state x) ≡ 1 = rw on refl in
        let rest = disabled_before x n (turn t) (omega arith) in
        (suc rest.0, (let lt = rest.1 in omega arith), rest.2))
    | inr off ↦ (0, omega arith, off)
  ]

  pub enabled_counts : (x m n : ℕ) (t : Turn S) → m < n → en (turn_at t m).state x ≡ true → 1 ≤ count x t n
  enabled_counts x m zero t h on = absurd (omega arith)
  enabled_counts x zero (suc n) t h on = (let one : one_if (en t.state x) ≡ 1 = rw on refl in omega arith)
  enabled_counts x (suc m) (suc n) t h on = (let rest = enabled_counts x m n (turn t) (omega arith) on in omega arith)

  Never-first : (x n : ℕ) (t : Turn S) → en t.state x ≡ false → Never x (turn t) n → Never x t (suc n)
  Never-first x n t off later zero h = off
  Never-first x n t off later (suc m) h = later m (omega arith)

  Never-zero : (x : ℕ) (t : Turn S) → en t.state x ≡ false → Never x t 0
  Never-zero x t off zero h = off
  Never-zero x t off (suc m) h = absurd (omega arith)

  Never-part : (x a n N : ℕ) (t : Turn S) → a + n ≤ N → Never x t N → Never x (turn_at t a) n
  Never-part x a n N t h never m le = rw turn_more (never (a + m) (omega arith))

  never_or : (x n : ℕ) (t : Turn S) → Never x t n ⊎ ((m : ℕ) × (m ≤ n) × (en (turn_at t m).state x ≡ true))
  never_or x zero t = elim (true_or_false (en t.state x)) [ inl on ↦ inr (0, omega arith, on) | inr off ↦ inl (Never-zero x t off) ]
  never_or x (suc n) t = elim (true_or_false (en t.state x)) [
    | inl on ↦ inr (0, omega arith, on)
    | inr off ↦ elim (never_or x n (turn t)) [
      | inl never ↦ inl (Never-first x n t off never)
      | inr some ↦ inr (suc some.0, (let le = some.1 in omega arith), some.2)
    ]
  ]

  -- of the names one is never enabled in the window, or each is enabled in it
  one_never : (D : List ℕ) (n : ℕ) (t : Turn S) → ((x : ℕ) × IsTrue (elem x D) × Never x t n) ⊎ ((x : ℕ) → IsTrue (elem x D) → 1 ≤ count x t (suc n))
  one_never [] n t = inr (λ x h. cc)
  one_never (d ∷ D) n t = elim (never_or d n t) [
    | inl never ↦ inl (d, here d D, never)
    | inr some ↦ elim (one_never D n t) [
      | inl found ↦ inl (found.0, there found.0 d D found.1, found.2)
      | inr each ↦ inr (λ x h. elim (true_or_false (d == x)) [
        | inl same ↦ (let e : d ≡ x = grind (arith, nat_tests) in subst (λ z. 1 ≤ count z t (suc n)) e (enabled_counts d some.0 (suc n) t (let le = some.1 in omega arith) some.2))
        | inr apart ↦ each x (rw apart at h)
      ])
    ]
  ]
    where
      here : (d : ℕ) (D : List ℕ) → IsTrue (elem d (d ∷ D))
      here d D = (let e : (d == d) ≡ true = grind (arith, nat_tests) in rw e refl)

      there : (x d : ℕ) (D : List ℕ) → IsTrue (elem x D) → IsTrue (elem x (d ∷ D))
      there x d D h = elim (true_or_false (d == x)) [ inl e ↦ rw e refl | inr e ↦ rw e h ]

  -- in the next N steps there is a window of n steps in which one of the names is never enabled
  abbrev pub Found : List ℕ → Turn S → ℕ → ℕ → Type 0
  Found D t n N = (a : ℕ) × (x : ℕ) × IsTrue (elem x D) × (a + n ≤ N) × Never x (turn_at t a) n

  Found-later : (D : List ℕ) (t : Turn S) (n b N L : ℕ) → b + N ≤ L → Found D (turn_at t b) n N → Found D t n L
  Found-later D t n b N L h found = (b + found.0, found.1, found.2, (let le = found.3 in omega arith), rw turn_more at found.4)

  windows : (D : List ℕ) (n j : ℕ) (t : Turn S) → Found D t n (j * suc n) ⊎ ((x : ℕ) → IsTrue (elem x D) → j ≤ count x t (j * suc n))
  windows D n zero t = inr (λ x h. omega arith)
  windows D n (suc j) t = elim (one_never D n t) [
    | inl found ↦ inl (0, found.0, found.1, omega arith, found.2)
    | inr each ↦ elim (windows D n j (turn_at t (suc n))) [
      | inl found ↦ inl (Found-later D t n (suc n) (j * suc n) (suc j * suc n) (omega arith) found)
      | inr rest ↦ inr (λ x h.
          let one = each x h in
          let more = rest x h in
          let sum = count_more x (suc n) (j * suc n) t in
          let e : suc j * suc n ≡ suc n + j * suc n = omega arith in
          rw e (omega arith))
    ]
  ]

  -- the next n steps are a round
  abbrev pub IsRoundFrom : (ℕ → Type 0) → (ℕ → Type 0) → Turn S → ℕ → Type 0
  IsRoundFrom just fair t n =
      (1 ≤ n)
      × ((x : ℕ) → just x → Taken x t n ⊎ ((m : ℕ) × (m ≤ n) × (en (turn_at t m).state x ≡ false)))
      × ((x : ℕ) → fair x → Taken x t n ⊎ Never x t n)

  -- the next n steps are r rounds
  abbrev pub RoundsFrom : (ℕ → Type 0) → (ℕ → Type 0) → ℕ → Turn S → ℕ → Type 0
  RoundsFrom just fair zero t n = n ≡ 0
  RoundsFrom just fair (suc r) t n = (a : ℕ) × (b : ℕ) × (n ≡ a + b) × IsRoundFrom just fair t a × RoundsFrom just fair r (turn_at t a) b

  -- the queue has each just name, and no more than M names
  abbrev pub Ready : (ℕ → Type 0) → ℕ → Turn S → Type 0
  Ready just M t = ((x : ℕ) → just x → IsTrue (elem x t.queue)) × (length t.queue ≤ M)

  ready_at : (just : ℕ → Type 0) (M n : ℕ) (t : Turn S) → Ready just M t → Ready just M (turn_at t n)
  ready_at just M zero t h = h
  ready_at just M (suc n) t h = ready_at just M n (turn t) (λ x j. elem_turn x t (h.0 x j), (let e = length_turn t in let le = h.1 in omega arith))

  module _ (just fair : ℕ → Type 0) (fair_just : (x : ℕ) → fair x → just x) (M : ℕ) (some : 1 ≤ M) where
    -- the next n steps are a round where they are many enough and each compassionate name is enabled never or often
    stretch : (n : ℕ) (t : Turn S) → Ready just M t → M ≤ n → ((x : ℕ) → fair x → (M ≤ count x t n) ⊎ Never x t n) → IsRoundFrom just fair t n
    stretch n t ready long each = (
      omega arith,
      λ x j. elim (dec_le M (count x t n)) [
        | yes often ↦ inl (served_often x n M t (ready.0 x j) ready.1 often)
        | no few ↦ inr (let off = disabled_before x n t (omega arith) in (off.0, (let lt = off.1 in omega arith), off.2))
      ],
      λ x f. elim (each x f) [
        | inl often ↦ inl (served_often x n M t (ready.0 x (fair_just x f)) ready.1 often)
        | inr never ↦ inr never
      ],
    )

    -- r stretches one behind the other, or a window in which one of the names is never enabled
    rounds_or : (D : List ℕ) (n r : ℕ) (t : Turn S) → Ready just M t → ((x : ℕ) → fair x → elem x D ≡ false → Never x t (r * (M * suc n)))
        → Found D t n (r * (M * suc n)) ⊎ RoundsFrom just fair r t (r * (M * suc n))
    rounds_or D n zero t ready others = inr (omega arith)
    rounds_or D n (suc r) t ready others =
        let len : ℕ = M * suc n in
        let total : suc r * (M * suc n) ≡ M * suc n + r * (M * suc n) = omega arith in
        elim (windows D n M t) [
          | inl found ↦ inl (Found-later D t n 0 len (suc r * (M * suc n)) (omega arith) found)
          | inr often ↦ elim (rounds_or D n r (turn_at t len) (ready_at just M len t ready) (λ x f out. Never-part x len (r * (M * suc n)) (suc r * (M * suc n)) t (omega arith) (others x f out))) [
            | inl found ↦ inl (Found-later D t n len (r * (M * suc n)) (suc r * (M * suc n)) (omega arith) found)
            | inr rest ↦ inr (
              len,
              r * (M * suc n),
              total,
              stretch len t ready (omega arith) (λ x f. elim (true_or_false (elem x D)) [
                | inl inside ↦ inl (often x inside)
                | inr outside ↦ inr (Never-part x 0 len (suc r * (M * suc n)) t (omega arith) (others x f outside))
              ]),
              rest,
            )
          ]
        ]

    -- how many steps are enough for r rounds, where fewer than d compassionate names are ever enabled
    abbrev pub enough : ℕ → ℕ → ℕ
    enough r zero = 0
    enough r (suc d) = r * (M * suc (enough r d))

    pub rounds_come : (r d : ℕ) (D : List ℕ) (t : Turn S) → length D < d → Ready just M t → ((x : ℕ) → fair x → elem x D ≡ false → Never x t (enough r d))
        → (a : ℕ) × (n : ℕ) × RoundsFrom just fair r (turn_at t a) n
    rounds_come r zero D t short ready others = absurd (omega arith)
    rounds_come r (suc d) D t short ready others =
        elim (rounds_or D (enough r d) r t ready others) [
          | inl found ↦
              let D' = without found.1 D in
              let size = length-without found.1 D found.2 in
              let rest = rounds_come r d D' (turn_at t found.0) (omega arith) (ready_at just M found.0 t ready) (λ x f out. elim (true_or_false (x == found.1)) [
                | inl same ↦ (let e : found.1 ≡ x = grind (arith, nat_tests) in subst (λ z. Never z (turn_at t found.0) (enough r d)) e found.4)
                | inr apart ↦ Never-part x found.0 (enough r d) (enough r (suc d)) t found.3 (others x f (elim (true_or_false (elem x D)) [
                  | inl inside ↦ (let still = elem-without x found.1 D inside apart in cc)
                  | inr outside ↦ outside
                ]))
              ]) in
              (found.0 + rest.0, rest.1, rw (← turn_more) rest.2)
          | inr rounds ↦ (0, enough r (suc d), rounds)
        ]
