-- Nested waiting-for by a wait diagram holds where its conditions do: a node's number is its level.
use Rattle.std.proofs.Common.{◌≡◌, ◌≢◌, ◌∙◌, ap, sym, subst, refl, arith, ℕ, zero, suc, ◌+◌, ◌-◌, ◌<◌, ◌≤◌, Bool, true, false, ◌==◌, if◌then◌else◌, IsTrue, List, [], ◌∷◌, length, map, slice_get, Some, None, ◌⊎◌, inl, inr}
use Rattle.std.proofs.lemmas.Bool.{false≢true}
use Rattle.std.proofs.lemmas.Bool.Decides.{eqb_tells}
use Rattle.std.proofs.lemmas.Option.{none-some}
use native.Mathlib.Decide.{dec_le}
use Rattle.st_form.specs.Formula.{Formula, Situation, truth, some, formulas}
use Rattle.vc_generator.specs.Building.{Draft, moved_of, entails_of}
use Rattle.st_form.specs.declared.conditions.Premise.TheVariants as premises
use Rattle.observations.specs.Observation.{Observation, state_at, last}
use Rattle.observations.specs.Goals.{Waiting}
use Rattle.observations.specs.Waits.{Waits}
use Rattle.observations.specs.Waits.Waits.{Ended, Reached, Kept, Passed}
use Rattle.observations.proofs.Positions.{name_from}
use Rattle.observations.proofs.WaitingLevels.{levels}
use Rattle.transition_system.specs.Systems.{PlainMode, System}
use Rattle.transition_system.specs.Meaning.{IsRun, gone}
use Rattle.temporal_goals.specs.Texts.{PlainDrawnNode, PlainDiagram}
use Rattle.temporal_goals.specs.Meaning.{test_of}
use Rattle.vc_generator.specs.Atoms.{PlainCase}
use Rattle.vc_generator.specs.Validity.{HoldThroughout, TrueThroughout}
use Rattle.vc_generator.specs.Walks.{plainly, by_mode}
use Rattle.vc_generator.proofs.Truths.{some-true}
use Rattle.vc_generator.proofs.Leading.{entails-true, moved-leads, CaseHolds}
use Rattle.vc_generator.proofs.Walking.{mode-holds, first-hold, others-hold}
use Rattle.vc_generator.proofs.Running.{step-at}
use Rattle.rule_laws.specs.Diagrams.{ends_of, case_on, lower_end, each_node, level_goal, wait_forms, wait_level, wait_cases, wait_move, wait_list}
use Rattle.rule_fits.specs.Fitting.{LevelsExist}
use Rattle.rule_laws.proofs.Among.{Among, among-split, among-map, among-single}
use Rattle.rule_laws.proofs.DrawnSound.{each-hold, among-ends, LowerEnd, lower-end}
use Rattle.rule_laws.proofs.DrawnSound.LowerEnd.{Terminal, Lower}

not-same : (a b : ℕ) → (a ≡ b → ⊥) → (a == b) ≡ false
not-same a b other = elim (eqb_tells a b) [ inl p ↦ absurd (other p.1) | inr r ↦ r.0 ]

-- the formulas from a level down
abbrev suffix : ℕ → List Formula → List Formula
suffix i [] = []
suffix i (q ∷ qs) = if i == length qs then q ∷ qs else suffix i qs

record Suffix (i : ℕ) (qs : List Formula) : Type 0 where
  pub rest : List Formula
  pub is : suffix i qs ≡ level_goal i qs ∷ rest
  pub size : length rest ≡ i
  pub lower : (j : ℕ) → j < i → suffix j qs ≡ suffix j rest

suffix-by : (b : Bool) (i : ℕ) (q : Formula) (qs : List Formula) → (i == length qs) ≡ b → i < length (q ∷ qs) → (i < length qs → Suffix i qs) → Suffix i (q ∷ qs)
suffix-by true i q qs same below rest =
    let is : i ≡ length qs = elim (eqb_tells i (length qs)) [ inl p ↦ p.1 | inr r ↦ absurd (false≢true (sym r.0 ∙ same)) ] in
    record {
      rest = qs;
      is = ap (λ b. if b then q ∷ qs else suffix i qs) same ∙ ap (λ b. (if b then q else level_goal i qs) ∷ qs) (sym same);
      size = sym is;
      lower = λ j less. ap (λ b. if b then q ∷ qs else suffix j qs) (not-same j (length qs) (λ e. omega arith));
    }
suffix-by false i q qs same below rest =
    let other : i ≢ length qs = elim (eqb_tells i (length qs)) [ inl p ↦ absurd (false≢true (sym same ∙ p.0)) | inr r ↦ r.1 ] in
    let inner = rest (omega arith) in
    record {
      rest = inner.rest;
      is = ap (λ b. if b then q ∷ qs else suffix i qs) same ∙ inner.is ∙ ap (λ b. (if b then q else level_goal i qs) ∷ inner.rest) (sym same);
      size = inner.size;
      lower = λ j less. ap (λ b. if b then q ∷ qs else suffix j qs) (not-same j (length qs) (λ e. omega arith)) ∙ inner.lower j less;
    }

suffix-of : (i : ℕ) (qs : List Formula) → i < length qs → Suffix i qs
suffix-of i [] below = absurd (omega arith)
suffix-of i (q ∷ qs) below = suffix-by (i == length qs) i q qs refl below (suffix-of i qs)

module _ (o : Observation Situation) (k : ℕ) where
  -- a lower level may be passed on to
  lift-by : (b : Bool) (j : ℕ) (q : Formula) (qs : List Formula) → (j == length qs) ≡ b → j < length (q ∷ qs) → (j < length qs → Waits o (map test_of (suffix j qs)) k → Waits o (map test_of qs) k)
      → Waits o (map test_of (if b then q ∷ qs else suffix j qs)) k → Waits o (map test_of (q ∷ qs)) k
  lift-by true j q qs same below rest w = w
  lift-by false j q [] same below rest w =
      let other : j ≢ 0 = elim (eqb_tells j 0) [ inl p ↦ absurd (false≢true (sym same ∙ p.0)) | inr r ↦ r.1 ] in
      absurd (other (omega arith))
  lift-by false j q (r ∷ rs) same below rest w =
      let other : j ≢ length (r ∷ rs) = elim (eqb_tells j (length (r ∷ rs))) [ inl p ↦ absurd (false≢true (sym same ∙ p.0)) | inr x ↦ x.1 ] in
      Passed {form = test_of q} {next = test_of r} {forms = map test_of rs} (rest (omega arith) w)

  lift-top : (j : ℕ) (qs : List Formula) → j < length qs → Waits o (map test_of (suffix j qs)) k → Waits o (map test_of qs) k
  lift-top j [] below w = absurd (omega arith)
  lift-top j (q ∷ qs) below w = lift-by (j == length qs) j q qs refl below (lift-top j qs) w

levels-exist : (count : ℕ) (nodes : List PlainDrawnNode) → LevelsExist count nodes → (i : ℕ) (n : PlainDrawnNode) → slice_get nodes i ≡ Some n → (0 < n.number) × (n.number < count)
levels-exist count [] fit i n e = absurd (none-some n e)
levels-exist count (x ∷ xs) fit zero n e = let same : x ≡ n = cc in subst (λ z. (0 < z.number) × (z.number < count)) same (fit.0, fit.1)
levels-exist count (x ∷ xs) fit (suc i) n e = levels-exist count xs fit.2 i n e

some-level : (count : ℕ) (nodes : List PlainDrawnNode) → LevelsExist count nodes → 0 < count
some-level count [] fit = fit
some-level count (x ∷ xs) fit = some-level count xs fit.2

module _ (step : ℕ) (system : System) (lemmas : List Formula) (o : Observation Situation) (run : IsRun system o) (cited : TrueThroughout lemmas o) (d : PlainDiagram) (p : Formula) (goals : List Formula) (fit : LevelsExist (length goals) d.nodes)
    (all : HoldThroughout (wait_list step system lemmas p goals d) o) where
  -- the state at a position is on the terminal node or on a node, whose level it is
  data On (k : ℕ) : ℕ → Type 0 where
    at-end : IsTrue (truth (state_at o k) d.terminal) → On k 0
    at-node : (n : PlainDrawnNode) → Among d.nodes n → IsTrue (truth (state_at o k) n.form) → On k n.number

  abbrev own-levels : List Draft
  own-levels = each_node (wait_level step lemmas goals) d.nodes

  abbrev own-moves : List Draft
  own-moves = each_node (wait_move step system lemmas d) d.nodes

  below-all : (k i : ℕ) → On k i → i < length goals
  below-all k i (at-end h) = some-level (length goals) d.nodes fit
  below-all k i (at-node n a h) = (levels-exist (length goals) d.nodes fit a.place n a.listed).1

  -- the goal's formula of the level holds
  goal-holds : (k i : ℕ) → k ≤ last o → On k i → IsTrue (truth (state_at o k) (level_goal i goals))
  goal-holds k i h (at-end here) =
      let s = state_at o k in
      entails-true s lemmas d.terminal (level_goal 0 goals) (plainly step premises.Level (Some 0)) (others-hold s own-levels (entails_of lemmas d.terminal (level_goal 0 goals) (plainly step premises.Level (Some 0)) ∷ own-moves) (all k h).1).0 (cited k h) here
  goal-holds k i h (at-node n a here) =
      let s = state_at o k in
      entails-true s lemmas n.form (level_goal n.number goals) (plainly step premises.Level (Some n.number)) (each-hold s (wait_level step lemmas goals) d.nodes a.place n a.listed (first-hold s own-levels (entails_of lemmas d.terminal (level_goal 0 goals) (plainly step premises.Level (Some 0)) ∷ own-moves) (all k h).1)).0 (cited k h) here

  -- a step from a node leads to it or to a lower level
  next-on : (k : ℕ) → k < last o → (n : PlainDrawnNode) → Among d.nodes n → IsTrue (truth (state_at o k) n.form) → (j : ℕ) × (j ≤ n.number) × On (suc k) j
  next-on k h n a here =
      let s = state_at o k in
      let taken = name_from o k h in
      let went = step-at system o k taken.0 run taken.1 in
      let moves = (others-hold s own-levels (entails_of lemmas d.terminal (level_goal 0 goals) (plainly step premises.Level (Some 0)) ∷ own-moves) (all k (omega arith)).1).1 in
      let own = each-hold s (wait_move step system lemmas d) d.nodes a.place n a.listed moves in
      let claim = mode-holds s (λ number t j m. moved_of m lemmas n.form (wait_cases d n number) (by_mode step premises.Move (Some n.number) t.name j) ∷ []) system taken.0 went.place went.transition went.mode went.numbered went.placed own in
      let case = moved-leads went.mode s lemmas n.form (wait_cases d n taken.0) (by_mode step premises.Move (Some n.number) went.transition.name (1 + went.place)) claim.0 (cited k (omega arith)) here went.goes in
      leads went.mode went.leads case.case case.holds taken.0 (among-split (case_on n.form ∷ []) (ends_of (lower_end d n.number) n.number taken.0 d.edges) case.case (record { place = case.place; listed = case.listed }))
    where
      ends : (m : PlainMode) → state_at o (suc k) ≡ gone m (state_at o k) → (c : PlainCase) → CaseHolds m (state_at o k) c → LowerEnd d n.number c → (j : ℕ) × (j ≤ n.number) × On (suc k) j
      ends m is c holds (Terminal same) = (0, omega arith, at-end (subst (λ s. IsTrue (truth s d.terminal)) (sym is) (subst (CaseHolds m (state_at o k)) (sym same) holds).behind))
      ends m is c holds (Lower x among less same) = (x.number, omega arith, at-node x among (subst (λ s. IsTrue (truth s x.form)) (sym is) (subst (CaseHolds m (state_at o k)) (sym same) holds).behind))

      leads : (m : PlainMode) → state_at o (suc k) ≡ gone m (state_at o k) → (c : PlainCase) → CaseHolds m (state_at o k) c → (number : ℕ) → Among (case_on n.form ∷ []) c ⊎ Among (ends_of (lower_end d n.number) n.number number d.edges) c → (j : ℕ) × (j ≤ n.number) × On (suc k) j
      leads m is c holds number (inl stays) = (n.number, omega arith, at-node n a (subst (λ s. IsTrue (truth s n.form)) (sym is) (subst (CaseHolds m (state_at o k)) (sym (among-single (case_on n.form) c stays)) holds).behind))
      leads m is c holds number (inr goes) = let r = among-ends (lower_end d n.number) n.number number d.edges c goes in ends m is c holds (lower-end d n.number r.0 c r.1)

  abbrev FromHere : ℕ → Type 0
  FromHere k = (i : ℕ) → On k i → Waits o (map test_of (suffix i goals)) k

  ended : (k i : ℕ) → k ≤ last o → On k i → i ≡ 0 → (x : Suffix i goals) → Waits o (map test_of (suffix i goals)) k
  ended k i h on none x = ended-by x.rest (x.size ∙ none) x.is
    where
      ended-by : (rest : List Formula) → length rest ≡ 0 → suffix i goals ≡ level_goal i goals ∷ rest → Waits o (map test_of (suffix i goals)) k
      ended-by [] size is = subst (λ qs. Waits o (map test_of qs) k) (sym is) (Reached (goal-holds k i h on))
      ended-by (r ∷ rs) size is = absurd (omega arith)

  -- a lower level, seen from a higher one
  lowered-to : (k i j : ℕ) → i < length goals → j ≤ i → Waits o (map test_of (suffix j goals)) k → Waits o (map test_of (suffix i goals)) k
  lowered-to k i j below le w = elim (eqb_tells j i) [
    | inl same ↦ subst (λ x. Waits o (map test_of (suffix x goals)) k) same.1 w
    | inr other ↦
        let x = suffix-of i goals below in
        let differs = other.1 in
        let less : j < i = lt-of j i le differs in
        pass x.rest x.is x.size less (lift-top o k j x.rest (let size = x.size in omega arith) (subst (λ qs. Waits o (map test_of qs) k) (x.lower j less) w))
  ]
    where
      lt-of : (a b : ℕ) → a ≤ b → a ≢ b → a < b
      lt-of a b le differs = elim (dec_le (suc a) b) [ yes h ↦ h | no h ↦ absurd (differs (omega arith)) ]

      pass : (rest : List Formula) → suffix i goals ≡ level_goal i goals ∷ rest → length rest ≡ i → j < i → Waits o (map test_of rest) k → Waits o (map test_of (suffix i goals)) k
      pass [] is size less w' = absurd (omega arith)
      pass (r ∷ rs) is size less w' = subst (λ qs. Waits o (map test_of qs) k) (sym is) (Passed {form = test_of (level_goal i goals)} {next = test_of r} {forms = map test_of rs} w')

  at-position : (k : ℕ) → k ≤ last o → (last o < suc k) ⊎ ((k < last o) × FromHere (suc k)) → FromHere k
  at-position k h ahead i (at-end here) = ended k 0 h (at-end here) refl (suffix-of 0 goals (some-level (length goals) d.nodes fit))
  at-position k h ahead i (at-node n a here) =
      let below = below-all k n.number (at-node n a here) in
      let x = suffix-of n.number goals below in
      keep x.rest x.is x.size
    where
      above : 0 < n.number
      above = (levels-exist (length goals) d.nodes fit a.place n a.listed).0

      further : (rest : List Formula) → suffix n.number goals ≡ level_goal n.number goals ∷ rest → Waits o (map test_of (level_goal n.number goals ∷ rest)) (suc k)
      further rest is = subst (λ qs. Waits o (map test_of qs) (suc k)) is (elim ahead [
        | inl gone' ↦ Ended gone'
        | inr more ↦
            let next = next-on k more.0 n a here in
            lowered-to (suc k) n.number next.0 (below-all k n.number (at-node n a here)) next.1 (more.1 next.0 next.2)
      ])

      keep : (rest : List Formula) → suffix n.number goals ≡ level_goal n.number goals ∷ rest → length rest ≡ n.number → Waits o (map test_of (suffix n.number goals)) k
      keep [] is size = absurd (let high = above in omega arith)
      keep (r ∷ rs) is size = subst (λ qs. Waits o (map test_of qs) k) (sym is)
          (Kept {form = test_of (level_goal n.number goals)} {next = test_of r} {forms = map test_of rs} (goal-holds k n.number h (at-node n a here)) (further (r ∷ rs) is))

  from-position : (n k : ℕ) → k + n ≡ last o → FromHere k
  from-position zero k e = at-position k (omega arith) (inl (omega arith))
  from-position (suc n) k e = at-position k (omega arith) (inr (omega arith, from-position n (suc k) (omega arith)))

  -- where p holds, the state is on some node
  starts-on : (k : ℕ) → k ≤ last o → IsTrue (truth (state_at o k) p) → (i : ℕ) × On k i
  starts-on k h holds =
      let s = state_at o k in
      let shown = entails-true s lemmas p (some (formulas (wait_forms d))) (plainly step premises.Cover None) (all k h).0 (cited k h) holds in
      let one = some-true s (wait_forms d) shown in
      elim (among-split (map (λ n. n.form) d.nodes) (d.terminal ∷ []) one.form (record { place = one.place; listed = one.listed })) [
        | inl node ↦ (let found = among-map (λ n. n.form) d.nodes one.form node in (found.item.number, at-node found.item found.among (subst (λ f. IsTrue (truth s f)) (sym found.is) one.holds)))
        | inr end ↦ (0, at-end (subst (λ f. IsTrue (truth s f)) (sym (among-single d.terminal one.form end)) one.holds))
      ]

  pub wait-sound : Waiting (test_of p) (map test_of goals) o
  wait-sound k h holds =
      let start = starts-on k h holds in
      levels o (map test_of goals) k h (lift-top o k start.0 goals (below-all k start.0 start.1) (from-position (last o - k) k (omega arith) start.0 start.1))
