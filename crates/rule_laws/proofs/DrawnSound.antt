-- The response of a chain or rank diagram holds where its conditions do.
use Rattle.std.proofs.Common.{◌≡◌, ◌≢◌, ◌∙◌, ap, sym, subst, refl, arith, ℕ, zero, suc, ◌+◌, ◌<◌, ◌≤◌, Bool, true, false, ◌==◌, if◌then◌else◌, IsTrue, ℤ, pos, negsuc, ◌+ℤ◌, ◌≤ℤ◌, List, [], ◌∷◌, ◌++◌, map, slice_get, Option, Some, None, unwrap_or, ◌⊎◌, inl, inr}
use Rattle.std.specs.Prelude.{nat_lt}
use Rattle.std.proofs.lemmas.Bool.{false≢true}
use Rattle.std.proofs.lemmas.Bool.Decides.{eqb_tells, nat_tests}
use Rattle.std.proofs.lemmas.Option.{none-some}
use Rattle.std.proofs.lemmas.Int.{ints}
use Rattle.st_linear.specs.Linear.{Linear, value, number}
use Rattle.st_linear.specs.Simple.{lowered}
use Rattle.st_form.specs.Formula.{Formula, Situation, truth, some_truth, truth_value, row, some, formulas}
use Rattle.vc_generator.specs.Building.{Draft, at_least, moved_of}
use Rattle.st_form.specs.declared.conditions.Premise.TheVariants as premises
use Rattle.observations.specs.Observation.{Observation, moment_at, state_at, last, IsTaken, IsJust}
use Rattle.observations.specs.Goals.{Response}
use Rattle.observations.specs.Diagram.{DrawnNode, IsOnDrawn, DrawnMove}
use Rattle.observations.specs.Diagram.DrawnMove.{Stays, Ends, Along}
use Rattle.observations.proofs.DiagramNet.{response_by_diagram}
use Rattle.observations.proofs.Positions.{named_below}
use Rattle.transition_system.specs.Systems.{PlainMode, System}
use Rattle.transition_system.specs.Meaning.{IsRun, gone}
use Rattle.temporal_goals.specs.Texts.{PlainDrawnNode, PlainEdge, PlainDiagram}
use Rattle.temporal_goals.specs.Meaning.{test_of, number_of}
use Rattle.vc_generator.specs.Atoms.{PlainCase}
use Rattle.vc_generator.specs.Validity.{HoldThroughout, TrueThroughout, AllHoldIn}
use Rattle.vc_generator.specs.Walks.{each_mode, plainly, by_mode}
use Rattle.vc_generator.proofs.Truths.{either, true-every, some-true}
use Rattle.vc_generator.proofs.Leading.{entails-true, moved-leads, CaseHolds, SomeCase, at-least-true, lowered-value}
use Rattle.vc_generator.proofs.Walking.{mode-holds, first-hold, others-hold}
use Rattle.vc_generator.proofs.Running.{step-at, enabled-at}
use Rattle.rule_laws.specs.Names.{is_name, enabled_of}
use Rattle.rule_laws.specs.Diagrams.{node_numbered, leaves_on, ends_of, case_on, case_at, lower_end, each_node, drawn_rank, drawn_help, unless_helper, chain_starts, chain_cases, chain_move, chain_list, rank_starts, rank_stays, rank_falls, rank_end, rank_cases, drawn_ranked, rank_move, rank_list}
use Rattle.rule_fits.specs.Fitting.{DrawnFits, DrawnNodesFit}
use Rattle.rule_laws.proofs.Enabled.{enabled-among}
use Rattle.rule_laws.proofs.Among.{Among, among-next, among-split, among-map, map-among, among-single, other-name}
use Rattle.rule_laws.proofs.NetSound.{lower-by}

pub each-hold : (s : Situation) (f : PlainDrawnNode → List Draft) (nodes : List PlainDrawnNode) (i : ℕ) (n : PlainDrawnNode) → slice_get nodes i ≡ Some n → AllHoldIn (each_node f nodes) s → AllHoldIn (f n) s
each-hold s f [] i n e all = absurd (none-some n e)
each-hold s f (x ∷ xs) zero n e all = let same : x ≡ n = cc in subst (λ z. AllHoldIn (f z) s) same (first-hold s (f x) (each_node f xs) all)
each-hold s f (x ∷ xs) (suc i) n e all = each-hold s f xs i n e (others-hold s (f x) (each_node f xs) all)

numbered-by : (b : Bool) (x : PlainDrawnNode) (xs : List PlainDrawnNode) (j : ℕ) (n : PlainDrawnNode) → (x.number == j) ≡ b → (node_numbered j xs ≡ Some n → Among xs n × (n.number ≡ j))
    → (if b then Some x else node_numbered j xs) ≡ Some n → Among (x ∷ xs) n × (n.number ≡ j)
numbered-by true x xs j n same rest e =
    let is : x ≡ n = cc in
    elim (eqb_tells x.number j) [ inl p ↦ (record { place = 0; listed = e }, ap (λ z. z.number) (sym is) ∙ p.1) | inr q ↦ absurd (false≢true (sym q.0 ∙ same)) ]
numbered-by false x xs j n same rest e = let r = rest e in (among-next x xs n r.0, r.1)

pub node-numbered : (j : ℕ) (nodes : List PlainDrawnNode) (n : PlainDrawnNode) → node_numbered j nodes ≡ Some n → Among nodes n × (n.number ≡ j)
node-numbered j [] n e = absurd (none-some n e)
node-numbered j (x ∷ xs) n e = numbered-by (x.number == j) x xs j n refl (node-numbered j xs n) e

among-end-by : (b : Bool) (f : ℕ → List PlainCase) (x : PlainEdge) (rest : List PlainCase) (c : PlainCase) → Among (if b then f x.to ++ rest else rest) c → Among (f x.to) c ⊎ Among rest c
among-end-by true f x rest c a = among-split (f x.to) rest c a
among-end-by false f x rest c a = inr a

pub among-ends : (f : ℕ → List PlainCase) (i number : ℕ) (es : List PlainEdge) (c : PlainCase) → Among (ends_of f i number es) c → (j : ℕ) × Among (f j) c
among-ends f i number [] c a = absurd (none-some c a.listed)
among-ends f i number (x ∷ xs) c a = elim (among-end-by (leaves_on i number x) f x (ends_of f i number xs) c a) [
  | inl here ↦ (x.to, here)
  | inr later ↦ among-ends f i number xs c later
]

-- where an edge to a lower number leads
pub data LowerEnd (d : PlainDiagram) (i : ℕ) (c : PlainCase) : Type 0 where
  Terminal : case_on d.terminal ≡ c → LowerEnd d i c
  Lower : (n : PlainDrawnNode) → Among d.nodes n → n.number < i → case_on n.form ≡ c → LowerEnd d i c

case-at : (d : PlainDiagram) (i j : ℕ) (c : PlainCase) → j < i → (o : Option PlainDrawnNode) → node_numbered j d.nodes ≡ o → Among (case_at o) c → LowerEnd d i c
case-at d i j c below None is a = absurd (none-some c a.listed)
case-at d i j c below (Some n) is a = let r = node-numbered j d.nodes n is in Lower n r.0 (subst (λ k. k < i) (sym r.1) below) (among-single (case_on n.form) c a)

pub lower-end : (d : PlainDiagram) (i j : ℕ) (c : PlainCase) → Among (lower_end d i j) c → LowerEnd d i c
lower-end d i j c a = by-zero (j == 0) a
  where
    by-lower : (b : Bool) → nat_lt j i ≡ b → Among (if b then case_at (node_numbered j d.nodes) else []) c → LowerEnd d i c
    by-lower true below a = case-at d i j c (grind (arith, nat_tests)) (node_numbered j d.nodes) refl a
    by-lower false below a = absurd (none-some c a.listed)

    by-zero : (b : Bool) → Among (if b then case_on d.terminal ∷ [] else (if nat_lt j i then case_at (node_numbered j d.nodes) else [])) c → LowerEnd d i c
    by-zero true a = Terminal (among-single (case_on d.terminal) c a)
    by-zero false a = by-lower (nat_lt j i) refl a

helper-by : (b : Bool) (n : PlainDrawnNode) (name : ℕ) (x c : PlainCase) → is_name n.helper name ≡ b → Among (if b then [] else x ∷ []) c → (is_name n.helper name ≡ false) × (x ≡ c)
helper-by true n name x c is a = absurd (none-some c a.listed)
helper-by false n name x c is a = (is, among-single x c a)

unless-helper : (n : PlainDrawnNode) (name : ℕ) (x c : PlainCase) → Among (unless_helper n name x) c → (is_name n.helper name ≡ false) × (x ≡ c)
unless-helper n name x c a = helper-by (is_name n.helper name) n name x c refl a

drawn-fits : (system : System) (nodes : List PlainDrawnNode) → DrawnNodesFit system nodes → (i : ℕ) (n : PlainDrawnNode) → slice_get nodes i ≡ Some n → DrawnFits system n
drawn-fits system [] fit i n e = absurd (none-some n e)
drawn-fits system (x ∷ xs) fit zero n e = let same : x ≡ n = cc in subst (DrawnFits system) same fit.0
drawn-fits system (x ∷ xs) fit (suc i) n e = drawn-fits system xs fit.1 i n e

-- a diagram with a rank in each state for each node
module _ (rank : PlainDrawnNode → Situation → ℤ) where
  abbrev drawn_of : PlainDrawnNode → DrawnNode Situation
  drawn_of n = record { form = test_of n.form; rank = rank n; helper = unwrap_or n.helper 0 }

  on-drawn : (nodes : List PlainDrawnNode) (s : Situation) (n : PlainDrawnNode) → Among nodes n → IsTrue (truth s n.form) → IsOnDrawn (map drawn_of nodes) s (drawn_of n)
  on-drawn nodes s n a h = record { place = a.place; listed = map-among drawn_of nodes a.place n a.listed; holds = h }

  pub record Seen (nodes : List PlainDrawnNode) (s : Situation) (n : DrawnNode Situation) : Type 0 where
    pub node : PlainDrawnNode
    pub among : Among nodes node
    pub holds : IsTrue (truth s node.form)
    pub is : drawn_of node ≡ n

  seen-drawn : (nodes : List PlainDrawnNode) (s : Situation) (n : DrawnNode Situation) → IsOnDrawn (map drawn_of nodes) s n → Seen nodes s n
  seen-drawn nodes s n on =
      let found = among-map drawn_of nodes n (record { place = on.place; listed = on.listed }) in
      record { node = found.item; among = found.among; holds = subst (λ z. IsTrue (z.form s)) (sym found.is) on.holds; is = found.is }

  -- what is left to show of the conditions of a diagram
  pub record Drawn (system : System) (d : PlainDiagram) (p q : Formula) (e : Linear) (o : Observation Situation) : Type 0 where
    pub fit : DrawnNodesFit system d.nodes
    pub target : (k : ℕ) → k ≤ last o → IsTrue (truth (state_at o k) d.terminal) → IsTrue (truth (state_at o k) q)
    pub cover : (k : ℕ) → k ≤ last o → IsTrue (truth (state_at o k) p)
        → IsTrue (truth (state_at o k) d.terminal) ⊎ ((n : PlainDrawnNode) × Among d.nodes n × IsTrue (truth (state_at o k) n.form) × ((rank n (state_at o k) +ℤ pos 1) ≤ℤ value (state_at o k).numbers e))
    pub ranked : (k : ℕ) → k ≤ last o → (n : PlainDrawnNode) → Among d.nodes n → IsTrue (truth (state_at o k) n.form) → pos 0 ≤ℤ rank n (state_at o k)
    pub helped : (k : ℕ) → k ≤ last o → (n : PlainDrawnNode) → Among d.nodes n → IsTrue (truth (state_at o k) n.form) → IsTrue (truth (state_at o k) (enabled_of system n.helper))
    pub moves : (k name : ℕ) → IsTaken o name k → (n : PlainDrawnNode) → Among d.nodes n → IsTrue (truth (state_at o k) n.form)
        → DrawnMove (map drawn_of d.nodes) (test_of d.terminal) name (drawn_of n) (state_at o k) (state_at o (suc k))

  pub drawn-sound : (system : System) (d : PlainDiagram) (p q : Formula) (e : Linear) (o : Observation Situation) → IsRun system o → Drawn system d p q e o → Response (test_of p) (test_of q) (number_of e) o
  drawn-sound system d p q e o run drawn = response_by_diagram (map drawn_of d.nodes) (test_of d.terminal) (test_of p) (test_of q) (number_of e) o (record {
    target = drawn.target;
    cover = λ k h holds. elim (drawn.cover k h holds) [
      | inl now ↦ inl now
      | inr n ↦ inr (record { node = drawn_of n.0; is_on = on-drawn d.nodes (state_at o k) n.0 n.1 n.2; below = n.3 })
    ];
    rank = λ k h n on. (let x = seen-drawn d.nodes (state_at o k) n on in subst (λ z. pos 0 ≤ℤ z.rank (state_at o k)) x.is (drawn.ranked k h x.node x.among x.holds));
    help = λ k h n on. (let x = seen-drawn d.nodes (state_at o k) n on in subst (λ z. slice_get (moment_at o k).enabled z.helper ≡ Some true) x.is (help-seen k x.node (drawn-fits system d.nodes drawn.fit x.among.place x.node x.among.listed) (drawn.helped k h x.node x.among x.holds)));
    move = λ k name taken n on. (let x = seen-drawn d.nodes (state_at o k) n on in subst (λ z. DrawnMove (map drawn_of d.nodes) (test_of d.terminal) name z (state_at o k) (state_at o (suc k))) x.is (drawn.moves k name taken x.node x.among x.holds));
    helpers = λ i n listed. (let x = among-map drawn_of d.nodes n (record { place = i; listed = listed }) in subst (λ z. IsJust o.fairness z.helper) x.is (just-seen x.item (drawn-fits system d.nodes drawn.fit x.among.place x.item x.among.listed)));
  })
    where
      help-seen : (k : ℕ) (n : PlainDrawnNode) → DrawnFits system n → IsTrue (truth (state_at o k) (enabled_of system n.helper)) → slice_get (moment_at o k).enabled (unwrap_or n.helper 0) ≡ Some true
      help-seen k n fits h =
          let on = enabled-among (state_at o k) system (Some fits.helper) (subst (λ g. IsTrue (truth (state_at o k) (enabled_of system g))) fits.is h) in
          subst (λ g. slice_get (moment_at o k).enabled (unwrap_or g 0) ≡ Some true) (sym fits.is) (subst (λ en. slice_get en fits.helper ≡ Some true) (sym (enabled-at system o k run)) on)

      just-seen : (n : PlainDrawnNode) → DrawnFits system n → IsJust o.fairness (unwrap_or n.helper 0)
      just-seen n fits = subst (λ g. IsJust o.fairness (unwrap_or g 0)) (sym fits.is) (subst (λ names. IsJust names fits.helper) (sym run.observed.fairness) fits.just)

abbrev pub chain_rank : PlainDrawnNode → Situation → ℤ
chain_rank n s = pos n.number +ℤ negsuc 0

abbrev pub own_rank : PlainDrawnNode → Situation → ℤ
own_rank n s = value s.numbers (drawn_rank n)

module _ (step : ℕ) (system : System) (lemmas : List Formula) (o : Observation Situation) (run : IsRun system o) (cited : TrueThroughout lemmas o) (d : PlainDiagram) (fit : DrawnNodesFit system d.nodes) (p q : Formula) (e : Linear) where
  -- a starting node of a cover
  covered : (k : ℕ) → k ≤ last o → (rank : PlainDrawnNode → Situation → ℤ) (starts : PlainDrawnNode → Formula)
      → ((n : PlainDrawnNode) → IsTrue (truth (state_at o k) (starts n)) → IsTrue (truth (state_at o k) n.form) × ((rank n (state_at o k) +ℤ pos 1) ≤ℤ value (state_at o k).numbers e))
      → IsTrue (truth (state_at o k) (some (formulas (d.terminal ∷ map starts d.nodes))))
      → IsTrue (truth (state_at o k) d.terminal) ⊎ ((n : PlainDrawnNode) × Among d.nodes n × IsTrue (truth (state_at o k) n.form) × ((rank n (state_at o k) +ℤ pos 1) ≤ℤ value (state_at o k).numbers e))
  covered k h rank starts means shown =
      let s = state_at o k in
      elim (either (truth s d.terminal) (some_truth s (formulas (map starts d.nodes))) shown) [
        | inl now ↦ inl now
        | inr later ↦
            let some' = some-true s (map starts d.nodes) later in
            let found = among-map starts d.nodes some'.form (record { place = some'.place; listed = some'.listed }) in
            let m = means found.item (subst (λ f. IsTrue (truth s f)) (sym found.is) some'.holds) in
            inr (found.item, found.among, m.0, m.1)
      ]

  -- a case that holds of the step from a position, from the conditions of a node's moves
  case-at-step : (cases : ℕ → List PlainCase) (n : PlainDrawnNode) (k name : ℕ) → k ≤ last o → (taken : IsTaken o name k) → IsTrue (truth (state_at o k) n.form)
      → AllHoldIn (each_mode (λ number t j m. moved_of m lemmas n.form (cases number) (by_mode step premises.Move (Some n.number) t.name j) ∷ []) system) (state_at o k)
      → (m : PlainMode) × (state_at o (suc k) ≡ gone m (state_at o k)) × SomeCase m (state_at o k) (cases name)
  case-at-step cases n k name h taken here own =
      let s = state_at o k in
      let went = step-at system o k name run taken in
      let claim = mode-holds s (λ number t j m. moved_of m lemmas n.form (cases number) (by_mode step premises.Move (Some n.number) t.name j) ∷ []) system name went.place went.transition went.mode went.numbered went.placed own in
      (went.mode, went.leads, moved-leads went.mode s lemmas n.form (cases name) (by_mode step premises.Move (Some n.number) went.transition.name (1 + went.place)) claim.0 (cited k h) here went.goes)

  helper-other : (n : PlainDrawnNode) (name : ℕ) → DrawnFits system n → is_name n.helper name ≡ false → unwrap_or n.helper 0 ≢ name
  helper-other n name fits not-it same = other-name n.helper name not-it (fits.is ∙ ap Some (ap (λ g. unwrap_or g 0) (sym fits.is) ∙ same))

  module _ (all : HoldThroughout (chain_list step system lemmas p q e d) o) where
    chain-starts : (s : Situation) (n : PlainDrawnNode) → IsTrue (truth s (chain_starts e n)) → IsTrue (truth s n.form) × ((chain_rank n s +ℤ pos 1) ≤ℤ value s.numbers e)
    chain-starts s n h =
        let parts = true-every s (n.form ∷ at_least e (number (pos n.number)) ∷ []) h in
        let least = at-least-true s e (number (pos n.number)) parts.1.0 in
        (parts.0, omega (arith, ints))

    abbrev helps : List Draft
    helps = each_node (drawn_help step system lemmas) d.nodes

    abbrev moves : List Draft
    moves = each_node (chain_move step system lemmas d) d.nodes

    chain-moves : (k name : ℕ) → IsTaken o name k → (n : PlainDrawnNode) → Among d.nodes n → IsTrue (truth (state_at o k) n.form)
        → DrawnMove (map (drawn_of chain_rank) d.nodes) (test_of d.terminal) name (drawn_of chain_rank n) (state_at o k) (state_at o (suc k))
    chain-moves k name taken n a here =
        let s = state_at o k in
        let below = named_below o.later k name taken in
        let h : k ≤ last o = omega arith in
        let own = each-hold s (chain_move step system lemmas d) d.nodes a.place n a.listed (others-hold s helps moves (all k h).1.1) in
        let r = case-at-step (chain_cases d n) n k name h taken here own in
        subst (λ t. DrawnMove (map (drawn_of chain_rank) d.nodes) (test_of d.terminal) name (drawn_of chain_rank n) s t) (sym r.1) (leads r.0 r.2.case r.2.holds (record { place = r.2.place; listed = r.2.listed }))
      where
        ends : (m : PlainMode) (c : PlainCase) → CaseHolds m (state_at o k) c → LowerEnd d n.number c → DrawnMove (map (drawn_of chain_rank) d.nodes) (test_of d.terminal) name (drawn_of chain_rank n) (state_at o k) (gone m (state_at o k))
        ends m c holds (Terminal is) = Ends (subst (CaseHolds m (state_at o k)) (sym is) holds).behind
        ends m c holds (Lower j among less is) = Along (drawn_of chain_rank j) (on-drawn chain_rank d.nodes (gone m (state_at o k)) j among (subst (CaseHolds m (state_at o k)) (sym is) holds).behind) (omega (arith, ints))

        leads : (m : PlainMode) (c : PlainCase) → CaseHolds m (state_at o k) c → Among (chain_cases d n name) c → DrawnMove (map (drawn_of chain_rank) d.nodes) (test_of d.terminal) name (drawn_of chain_rank n) (state_at o k) (gone m (state_at o k))
        leads m c holds a' = elim (among-split (unless_helper n name (case_on n.form)) (ends_of (lower_end d n.number) n.number name d.edges) c a') [
          | inl stays ↦ (let r = unless-helper n name (case_on n.form) c stays in
              let it = subst (CaseHolds m (state_at o k)) (sym r.1) holds in
              Stays (on-drawn chain_rank d.nodes (gone m (state_at o k)) n a it.behind) (helper-other n name (drawn-fits system d.nodes fit a.place n a.listed) r.0) (omega (arith, ints)))
          | inr goes ↦ (let r = among-ends (lower_end d n.number) n.number name d.edges c goes in ends m c holds (lower-end d n.number r.0 c r.1))
        ]

    pub chain-sound : Response (test_of p) (test_of q) (number_of e) o
    chain-sound = drawn-sound chain_rank system d p q e o run (record {
      fit = fit;
      target = λ k h holds. entails-true (state_at o k) lemmas d.terminal q (plainly step premises.Target None) (all k h).0 (cited k h) holds;
      cover = λ k h holds. covered k h chain_rank (chain_starts e) (chain-starts (state_at o k)) (entails-true (state_at o k) lemmas p (some (formulas (d.terminal ∷ map (chain_starts e) d.nodes))) (plainly step premises.Cover None) (all k h).1.0 (cited k h) holds);
      ranked = λ k h n a holds. (let above = (drawn-fits system d.nodes fit a.place n a.listed).numbered in omega (arith, ints));
      helped = λ k h n a holds. entails-true (state_at o k) lemmas n.form (enabled_of system n.helper) (plainly step premises.Help (Some n.number)) (each-hold (state_at o k) (drawn_help step system lemmas) d.nodes a.place n a.listed (first-hold (state_at o k) helps moves (all k h).1.1)).0 (cited k h) holds;
      moves = chain-moves;
    })

  module _ (all : HoldThroughout (rank_list step system lemmas p q e d) o) where
    rank-starts : (s : Situation) (n : PlainDrawnNode) → IsTrue (truth s (rank_starts e n)) → IsTrue (truth s n.form) × ((own_rank n s +ℤ pos 1) ≤ℤ value s.numbers e)
    rank-starts s n h =
        let parts = true-every s (n.form ∷ at_least (lowered e) (drawn_rank n) ∷ []) h in
        let least = at-least-true s (lowered e) (drawn_rank n) parts.1.0 in
        let is = lowered-value s e in
        (parts.0, omega (arith, ints))

    abbrev ranks' : List Draft
    ranks' = each_node (drawn_ranked step lemmas) d.nodes

    abbrev helps' : List Draft
    helps' = each_node (drawn_help step system lemmas) d.nodes

    abbrev moves' : List Draft
    moves' = each_node (rank_move step system lemmas d) d.nodes

    rank-moves : (k name : ℕ) → IsTaken o name k → (n : PlainDrawnNode) → Among d.nodes n → IsTrue (truth (state_at o k) n.form)
        → DrawnMove (map (drawn_of own_rank) d.nodes) (test_of d.terminal) name (drawn_of own_rank n) (state_at o k) (state_at o (suc k))
    rank-moves k name taken n a here =
        let s = state_at o k in
        let below = named_below o.later k name taken in
        let h : k ≤ last o = omega arith in
        let own = each-hold s (rank_move step system lemmas d) d.nodes a.place n a.listed (others-hold s helps' moves' (others-hold s ranks' (helps' ++ moves') (all k h).1.1)) in
        let r = case-at-step (rank_cases d n) n k name h taken here own in
        subst (λ t. DrawnMove (map (drawn_of own_rank) d.nodes) (test_of d.terminal) name (drawn_of own_rank n) s t) (sym r.1) (leads r.0 r.2.case r.2.holds (record { place = r.2.place; listed = r.2.listed }))
      where
        falls : (m : PlainMode) (c : PlainCase) → CaseHolds m (state_at o k) c → (j : ℕ) (x : Option PlainDrawnNode) → node_numbered j d.nodes ≡ x → Among (rank_falls n x) c → DrawnMove (map (drawn_of own_rank) d.nodes) (test_of d.terminal) name (drawn_of own_rank n) (state_at o k) (gone m (state_at o k))
        falls m c holds j None is a' = absurd (none-some c a'.listed)
        falls m c holds j (Some x) is a' =
            let it = subst (CaseHolds m (state_at o k)) (sym (among-single (record { now = truth_value true; behind = x.form; falls = (drawn_rank x, lowered (drawn_rank n)) ∷ [] }) c a')) holds in
            Along (drawn_of own_rank x) (on-drawn own_rank d.nodes (gone m (state_at o k)) x (node-numbered j d.nodes x is).0 it.behind) (lower-by m (state_at o k) (drawn_rank x) (drawn_rank n) it.falls.0)

        ends-by : (b : Bool) (m : PlainMode) (c : PlainCase) → CaseHolds m (state_at o k) c → (j : ℕ) → Among (if b then case_on d.terminal ∷ [] else rank_falls n (node_numbered j d.nodes)) c → DrawnMove (map (drawn_of own_rank) d.nodes) (test_of d.terminal) name (drawn_of own_rank n) (state_at o k) (gone m (state_at o k))
        ends-by true m c holds j a' = Ends (subst (CaseHolds m (state_at o k)) (sym (among-single (case_on d.terminal) c a')) holds).behind
        ends-by false m c holds j a' = falls m c holds j (node_numbered j d.nodes) refl a'

        leads : (m : PlainMode) (c : PlainCase) → CaseHolds m (state_at o k) c → Among (rank_cases d n name) c → DrawnMove (map (drawn_of own_rank) d.nodes) (test_of d.terminal) name (drawn_of own_rank n) (state_at o k) (gone m (state_at o k))
        leads m c holds a' = elim (among-split (unless_helper n name (rank_stays n)) (ends_of (rank_end d n) n.number name d.edges) c a') [
          | inl stays ↦ (let r = unless-helper n name (rank_stays n) c stays in
              let it = subst (CaseHolds m (state_at o k)) (sym r.1) holds in
              Stays (on-drawn own_rank d.nodes (gone m (state_at o k)) n a it.behind) (helper-other n name (drawn-fits system d.nodes fit a.place n a.listed) r.0) it.falls.0)
          | inr goes ↦ (let r = among-ends (rank_end d n) n.number name d.edges c goes in ends-by (r.0 == 0) m c holds r.0 r.1)
        ]

    pub rank-sound : Response (test_of p) (test_of q) (number_of e) o
    rank-sound = drawn-sound own_rank system d p q e o run (record {
      fit = fit;
      target = λ k h holds. entails-true (state_at o k) lemmas d.terminal q (plainly step premises.Target None) (all k h).0 (cited k h) holds;
      cover = λ k h holds. covered k h own_rank (rank_starts e) (rank-starts (state_at o k)) (entails-true (state_at o k) lemmas p (some (formulas (d.terminal ∷ map (rank_starts e) d.nodes))) (plainly step premises.Cover None) (all k h).1.0 (cited k h) holds);
      ranked = λ k h n a holds. (let r = entails-true (state_at o k) lemmas n.form (row (drawn_rank n)) (plainly step premises.Rank (Some n.number)) (each-hold (state_at o k) (drawn_ranked step lemmas) d.nodes a.place n a.listed (first-hold (state_at o k) ranks' (helps' ++ moves') (all k h).1.1)).0 (cited k h) holds in omega (arith, ints));
      helped = λ k h n a holds. entails-true (state_at o k) lemmas n.form (enabled_of system n.helper) (plainly step premises.Help (Some n.number)) (each-hold (state_at o k) (drawn_help step system lemmas) d.nodes a.place n a.listed (first-hold (state_at o k) helps' moves' (others-hold (state_at o k) ranks' (helps' ++ moves') (all k h).1.1))).0 (cited k h) holds;
      moves = rank-moves;
    })
