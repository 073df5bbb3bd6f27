-- The response of a ranked net holds where its conditions do.
use Rattle.std.proofs.Common.{◌≡◌, ◌≢◌, sym, subst, refl, arith, ℕ, zero, suc, ◌+◌, ◌≤◌, Bool, true, false, not, ◌&&◌, ◌||◌, IsTrue, pos, ◌+ℤ◌, ◌≤ℤ◌, List, [], ◌∷◌, ◌++◌, map, slice_get, Some, None, is_some, ◌⊎◌, inl, inr}
use Rattle.std.proofs.lemmas.Bool.{false≢true, and_parts}
use Rattle.std.proofs.lemmas.Option.{none-some}
use Rattle.std.proofs.lemmas.Int.{ints}
use Rattle.st_linear.specs.Linear.{Linear, value}
use Rattle.st_linear.specs.Simple.{lowered}
use Rattle.st_form.specs.Formula.{Formula, Situation, truth, some_truth, row, some, formulas}
use Rattle.vc_generator.specs.Building.{Draft, at_least, at_least_both, moved_of}
use Rattle.st_form.specs.declared.conditions.Premise.TheVariants.{Cover, Rank, Help}
use Rattle.st_form.specs.declared.conditions.Premise.TheVariants as premises
use Rattle.observations.specs.Observation.{Observation, moment_at, state_at, last, IsTaken, IsJust, IsCompassionate}
use Rattle.observations.specs.Goals.{HoldsAt, Response}
use Rattle.observations.specs.RankedNet.{Node, IsListed, IfName, IsOn, StartsBelow, IsRanked, IsHelped, Keeps, Move}
use Rattle.observations.specs.RankedNet.Move.{Drop, Free, Inner, Stay}
use Rattle.observations.proofs.NetBound.{response_by_net}
use Rattle.observations.proofs.Positions.{named_below}
use Rattle.transition_system.specs.Systems.{PlainMode, System}
use Rattle.transition_system.specs.Meaning.{IsRun, gone, enabled_in}
use Rattle.temporal_goals.specs.Texts.{PlainNode}
use Rattle.temporal_goals.specs.Meaning.{test_of, number_of}
use Rattle.vc_generator.specs.Atoms.{PlainCase}
use Rattle.vc_generator.specs.Validity.{HoldThroughout, TrueThroughout}
use Rattle.vc_generator.specs.Walks.{numbered_from, plainly, by_mode}
use Rattle.vc_generator.proofs.Truths.{either, true-every, some-true, SomeTrue}
use Rattle.vc_generator.proofs.Leading.{entails-true, moved-leads, CaseHolds, AllFall, at-least-true, at-least-both-true, lowered-value}
use Rattle.vc_generator.proofs.Walking.{mode-holds, numbered-hold, first-hold, others-hold}
use Rattle.vc_generator.proofs.Running.{step-at, enabled-at}
use Rattle.rule_laws.specs.Names.{is_name, enabled_of}
use Rattle.rule_laws.specs.RankedNet.{starts_on, ranked_form, helped_form, kept_pairs, case_end, case_drop, case_free, case_inner, case_stay, grouped, cases_if, net_cases, rank_of, help_of, move_of, ranked_list}
use Rattle.rule_fits.specs.Fitting.{NodeFits, NodesFit}
use Rattle.rule_laws.proofs.Enabled.{enabled-among}
use Rattle.rule_laws.proofs.Among.{Among, among-split, among-map, map-among, among-single, among-if, other-name, among-grouped}

pub not-true : (b : Bool) → IsTrue (not b) → b ≡ false
not-true true h = absurd (false≢true h)
not-true false h = refl

abbrev node_of : PlainNode → Node Situation
node_of n = record { form = test_of n.form; base = number_of n.base; delay = number_of n.delay; top = number_of n.top; group = n.group; helper = n.helper }

on-node : (nodes : List PlainNode) (s : Situation) (n : PlainNode) → Among nodes n → IsTrue (truth s n.form) → IsOn (map node_of nodes) s (node_of n)
on-node nodes s n a h = record { listed = (a.place, map-among node_of nodes a.place n a.listed); holds = h }

kept-pairs : (m : PlainMode) (s : Situation) (n j : PlainNode) → AllFall m s (kept_pairs n j) → Keeps (node_of n) (node_of j) s (gone m s)
kept-pairs m s n j falls = record { base = falls.0; top = falls.1.0 }

pub lower-by : (m : PlainMode) (s : Situation) (f g : Linear) → value (gone m s).numbers f ≤ℤ value s.numbers (lowered g) → (value (gone m s).numbers f +ℤ pos 1) ≤ℤ value s.numbers g
lower-by m s f g falls = let is = lowered-value s g in omega (arith, ints)

fits-listed : (system : System) (nodes : List PlainNode) → NodesFit system nodes → (i : ℕ) (n : PlainNode) → slice_get nodes i ≡ Some n → NodeFits system n.helper n.group
fits-listed system [] fit i n e = absurd (none-some n e)
fits-listed system (x ∷ xs) fit zero n e = let same : x ≡ n = cc in subst (λ z. NodeFits system z.helper z.group) same fit.0
fits-listed system (x ∷ xs) fit (suc i) n e = fits-listed system xs fit.1 i n e

-- a case of a step is a move
module _ (system : System) (nodes : List PlainNode) (q : Formula) (n : PlainNode) (here : Among nodes n) (number : ℕ) (m : PlainMode) (s : Situation) where
  abbrev Leads : Type 0
  Leads = IsTrue (truth (gone m s) q) ⊎ Move (map node_of nodes) (enabled_in system s) number (node_of n) s (gone m s)

  other-group : IsTrue (not (is_name n.group number)) → n.group ≢ Some number
  other-group h = other-name n.group number (not-true (is_name n.group number) h)

  drop-case : (c : PlainCase) → CaseHolds m s c → Among (map (case_drop n) nodes) c → Leads
  drop-case c holds a =
      let found = among-map (case_drop n) nodes c a in
      let it = subst (CaseHolds m s) (sym found.is) holds in
      inr (Drop (node_of found.item) (on-node nodes (gone m s) found.item found.among it.behind) (lower-by m s found.item.top n.base it.falls.0))

  free-case : (c : PlainCase) → CaseHolds m s c → IsTrue (is_some n.group && not (is_name n.group number)) → Among (map (case_free system n) (grouped n.group nodes)) c → Leads
  free-case c holds test a =
      let found = among-map (case_free system n) (grouped n.group nodes) c a in
      let it = subst (CaseHolds m s) (sym found.is) holds in
      let group = among-grouped n.group nodes found.item found.among in
      inr (Free (node_of found.item) (on-node nodes (gone m s) found.item group.0 it.behind) (sym group.1) (other-group (and_parts (is_some n.group) (not (is_name n.group number)) test).1)
      (enabled-among s system n.group it.now) (kept-pairs m s n found.item it.falls))

  inner-case : (c : PlainCase) → CaseHolds m s c → IsTrue (not (is_name n.group number)) → Among (map (case_inner n) (grouped n.group nodes)) c → Leads
  inner-case c holds test a =
      let found = among-map (case_inner n) (grouped n.group nodes) c a in
      let it = subst (CaseHolds m s) (sym found.is) holds in
      let group = among-grouped n.group nodes found.item found.among in
      inr (Inner (node_of found.item) (on-node nodes (gone m s) found.item group.0 it.behind) (sym group.1) (other-group test) (lower-by m s found.item.delay n.delay it.falls.0) (kept-pairs m s n found.item it.falls.1))

  stay-case : (c : PlainCase) → CaseHolds m s c → IsTrue (not (is_name n.group number) && not (is_name n.helper number)) → Among (case_stay n ∷ []) c → Leads
  stay-case c holds test a =
      let it = subst (CaseHolds m s) (sym (among-single (case_stay n) c a)) holds in
      let tests = and_parts (not (is_name n.group number)) (not (is_name n.helper number)) test in
      inr (Stay (on-node nodes (gone m s) n here it.behind) (other-group tests.0) (other-name n.helper number (not-true (is_name n.helper number) tests.1)) it.falls.0 (kept-pairs m s n n it.falls.1))

  abbrev drops : List PlainCase
  drops = map (case_drop n) nodes

  abbrev frees : List PlainCase
  frees = cases_if (is_some n.group && not (is_name n.group number)) (map (case_free system n) (grouped n.group nodes))

  abbrev inners : List PlainCase
  inners = cases_if (not (is_name n.group number)) (map (case_inner n) (grouped n.group nodes))

  abbrev stays : List PlainCase
  stays = cases_if (not (is_name n.group number) && not (is_name n.helper number)) (case_stay n ∷ [])

  case-leads : (c : PlainCase) → CaseHolds m s c → Among (net_cases system nodes q n number) c → Leads
  case-leads c holds a =
      elim (among-split (case_end q ∷ []) (drops ++ (frees ++ (inners ++ stays))) c a) [
        | inl ends ↦ inl (subst (CaseHolds m s) (sym (among-single (case_end q) c ends)) holds).behind
        | inr a1 ↦ elim (among-split drops (frees ++ (inners ++ stays)) c a1) [
          | inl dropped ↦ drop-case c holds dropped
          | inr a2 ↦ elim (among-split frees (inners ++ stays) c a2) [
            | inl free ↦ (let r = among-if (is_some n.group && not (is_name n.group number)) (map (case_free system n) (grouped n.group nodes)) c free in free-case c holds r.0 r.1)
            | inr a3 ↦ elim (among-split inners stays c a3) [
              | inl inside ↦ (let r = among-if (not (is_name n.group number)) (map (case_inner n) (grouped n.group nodes)) c inside in inner-case c holds r.0 r.1)
              | inr stayed ↦ (let r = among-if (not (is_name n.group number) && not (is_name n.helper number)) (case_stay n ∷ []) c stayed in stay-case c holds r.0 r.1)
            ]
          ]
        ]
      ]

-- the response holds where the conditions do
module _ (step : ℕ) (system : System) (lemmas : List Formula) (o : Observation Situation) (run : IsRun system o) (cited : TrueThroughout lemmas o) (nodes : List PlainNode) (fit : NodesFit system nodes) (p q : Formula) (e : Linear)
    (all : HoldThroughout (ranked_list step system lemmas p q e nodes) o) where
  abbrev ranks : List Draft
  ranks = numbered_from (rank_of step lemmas) 0 nodes

  abbrev helps : List Draft
  helps = numbered_from (help_of step system lemmas) 0 nodes

  abbrev moves : List Draft
  moves = numbered_from (move_of step system lemmas nodes q) 0 nodes

  -- the node of the net that an observed node is
  seen : (s : Situation) (n : Node Situation) → IsOn (map node_of nodes) s n → (x : PlainNode) × Among nodes x × IsTrue (truth s x.form) × (node_of x ≡ n)
  seen s n on =
      let found = among-map node_of nodes n (record { place = on.listed.0; listed = on.listed.1 }) in
      (found.item, found.among, subst (λ z. IsTrue (z.form s)) (sym found.is) on.holds, found.is)

  cover-start : (k : ℕ) → IsTrue (truth (state_at o k) q) ⊎ SomeTrue (state_at o k) (map (starts_on e) nodes) → HoldsAt (test_of q) o k ⊎ StartsBelow (map node_of nodes) (state_at o k) (number_of e (state_at o k))
  cover-start k (inl now) = inl now
  cover-start k (inr some') =
      let s = state_at o k in
      let found = among-map (starts_on e) nodes some'.form (record { place = some'.place; listed = some'.listed }) in
      let parts = true-every s (found.item.form ∷ at_least (lowered e) found.item.top ∷ []) (subst (λ f. IsTrue (truth s f)) (sym found.is) some'.holds) in
      let least = at-least-true s (lowered e) found.item.top parts.1.0 in
      let is = lowered-value s e in
      inr (record { node = node_of found.item; is_on = on-node nodes s found.item found.among parts.0; below = omega (arith, ints) })

  cover-at : (k : ℕ) → k ≤ last o → HoldsAt (test_of p) o k → HoldsAt (test_of q) o k ⊎ StartsBelow (map node_of nodes) (state_at o k) (number_of e (state_at o k))
  cover-at k h holds =
      let s = state_at o k in
      let shown = entails-true s lemmas p (some (formulas (q ∷ map (starts_on e) nodes))) (plainly step Cover None) (all k h).0 (cited k h) holds in
      elim (either (truth s q) (some_truth s (formulas (map (starts_on e) nodes))) shown) [
        | inl now ↦ cover-start k (inl now)
        | inr later ↦ cover-start k (inr (some-true s (map (starts_on e) nodes) later))
      ]

  rank-at : (k : ℕ) → k ≤ last o → (n : Node Situation) → IsOn (map node_of nodes) (state_at o k) n → IsRanked n (state_at o k)
  rank-at k h n on =
      let s = state_at o k in
      let x = seen s n on in
      let claim = numbered-hold s (rank_of step lemmas) 0 nodes x.1.place x.0 x.1.listed (first-hold s ranks (helps ++ moves) (all k h).1) in
      let parts = true-every s (row x.0.base ∷ row x.0.delay ∷ at_least_both x.0.top x.0.base x.0.delay ∷ []) (entails-true s lemmas x.0.form (ranked_form x.0) (plainly step Rank (Some (0 + x.1.place))) claim.0 (cited k h) x.2) in
      let top = at-least-both-true s x.0.top x.0.base x.0.delay parts.1.1.0 in
      let base : pos 0 ≤ℤ value s.numbers x.0.base = (let b = parts.0 in omega (arith, ints)) in
      let delay : pos 0 ≤ℤ value s.numbers x.0.delay = (let d = parts.1.0 in omega (arith, ints)) in
      subst (λ z. IsRanked z s) x.3 (record { base = base; delay = delay; top = top })

  help-at : (k : ℕ) → k ≤ last o → (n : Node Situation) → IsOn (map node_of nodes) (state_at o k) n → IsHelped n (moment_at o k).enabled
  help-at k h n on =
      let s = state_at o k in
      let x = seen s n on in
      let claim = numbered-hold s (help_of step system lemmas) 0 nodes x.1.place x.0 x.1.listed (first-hold s helps moves (others-hold s ranks (helps ++ moves) (all k h).1)) in
      let shown = entails-true s lemmas x.0.form (helped_form system x.0) (plainly step Help (Some (0 + x.1.place))) claim.0 (cited k h) x.2 in
      let helped : IsHelped (node_of x.0) (enabled_in system s) = elim (either (truth s (enabled_of system x.0.helper)) (truth s (enabled_of system x.0.group) || false) shown) [
        | inl a ↦ inl (enabled-among s system x.0.helper a)
        | inr b ↦ elim (either (truth s (enabled_of system x.0.group)) false b) [ inl g ↦ inr (enabled-among s system x.0.group g) | inr never ↦ absurd (false≢true never) ]
      ] in
      subst (λ z. IsHelped z (moment_at o k).enabled) x.3 (subst (λ en. IsHelped (node_of x.0) en) (sym (enabled-at system o k run)) helped)

  move-at : (k name : ℕ) → IsTaken o name k → (n : Node Situation) → IsOn (map node_of nodes) (state_at o k) n
      → HoldsAt (test_of q) o (suc k) ⊎ Move (map node_of nodes) (moment_at o k).enabled name n (state_at o k) (state_at o (suc k))
  move-at k name taken n on =
      let s = state_at o k in
      let below = named_below o.later k name taken in
      let h : k ≤ last o = omega arith in
      let x = seen s n on in
      let went = step-at system o k name run taken in
      let own = numbered-hold s (move_of step system lemmas nodes q) 0 nodes x.1.place x.0 x.1.listed (others-hold s helps moves (others-hold s ranks (helps ++ moves) (all k h).1)) in
      let claim = mode-holds s (λ number t j m. moved_of m lemmas x.0.form (net_cases system nodes q x.0 number) (by_mode step premises.Move (Some (0 + x.1.place)) t.name j) ∷ []) system name went.place went.transition went.mode went.numbered went.placed own in
      let case = moved-leads went.mode s lemmas x.0.form (net_cases system nodes q x.0 name) (by_mode step premises.Move (Some (0 + x.1.place)) went.transition.name (1 + went.place)) claim.0 (cited k h) x.2 went.goes in
      let leads = case-leads system nodes q x.0 x.1 name went.mode s case.case case.holds (record { place = case.place; listed = case.listed }) in
      subst (λ z. HoldsAt (test_of q) o (suc k) ⊎ Move (map node_of nodes) (moment_at o k).enabled name z s (state_at o (suc k))) x.3
      (subst (λ en. HoldsAt (test_of q) o (suc k) ⊎ Move (map node_of nodes) en name (node_of x.0) s (state_at o (suc k))) (sym (enabled-at system o k run))
      (subst (λ t. IsTrue (truth t q) ⊎ Move (map node_of nodes) (enabled_in system s) name (node_of x.0) s t) (sym went.leads) leads))

  fits-at : (n : Node Situation) → IsListed (map node_of nodes) n → IfName (IsJust o.fairness) n.helper × IfName (IsCompassionate o.fairness) n.group
  fits-at n listed =
      let found = among-map node_of nodes n (record { place = listed.0; listed = listed.1 }) in
      let node = fits-listed system nodes fit found.among.place found.item found.among.listed in
      subst (λ z. IfName (IsJust o.fairness) z.helper × IfName (IsCompassionate o.fairness) z.group) found.is
      (subst (λ names. IfName (IsJust names) found.item.helper × IfName (IsCompassionate names) found.item.group) (sym run.observed.fairness) (node.just, node.compassionate))

  pub ranked-sound : Response (test_of p) (test_of q) (number_of e) o
  ranked-sound = response_by_net (map node_of nodes) (test_of p) (test_of q) (number_of e) o (record {
    cover = cover-at;
    rank = rank-at;
    help = help-at;
    move = move-at;
    helpers = λ n listed. (fits-at n listed).0;
    groups = λ n listed. (fits-at n listed).1;
  })
