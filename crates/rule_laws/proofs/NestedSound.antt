-- The response of a nested net holds where its conditions do.
use Rattle.std.proofs.Common.{◌≡◌, ◌≢◌, ◌∙◌, sym, subst, refl, arith, ℕ, zero, suc, ◌+◌, ◌≤◌, Bool, true, false, not, ◌&&◌, ◌==◌, if◌then◌else◌, IsTrue, pos, ◌+ℤ◌, ◌≤ℤ◌, List, [], ◌∷◌, ◌++◌, length, map, slice_get, Option, Some, None, ◌⊎◌, inl, inr}
use Rattle.std.proofs.lemmas.Bool.{false≢true, and_parts}
use Rattle.std.proofs.lemmas.Bool.Decides.{eqb_tells}
use Rattle.std.proofs.lemmas.Option.{none-some}
use Rattle.std.proofs.lemmas.Int.{ints}
use Rattle.st_linear.specs.Linear.{Linear, value}
use Rattle.st_linear.specs.Simple.{lowered}
use Rattle.st_form.specs.Formula.{Formula, Situation, truth, some_truth, every, some, formulas}
use Rattle.vc_generator.specs.Building.{Draft, at_least, moved_of}
use Rattle.st_form.specs.declared.conditions.Premise.TheVariants as premises
use Rattle.observations.specs.Observation.{Observation, moment_at, state_at, last, IsTaken, IsJust, IsCompassionate}
use Rattle.observations.specs.Goals.{HoldsAt, Response}
use Rattle.observations.specs.RankedNet.{IsAmong, IfName}
use Rattle.observations.specs.NestedNet.{Level, NestedNode, upper, lower, AreRanked, SomeEnabled, Leads, Stays, IsOnNested, StartsBelowNested, NestedMove, AllGroups}
use Rattle.observations.specs.NestedNet.Leads.{Falls, Free, Under}
use Rattle.observations.specs.NestedNet.NestedMove.{To, Stay}
use Rattle.observations.proofs.NestedBound.{response_by_nested}
use Rattle.observations.proofs.Positions.{named_below}
use Rattle.transition_system.specs.Systems.{PlainMode, System}
use Rattle.transition_system.specs.Meaning.{IsRun, gone, enabled_in}
use Rattle.temporal_goals.specs.Texts.{PlainLevel, PlainNestedNode}
use Rattle.temporal_goals.specs.Meaning.{test_of, number_of}
use Rattle.vc_generator.specs.Atoms.{PlainCase}
use Rattle.vc_generator.specs.Validity.{HoldThroughout, TrueThroughout, AllTrueIn}
use Rattle.vc_generator.specs.Walks.{numbered_from, plainly, by_mode}
use Rattle.vc_generator.proofs.Truths.{either, true-every, some-true, SomeTrue}
use Rattle.vc_generator.proofs.Leading.{entails-true, moved-leads, CaseHolds, AllFall, at-least-true, at-least-both-true, lowered-value}
use Rattle.vc_generator.proofs.Walking.{mode-holds, numbered-hold, first-hold, others-hold}
use Rattle.vc_generator.proofs.Running.{step-at, enabled-at}
use Rattle.rule_laws.specs.Names.{is_name, enabled_of}
use Rattle.rule_laws.specs.RankedNet.{case_end, cases_if}
use Rattle.rule_laws.specs.NestedNet.{top_at, base_at, agree, none_of, pairs_below, group_at, agreeing, each_depth, nested_starts, ranked_forms, enabled_groups, nested_helped, nested_fall, nested_free, nested_stay, falls_at, frees_at, nested_cases, nested_rank, nested_help, nested_move, nested_list}
use Rattle.rule_fits.specs.Fitting.{fairness_of, LevelsFit, NestedFit}
use Rattle.rule_laws.proofs.Enabled.{enabled-among}
use Rattle.rule_laws.proofs.Among.{Among, among-next, among-split, among-map, map-among, among-single, among-if, other-name}
use Rattle.rule_laws.proofs.NetSound.{not-true, lower-by}

abbrev level_of : PlainLevel → Level Situation
level_of l = record { group = l.group; base = number_of l.base; top = number_of l.top }

abbrev nested_of : PlainNestedNode → NestedNode Situation
nested_of n = record { form = test_of n.form; levels = map level_of n.levels; delay = number_of n.delay; helper = n.helper }

on-nested : (nodes : List PlainNestedNode) (s : Situation) (n : PlainNestedNode) → Among nodes n → IsTrue (truth s n.form) → IsOnNested (map nested_of nodes) s (nested_of n)
on-nested nodes s n a h = record { place = a.place; listed = map-among nested_of nodes a.place n a.listed; holds = h }

equal-of : (a b : ℕ) → (a == b) ≡ true → a ≡ b
equal-of a b e = elim (eqb_tells a b) [ inl p ↦ p.1 | inr q ↦ absurd (false≢true (sym q.0 ∙ e)) ]

differ-of : (a b : ℕ) → (a == b) ≡ false → a ≢ b
differ-of a b e same = elim (eqb_tells a b) [ inl p ↦ false≢true (sym e ∙ p.0) | inr q ↦ q.1 same ]

agree-step : (g : ℕ) (x : PlainNestedNode) (xs : List PlainNestedNode) (ls : List PlainLevel) (j : PlainNestedNode) (b : Bool) → agree g ls x.levels ≡ b
    → ((i : ℕ) → slice_get (agreeing g ls xs) i ≡ Some j → Among xs j × IsTrue (agree g ls j.levels))
    → (i : ℕ) → slice_get (if b then x ∷ agreeing g ls xs else agreeing g ls xs) i ≡ Some j → Among (x ∷ xs) j × IsTrue (agree g ls j.levels)
agree-step g x xs ls j true same rest zero e = let is : x ≡ j = cc in (record { place = 0; listed = e }, subst (λ z. IsTrue (agree g ls z.levels)) is same)
agree-step g x xs ls j true same rest (suc i) e = let r = rest i e in (among-next x xs j r.0, r.1)
agree-step g x xs ls j false same rest i e = let r = rest i e in (among-next x xs j r.0, r.1)

agreeing-at : (k : ℕ) (ls : List PlainLevel) (js : List PlainNestedNode) (j : PlainNestedNode) (i : ℕ) → slice_get (agreeing k ls js) i ≡ Some j → Among js j × IsTrue (agree k ls j.levels)
agreeing-at k ls [] j i e = absurd (none-some j e)
agreeing-at k ls (x ∷ xs) j i e = agree-step k x xs ls j (agree k ls x.levels) refl (agreeing-at k ls xs j) i e

among-depth : (f : ℕ → List PlainCase) (k n : ℕ) (c : PlainCase) → Among (each_depth f k n) c → (d : ℕ) × Among (f d) c
among-depth f k zero c a = absurd (none-some c a.listed)
among-depth f k (suc n) c a = elim (among-split (f k) (each_depth f (k + 1) n) c a) [ inl here ↦ (k, here) | inr later ↦ among-depth f (k + 1) n c later ]

module _ (system : System) (number : ℕ) (m : PlainMode) (s : Situation) where
  abbrev Goes-to : List PlainLevel → Linear → List PlainLevel → Linear → Type 0
  Goes-to ls d ms e = Leads (enabled_in system s) number s (gone m s) (map level_of ls) (number_of d) (map level_of ms) (number_of e)

  upper-is : (ms : List PlainLevel) (e : Linear) → upper (map level_of ms) (number_of e) (gone m s) ≡ value (gone m s).numbers (top_at 0 ms e)
  upper-is [] e = refl
  upper-is (l ∷ ms) e = refl

  lower-is : (ls : List PlainLevel) (d : Linear) → lower (map level_of ls) (number_of d) s ≡ value s.numbers (base_at 0 ls d)
  lower-is [] d = refl
  lower-is (l ∷ ls) d = refl

  -- a fall at a depth
  falls-lead : (k : ℕ) (ls ms : List PlainLevel) (d e : Linear) → IsTrue (agree k ls ms) → IsTrue (none_of number k ls) → (value (gone m s).numbers (top_at k ms e) +ℤ pos 1) ≤ℤ value s.numbers (base_at k ls d) → AllFall m s (pairs_below k ls ms) → Goes-to ls d ms e
  falls-lead zero ls ms d e same none falls pairs =
      Falls (let up = upper-is ms e in let low = lower-is ls d in rw (up, low) falls)
  falls-lead (suc k) [] ms d e same none falls pairs = absurd (false≢true same)
  falls-lead (suc k) (l ∷ ls) [] d e same none falls pairs = absurd (false≢true same)
  falls-lead (suc k) (l ∷ ls) (n ∷ ms) d e same none falls pairs =
      let parts = and_parts (n.group == l.group) (agree k ls ms) same in
      let others = and_parts (not (l.group == number)) (none_of number k ls) none in
      Under (equal-of n.group l.group parts.0) (differ-of l.group number (not-true (l.group == number) others.0)) pairs.0 pairs.1.0 (falls-lead k ls ms d e parts.1 others.1 falls pairs.1.1)

  -- a free step at a depth
  free-leads : (k : ℕ) (ls ms : List PlainLevel) (d e : Linear) → IsTrue (agree (suc k) ls ms) → IsTrue (none_of number (suc k) ls) → IsAmong (group_at k ls) (enabled_in system s) → AllFall m s (pairs_below (suc k) ls ms) → Goes-to ls d ms e
  free-leads k [] ms d e same none on pairs = absurd (false≢true same)
  free-leads k (l ∷ ls) [] d e same none on pairs = absurd (false≢true same)
  free-leads zero (l ∷ ls) (n ∷ ms) d e same none on pairs =
      let parts = and_parts (n.group == l.group) (agree 0 ls ms) same in
      let others = and_parts (not (l.group == number)) (none_of number 0 ls) none in
      Free (equal-of n.group l.group parts.0) (differ-of l.group number (not-true (l.group == number) others.0)) on pairs.0 pairs.1.0
  free-leads (suc k) (l ∷ ls) (n ∷ ms) d e same none on pairs =
      let parts = and_parts (n.group == l.group) (agree (suc k) ls ms) same in
      let others = and_parts (not (l.group == number)) (none_of number (suc k) ls) none in
      Under (equal-of n.group l.group parts.0) (differ-of l.group number (not-true (l.group == number) others.0)) pairs.0 pairs.1.0 (free-leads k ls ms d e parts.1 others.1 on pairs.1.1)

  -- a stay
  stay-keeps : (ls : List PlainLevel) (d : Linear) → IsTrue (none_of number (length ls) ls) → value (gone m s).numbers d ≤ℤ value s.numbers d → AllFall m s (pairs_below (length ls) ls ls) → Stays number s (gone m s) (map level_of ls) (number_of d)
  stay-keeps [] d none delay pairs = delay
  stay-keeps (l ∷ ls) d none delay pairs =
      let others = and_parts (not (l.group == number)) (none_of number (length ls) ls) none in
      (differ-of l.group number (not-true (l.group == number) others.0), pairs.0, pairs.1.0, stay-keeps ls d others.1 delay pairs.1.1)

-- a case of a step is a move
module _ (system : System) (nodes : List PlainNestedNode) (q : Formula) (n : PlainNestedNode) (here : Among nodes n) (number : ℕ) (m : PlainMode) (s : Situation) where
  abbrev NestedLeads : Type 0
  NestedLeads = IsTrue (truth (gone m s) q) ⊎ NestedMove (map nested_of nodes) (enabled_in system s) number (nested_of n) s (gone m s)

  fall-case : (c : PlainCase) → CaseHolds m s c → (k : ℕ) → Among (falls_at nodes n number k) c → NestedLeads
  fall-case c holds k a =
      let test = among-if (none_of number k n.levels) (map (nested_fall k n) (agreeing k n.levels nodes)) c a in
      let found = among-map (nested_fall k n) (agreeing k n.levels nodes) c test.1 in
      let it = subst (CaseHolds m s) (sym found.is) holds in
      let to = agreeing-at k n.levels nodes found.item found.among.place found.among.listed in
      inr (To (nested_of found.item) (on-nested nodes (gone m s) found.item to.0 it.behind)
      (falls-lead system number m s k n.levels found.item.levels n.delay found.item.delay to.1 test.0 (lower-by m s (top_at k found.item.levels found.item.delay) (base_at k n.levels n.delay) it.falls.0) it.falls.1))

  group-among : (o : Option ℕ) → IsTrue (truth s (enabled_of system o)) → IsAmong o (enabled_in system s)
  group-among o h = enabled-among s system o h

  free-case : (c : PlainCase) → CaseHolds m s c → (k : ℕ) → Among (frees_at system nodes n number k) c → NestedLeads
  free-case c holds k a =
      let test = among-if (none_of number (suc k) n.levels) (map (nested_free system k n) (agreeing (suc k) n.levels nodes)) c a in
      let found = among-map (nested_free system k n) (agreeing (suc k) n.levels nodes) c test.1 in
      let it = subst (CaseHolds m s) (sym found.is) holds in
      let to = agreeing-at (suc k) n.levels nodes found.item found.among.place found.among.listed in
      inr (To (nested_of found.item) (on-nested nodes (gone m s) found.item to.0 it.behind)
      (free-leads system number m s k n.levels found.item.levels n.delay found.item.delay to.1 test.0 (enabled-among s system (group_at k n.levels) it.now) it.falls))

  abbrev stays : List PlainCase
  stays = cases_if (none_of number (length n.levels) n.levels && not (is_name n.helper number)) (nested_stay n ∷ [])

  stay-case : (c : PlainCase) → CaseHolds m s c → Among stays c → NestedLeads
  stay-case c holds a =
      let test = among-if (none_of number (length n.levels) n.levels && not (is_name n.helper number)) (nested_stay n ∷ []) c a in
      let it = subst (CaseHolds m s) (sym (among-single (nested_stay n) c test.1)) holds in
      let tests = and_parts (none_of number (length n.levels) n.levels) (not (is_name n.helper number)) test.0 in
      inr (Stay (on-nested nodes (gone m s) n here it.behind) (other-name n.helper number (not-true (is_name n.helper number) tests.1)) (stay-keeps system number m s n.levels n.delay tests.0 it.falls.0 it.falls.1))

  nested-leads : (c : PlainCase) → CaseHolds m s c → Among (nested_cases system nodes q n number) c → NestedLeads
  nested-leads c holds a =
      elim (among-split (case_end q ∷ []) (each_depth (falls_at nodes n number) 0 (suc (length n.levels)) ++ (each_depth (frees_at system nodes n number) 0 (length n.levels) ++ stays)) c a) [
        | inl ends ↦ inl (subst (CaseHolds m s) (sym (among-single (case_end q) c ends)) holds).behind
        | inr a1 ↦ elim (among-split (each_depth (falls_at nodes n number) 0 (suc (length n.levels))) (each_depth (frees_at system nodes n number) 0 (length n.levels) ++ stays) c a1) [
          | inl falls ↦ (let r = among-depth (falls_at nodes n number) 0 (suc (length n.levels)) c falls in fall-case c holds r.0 r.1)
          | inr a2 ↦ elim (among-split (each_depth (frees_at system nodes n number) 0 (length n.levels)) stays c a2) [
            | inl frees ↦ (let r = among-depth (frees_at system nodes n number) 0 (length n.levels) c frees in free-case c holds r.0 r.1)
            | inr stayed ↦ stay-case c holds stayed
          ]
        ]
      ]

ranked-levels : (s : Situation) (ls : List PlainLevel) (d : Linear) → AllTrueIn (ranked_forms ls d) s → AreRanked (map level_of ls) (number_of d) s
ranked-levels s [] d all = let delay = all.0 in omega (arith, ints)
ranked-levels s (l ∷ ls) d all =
    let base : pos 0 ≤ℤ value s.numbers l.base = (let b = all.0 in omega (arith, ints)) in
    let fits = at-least-both-true s l.top l.base (top_at 0 ls d) all.1.0 in
    let up = upper-of s ls d in
    (base, rw up fits, ranked-levels s ls d all.1.1)
  where
    upper-of : (s : Situation) (ls : List PlainLevel) (d : Linear) → upper (map level_of ls) (number_of d) s ≡ value s.numbers (top_at 0 ls d)
    upper-of s [] d = refl
    upper-of s (l ∷ ls) d = refl

groups-enabled : (s : Situation) (system : System) (ls : List PlainLevel) → IsTrue (some_truth s (formulas (enabled_groups system ls))) → SomeEnabled (map level_of ls) (enabled_in system s)
groups-enabled s system [] h = absurd (false≢true h)
groups-enabled s system (l ∷ ls) h = elim (either (truth s (enabled_of system (Some l.group))) (some_truth s (formulas (enabled_groups system ls))) h) [
  | inl here ↦ inl (enabled-among s system (Some l.group) here)
  | inr later ↦ inr (groups-enabled s system ls later)
]

levels-fit : (system : System) (ls : List PlainLevel) → LevelsFit system ls → AllGroups (IsCompassionate (fairness_of system)) (map level_of ls)
levels-fit system [] fit = tt
levels-fit system (l ∷ ls) fit = (fit.0, levels-fit system ls fit.1)

nested-fits : (system : System) (nodes : List PlainNestedNode) → NestedFit system nodes → (i : ℕ) (n : PlainNestedNode) → slice_get nodes i ≡ Some n → IfName (IsJust (fairness_of system)) n.helper × LevelsFit system n.levels
nested-fits system [] fit i n e = absurd (none-some n e)
nested-fits system (x ∷ xs) fit zero n e = let same : x ≡ n = cc in subst (λ z. IfName (IsJust (fairness_of system)) z.helper × LevelsFit system z.levels) same fit.0
nested-fits system (x ∷ xs) fit (suc i) n e = nested-fits system xs fit.1 i n e

module _ (step : ℕ) (system : System) (lemmas : List Formula) (o : Observation Situation) (run : IsRun system o) (cited : TrueThroughout lemmas o) (nodes : List PlainNestedNode) (fit : NestedFit system nodes) (p q : Formula) (e : Linear)
    (all : HoldThroughout (nested_list step system lemmas p q e nodes) o) where
  abbrev ranks : List Draft
  ranks = numbered_from (nested_rank step lemmas) 0 nodes

  abbrev helps : List Draft
  helps = numbered_from (nested_help step system lemmas) 0 nodes

  abbrev moves : List Draft
  moves = numbered_from (nested_move step system lemmas nodes q) 0 nodes

  seen : (s : Situation) (n : NestedNode Situation) → IsOnNested (map nested_of nodes) s n → (x : PlainNestedNode) × Among nodes x × IsTrue (truth s x.form) × (nested_of x ≡ n)
  seen s n on =
      let found = among-map nested_of nodes n (record { place = on.place; listed = on.listed }) in
      (found.item, found.among, subst (λ z. IsTrue (z.form s)) (sym found.is) on.holds, found.is)

  cover-start : (k : ℕ) → IsTrue (truth (state_at o k) q) ⊎ SomeTrue (state_at o k) (map (nested_starts e) nodes) → HoldsAt (test_of q) o k ⊎ StartsBelowNested (map nested_of nodes) (state_at o k) (number_of e (state_at o k))
  cover-start k (inl now) = inl now
  cover-start k (inr some') =
      let s = state_at o k in
      let found = among-map (nested_starts e) nodes some'.form (record { place = some'.place; listed = some'.listed }) in
      let parts = true-every s (found.item.form ∷ at_least (lowered e) (top_at 0 found.item.levels found.item.delay) ∷ []) (subst (λ f. IsTrue (truth s f)) (sym found.is) some'.holds) in
      let least = at-least-true s (lowered e) (top_at 0 found.item.levels found.item.delay) parts.1.0 in
      let is = lowered-value s e in
      let up = upper-at s found.item.levels found.item.delay in
      inr (record { node = nested_of found.item; is_on = on-nested nodes s found.item found.among parts.0; below = omega (arith, ints) })
    where
      upper-at : (s : Situation) (ls : List PlainLevel) (d : Linear) → upper (map level_of ls) (number_of d) s ≡ value s.numbers (top_at 0 ls d)
      upper-at s [] d = refl
      upper-at s (l ∷ ls) d = refl

  cover-at : (k : ℕ) → k ≤ last o → HoldsAt (test_of p) o k → HoldsAt (test_of q) o k ⊎ StartsBelowNested (map nested_of nodes) (state_at o k) (number_of e (state_at o k))
  cover-at k h holds =
      let s = state_at o k in
      let shown = entails-true s lemmas p (some (formulas (q ∷ map (nested_starts e) nodes))) (plainly step premises.Cover None) (all k h).0 (cited k h) holds in
      elim (either (truth s q) (some_truth s (formulas (map (nested_starts e) nodes))) shown) [
        | inl now ↦ cover-start k (inl now)
        | inr later ↦ cover-start k (inr (some-true s (map (nested_starts e) nodes) later))
      ]

  rank-at : (k : ℕ) → k ≤ last o → (n : NestedNode Situation) → IsOnNested (map nested_of nodes) (state_at o k) n → AreRanked n.levels n.delay (state_at o k)
  rank-at k h n on =
      let s = state_at o k in
      let x = seen s n on in
      let claim = numbered-hold s (nested_rank step lemmas) 0 nodes x.1.place x.0 x.1.listed (first-hold s ranks (helps ++ moves) (all k h).1) in
      let parts = true-every s (ranked_forms x.0.levels x.0.delay) (entails-true s lemmas x.0.form (every (formulas (ranked_forms x.0.levels x.0.delay))) (plainly step premises.Rank (Some (0 + x.1.place))) claim.0 (cited k h) x.2) in
      subst (λ z. AreRanked z.levels z.delay s) x.3 (ranked-levels s x.0.levels x.0.delay parts)

  help-at : (k : ℕ) → k ≤ last o → (n : NestedNode Situation) → IsOnNested (map nested_of nodes) (state_at o k) n → IsAmong n.helper (moment_at o k).enabled ⊎ SomeEnabled n.levels (moment_at o k).enabled
  help-at k h n on =
      let s = state_at o k in
      let x = seen s n on in
      let claim = numbered-hold s (nested_help step system lemmas) 0 nodes x.1.place x.0 x.1.listed (first-hold s helps moves (others-hold s ranks (helps ++ moves) (all k h).1)) in
      let shown = entails-true s lemmas x.0.form (nested_helped system x.0) (plainly step premises.Help (Some (0 + x.1.place))) claim.0 (cited k h) x.2 in
      let helped : IsAmong x.0.helper (enabled_in system s) ⊎ SomeEnabled (map level_of x.0.levels) (enabled_in system s) = elim (either (truth s (enabled_of system x.0.helper)) (some_truth s (formulas (enabled_groups system x.0.levels))) shown) [
        | inl a ↦ inl (enabled-among s system x.0.helper a)
        | inr b ↦ inr (groups-enabled s system x.0.levels b)
      ] in
      subst (λ z. IsAmong z.helper (moment_at o k).enabled ⊎ SomeEnabled z.levels (moment_at o k).enabled) x.3
      (subst (λ en. IsAmong x.0.helper en ⊎ SomeEnabled (map level_of x.0.levels) en) (sym (enabled-at system o k run)) helped)

  move-at : (k name : ℕ) → IsTaken o name k → (n : NestedNode Situation) → IsOnNested (map nested_of nodes) (state_at o k) n
      → HoldsAt (test_of q) o (suc k) ⊎ NestedMove (map nested_of nodes) (moment_at o k).enabled name n (state_at o k) (state_at o (suc k))
  move-at k name taken n on =
      let s = state_at o k in
      let below = named_below o.later k name taken in
      let h : k ≤ last o = omega arith in
      let x = seen s n on in
      let went = step-at system o k name run taken in
      let own = numbered-hold s (nested_move step system lemmas nodes q) 0 nodes x.1.place x.0 x.1.listed (others-hold s helps moves (others-hold s ranks (helps ++ moves) (all k h).1)) in
      let claim = mode-holds s (λ number t j m. moved_of m lemmas x.0.form (nested_cases system nodes q x.0 number) (by_mode step premises.Move (Some (0 + x.1.place)) t.name j) ∷ []) system name went.place went.transition went.mode went.numbered went.placed own in
      let case = moved-leads went.mode s lemmas x.0.form (nested_cases system nodes q x.0 name) (by_mode step premises.Move (Some (0 + x.1.place)) went.transition.name (1 + went.place)) claim.0 (cited k h) x.2 went.goes in
      let leads = nested-leads system nodes q x.0 x.1 name went.mode s case.case case.holds (record { place = case.place; listed = case.listed }) in
      subst (λ z. HoldsAt (test_of q) o (suc k) ⊎ NestedMove (map nested_of nodes) (moment_at o k).enabled name z s (state_at o (suc k))) x.3
      (subst (λ en. HoldsAt (test_of q) o (suc k) ⊎ NestedMove (map nested_of nodes) en name (nested_of x.0) s (state_at o (suc k))) (sym (enabled-at system o k run))
      (subst (λ t. IsTrue (truth t q) ⊎ NestedMove (map nested_of nodes) (enabled_in system s) name (nested_of x.0) s t) (sym went.leads) leads))

  fits-at : (i : ℕ) (n : NestedNode Situation) → slice_get (map nested_of nodes) i ≡ Some n → IfName (IsJust o.fairness) n.helper × AllGroups (IsCompassionate o.fairness) n.levels
  fits-at i n listed =
      let found = among-map nested_of nodes n (record { place = i; listed = listed }) in
      let node = nested-fits system nodes fit found.among.place found.item found.among.listed in
      subst (λ z. IfName (IsJust o.fairness) z.helper × AllGroups (IsCompassionate o.fairness) z.levels) found.is
      (subst (λ names. IfName (IsJust names) found.item.helper × AllGroups (IsCompassionate names) (map level_of found.item.levels)) (sym run.observed.fairness) (node.0, levels-fit system found.item.levels node.1))

  -- the response holds where the conditions do
  pub nested-sound : Response (test_of p) (test_of q) (number_of e) o
  nested-sound = response_by_nested (map nested_of nodes) (test_of p) (test_of q) (number_of e) o (record {
    cover = cover-at;
    rank = rank-at;
    help = help-at;
    move = move-at;
    helpers = λ i n listed. (fits-at i n listed).0;
    groups = λ i n listed. (fits-at i n listed).1;
  })
