-- What a condition about a mode says of a step by that mode.
use Rattle.std.proofs.Common.{arith, ◌≡◌, ◌∙◌, ap, sym, subst, refl, ℕ, suc, true, false, ◌||◌, IsTrue, pos, ◌≤ℤ◌, List, [], ◌∷◌, ◌++◌, map, slice_get, Option, Some, None, unwrap_or, ◌⊎◌, inl, inr, ◌+ℤ◌, neg_ℤ, negsuc}
use Rattle.std.specs.Prelude.{⊤}
use Rattle.std.proofs.lemmas.Bool.{false≢true}
use Rattle.std.specs.List.{list_all}
use Rattle.std.specs.Option.{option_map, option_and_then}
use Rattle.st_linear.specs.Linear.{Linear, value, fitting, sum_of, replaced}
use Rattle.st_linear.specs.Simple.{negated, lowered}
use Rattle.st_form.specs.Formula.{Formula, Situation, truth, some_truth, truth_value, row, equal, bool_var, at, negation, every, some, formulas}
use Rattle.st_form.specs.Exchange.{exchanged}
use Rattle.st_form.specs.Shared.{together}
use Rattle.st_form.specs.declared.conditions.CondName.{CondName}
use Rattle.st_linear.proofs.Fitting.{fitting-is, value-sum_of}
use Rattle.st_linear.proofs.Replacing.{value-replaced}
use Rattle.st_linear.proofs.Dividing.{value-negated}
use Rattle.std.proofs.lemmas.Int.{ints}
use Rattle.std.proofs.lemmas.Bool.{and_parts}
use Rattle.st_form.proofs.Truths.{truth-exchanged}
use Rattle.transition_system.specs.Systems.{PlainMode, System}
use Rattle.transition_system.specs.Meaning.{can_go, gone, enabling_of}
use Rattle.vc_generator.specs.Building.{at_least, at_least_both, conjuncts, start_of, entails_of, after, behind_or, triple_of, moved_of, case_of, falls_to, unless_true}
use Rattle.vc_generator.specs.Atoms.{PlainCase}
use Rattle.vc_generator.specs.Validity.{HoldsIn, AllTrueIn}
use Rattle.vc_generator.proofs.Truths.{every-true, true-every, true-append, true-locations, true-conjuncts, either}

-- one number is at least the other
module _ (s : Situation) where
  difference-value : (f g d : Linear) → fitting (sum_of f (negated g)) ≡ Some d → value s.numbers d ≡ value s.numbers f +ℤ neg_ℤ (value s.numbers g)
  difference-value f g d fit =
      ap (value s.numbers) (sym (fitting-is (sum_of f (negated g)) d fit)) ∙ value-sum_of s.numbers f (negated g)
      ∙ ap (λ z. value s.numbers f +ℤ z) (value-negated s.numbers g)

  least-by : (f g : Linear) (o : Option Linear) → fitting (sum_of f (negated g)) ≡ o → IsTrue (truth s (unwrap_or (option_map row o) (truth_value false))) → value s.numbers g ≤ℤ value s.numbers f
  least-by f g None fit h = absurd (false≢true h)
  least-by f g (Some d) fit h =
      let is = difference-value f g d fit in
      let least : pos 0 ≤ℤ value s.numbers d = omega (arith, ints) in
      omega (arith, ints)

  pub at-least-true : (f g : Linear) → IsTrue (truth s (at_least f g)) → value s.numbers g ≤ℤ value s.numbers f
  at-least-true f g h = least-by f g (fitting (sum_of f (negated g))) refl h

  both-by : (f g h d : Linear) → fitting (sum_of f (negated g)) ≡ Some d → (o : Option Linear) → fitting (sum_of d (negated h)) ≡ o → IsTrue (truth s (unwrap_or (option_map row o) (truth_value false)))
      → (value s.numbers g +ℤ value s.numbers h) ≤ℤ value s.numbers f
  both-by f g h d fit None fit' holds = absurd (false≢true holds)
  both-by f g h d fit (Some e) fit' holds =
      let first = difference-value f g d fit in
      let second = difference-value d h e fit' in
      let least : pos 0 ≤ℤ value s.numbers e = omega (arith, ints) in
      omega (arith, ints)

  least-both : (f g h : Linear) (o : Option Linear) → fitting (sum_of f (negated g)) ≡ o → IsTrue (truth s (unwrap_or (option_map row (option_and_then (λ d. fitting (sum_of d (negated h))) o)) (truth_value false)))
      → (value s.numbers g +ℤ value s.numbers h) ≤ℤ value s.numbers f
  least-both f g h None fit holds = absurd (false≢true holds)
  least-both f g h (Some d) fit holds = both-by f g h d fit (fitting (sum_of d (negated h))) refl holds

  pub at-least-both-true : (f g h : Linear) → IsTrue (truth s (at_least_both f g h)) → (value s.numbers g +ℤ value s.numbers h) ≤ℤ value s.numbers f
  at-least-both-true f g h holds = least-both f g h (fitting (sum_of f (negated g))) refl holds

  pub lowered-value : (f : Linear) → value s.numbers (lowered f) ≡ value s.numbers f +ℤ negsuc 0
  lowered-value f = omega (arith, ints)

module _ (m : PlainMode) (s : Situation) where
  after-by : (f : Formula) (o : Option Formula) → exchanged m.change f ≡ o → IsTrue (truth s (unwrap_or o (truth_value false))) → IsTrue (truth (gone m s) f)
  after-by f None is h = absurd (false≢true h)
  after-by f (Some g) is h = subst IsTrue (truth-exchanged f s m.change g is) h

  -- the formula before the mode is true only where the formula behind it is
  pub after-true : (f : Formula) → IsTrue (truth s (after m f)) → IsTrue (truth (gone m s) f)
  after-true f h = after-by f (exchanged m.change f) refl h

  pub goes-given : IsTrue (can_go m s) → AllTrueIn (enabling_of m) s
  goes-given go =
      let parts = and_parts (list_all (λ l. s.located l) m.at) (truth s m.guard) go in
      true-append s (map (λ l. at l) m.at) (m.guard ∷ []) (true-locations s m.at parts.0) (parts.1, tt)

  pub given-true : (lemmas : List Formula) (f : Formula) → AllTrueIn lemmas s → IsTrue (truth s f) → IsTrue (can_go m s) → IsTrue (truth s (every (formulas (lemmas ++ f ∷ enabling_of m))))
  given-true lemmas f all holds go = every-true s (lemmas ++ f ∷ enabling_of m) (true-append s lemmas (f ∷ enabling_of m) all (holds, goes-given go))

  -- the disjunction of a formula behind the mode and one before it
  two-true : (behind now : Formula) → IsTrue (truth s (some (formulas (after m behind ∷ now ∷ [])))) → IsTrue (truth (gone m s) behind) ⊎ IsTrue (truth s now)
  two-true behind now h = elim (either (truth s (after m behind)) (truth s now || false) h) [
    | inl p ↦ inl (after-true behind p)
    | inr p ↦ elim (either (truth s now) false p) [ inl q ↦ inr q | inr q ↦ absurd (false≢true q) ]
  ]

  pub behind-true : (behind now : Formula) → IsTrue (truth s (behind_or m behind now)) → IsTrue (truth (gone m s) behind) ⊎ IsTrue (truth s now)
  behind-true behind (truth_value false) h = inl (after-true behind h)
  behind-true behind (truth_value true) h = two-true behind (truth_value true) h
  behind-true behind (row f) h = two-true behind (row f) h
  behind-true behind (equal f) h = two-true behind (equal f) h
  behind-true behind (bool_var v) h = two-true behind (bool_var v) h
  behind-true behind (at l) h = two-true behind (at l) h
  behind-true behind (negation f) h = two-true behind (negation f) h
  behind-true behind (every fs) h = two-true behind (every fs) h
  behind-true behind (some fs) h = two-true behind (some fs) h

  -- a step by the mode leads where its condition says
  pub triple-leads : (lemmas : List Formula) (f behind now : Formula) (name : CondName) → HoldsIn (triple_of m lemmas f behind now name) s → AllTrueIn lemmas s → IsTrue (truth s f) → IsTrue (can_go m s)
      → IsTrue (truth (gone m s) behind) ⊎ IsTrue (truth s now)
  triple-leads lemmas f behind now name holds all here go = behind-true behind now (holds (given-true lemmas f all here go))

  -- the first number behind the mode is at most the second before it
  abbrev pub Falls : Linear × Linear → Type 0
  Falls p = value (gone m s).numbers p.0 ≤ℤ value s.numbers p.1

  abbrev pub AllFall : List (Linear × Linear) → Type 0
  AllFall [] = ⊤
  AllFall (p ∷ ps) = Falls p × AllFall ps

  -- what a case says of a step from s by the mode
  pub record CaseHolds (c : PlainCase) : Type 0 where
    pub now : IsTrue (truth s c.now)
    pub behind : IsTrue (truth (gone m s) c.behind)
    pub falls : AllFall c.falls

  falls-by : (p : Linear × Linear) (o : Option Linear) → replaced m.change.numbers p.0 ≡ o → IsTrue (truth s (unwrap_or (option_map (at_least p.1) o) (truth_value false))) → Falls p
  falls-by p None is h = absurd (false≢true h)
  falls-by p (Some f) is h =
      let behind = value-replaced s.numbers m.change.numbers p.0 f is in
      let least = at-least-true s p.1 f h in
      omega (arith, ints)

  falls-true : (ps : List (Linear × Linear)) → AllTrueIn (map (falls_to m) ps) s → AllFall ps
  falls-true [] all = tt
  falls-true (p ∷ ps) all = (falls-by p (replaced m.change.numbers p.0) refl all.0, falls-true ps all.1)

  -- a single part stands for itself
  together-true : (fs : List Formula) → IsTrue (truth s (together fs)) → AllTrueIn fs s
  together-true [] h = tt
  together-true (f ∷ []) h = (h, tt)
  together-true (f ∷ g ∷ fs) h = true-every s (f ∷ g ∷ fs) h

  now-true : (f : Formula) (fs : List Formula) → AllTrueIn (unless_true f ++ fs) s → IsTrue (truth s f) × AllTrueIn fs s
  now-true (truth_value true) fs all = (refl, all)
  now-true (truth_value false) fs all = (all.0, all.1)
  now-true (row f) fs all = (all.0, all.1)
  now-true (equal f) fs all = (all.0, all.1)
  now-true (bool_var v) fs all = (all.0, all.1)
  now-true (at l) fs all = (all.0, all.1)
  now-true (negation f) fs all = (all.0, all.1)
  now-true (every gs) fs all = (all.0, all.1)
  now-true (some gs) fs all = (all.0, all.1)

  case-true : (c : PlainCase) → IsTrue (truth s (case_of m c)) → CaseHolds c
  case-true c h =
      let parts = together-true (unless_true c.now ++ after m c.behind ∷ map (falls_to m) c.falls) h in
      let apart = now-true c.now (after m c.behind ∷ map (falls_to m) c.falls) parts in
      record { now = apart.0; behind = after-true c.behind apart.1.0; falls = falls-true c.falls apart.1.1 }

  -- one of the cases holds
  pub record SomeCase (cs : List PlainCase) : Type 0 where
    pub place : ℕ
    pub case : PlainCase
    pub listed : slice_get cs place ≡ Some case
    pub holds : CaseHolds case

  cases-true : (cs : List PlainCase) → IsTrue (some_truth s (formulas (map (case_of m) cs))) → SomeCase cs
  cases-true [] h = absurd (false≢true h)
  cases-true (c ∷ cs) h = elim (either (truth s (case_of m c)) (some_truth s (formulas (map (case_of m) cs))) h) [
    | inl p ↦ record { place = 0; case = c; listed = refl; holds = case-true c p }
    | inr p ↦ let r = cases-true cs p in record { place = suc r.place; case = r.case; listed = r.listed; holds = r.holds }
  ]

  -- a step by the mode leads as one of the cases says
  pub moved-leads : (lemmas : List Formula) (f : Formula) (cs : List PlainCase) (name : CondName) → HoldsIn (moved_of m lemmas f cs name) s → AllTrueIn lemmas s → IsTrue (truth s f) → IsTrue (can_go m s) → SomeCase cs
  moved-leads lemmas f cs name holds all here go = cases-true cs (holds (given-true lemmas f all here go))

-- where the one formula holds, the other does
pub entails-true : (s : Situation) (lemmas : List Formula) (f shown : Formula) (name : CondName) → HoldsIn (entails_of lemmas f shown name) s → AllTrueIn lemmas s → IsTrue (truth s f) → IsTrue (truth s shown)
entails-true s lemmas f shown name holds all here = holds (every-true s (lemmas ++ f ∷ []) (true-append s lemmas (f ∷ []) all (here, tt)))

-- at the start the formula holds
pub start-true : (s : Situation) (system : System) (lemmas : List Formula) (f : Formula) (name : CondName) → HoldsIn (start_of system lemmas f name) s → AllTrueIn lemmas s → IsTrue (truth s system.initial) → IsTrue (truth s f)
start-true s system lemmas f name holds all begins =
    holds (every-true s (lemmas ++ conjuncts system.initial) (true-append s lemmas (conjuncts system.initial) all (true-conjuncts s system.initial begins)))
