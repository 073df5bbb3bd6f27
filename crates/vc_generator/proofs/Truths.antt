-- Truth of conjunctions and disjunctions of lists.
use Rattle.std.proofs.Common.{◌≡◌, refl, ℕ, suc, Bool, true, false, ◌&&◌, ◌||◌, IsTrue, List, [], ◌∷◌, ◌++◌, map, slice_get, Some, ◌⊎◌, inl, inr}
use Rattle.std.proofs.lemmas.Bool.{false≢true}
use Rattle.std.specs.List.{list_all}
use Rattle.st_form.specs.Formula.{Formula, Formulas, Situation, truth, every_truth, some_truth, truth_value, row, equal, bool_var, at, negation, every, some, none, more, formulas}
use Rattle.vc_generator.specs.Building.{listed, conjuncts}
use Rattle.vc_generator.specs.Validity.{AllTrueIn}

both : (a b : Bool) → IsTrue a → IsTrue b → IsTrue (a && b)
both true true p q = refl
both true false p q = absurd (false≢true q)
both false b p q = absurd (false≢true p)

left_of : (a b : Bool) → IsTrue (a && b) → IsTrue a
left_of true b p = refl
left_of false b p = absurd (false≢true p)

right_of : (a b : Bool) → IsTrue (a && b) → IsTrue b
right_of true b p = p
right_of false b p = absurd (false≢true p)

pub either : (a b : Bool) → IsTrue (a || b) → IsTrue a ⊎ IsTrue b
either true b p = inl refl
either false b p = inr p

module _ (s : Situation) where
  -- the formulas of a list are all true
  pub every-true : (fs : List Formula) → AllTrueIn fs s → IsTrue (truth s (every (formulas fs)))
  every-true [] all = refl
  every-true (f ∷ fs) all = both (truth s f) (every_truth s (formulas fs)) all.0 (every-true fs all.1)

  pub true-every : (fs : List Formula) → IsTrue (truth s (every (formulas fs))) → AllTrueIn fs s
  true-every [] all = tt
  true-every (f ∷ fs) all = (left_of (truth s f) (every_truth s (formulas fs)) all, true-every fs (right_of (truth s f) (every_truth s (formulas fs)) all))

  pub true-append : (fs gs : List Formula) → AllTrueIn fs s → AllTrueIn gs s → AllTrueIn (fs ++ gs) s
  true-append [] gs all others = others
  true-append (f ∷ fs) gs all others = (all.0, true-append fs gs all.1 others)

  -- the parts of a conjunction
  pub true-listed : (fs : Formulas) → IsTrue (every_truth s fs) → AllTrueIn (listed fs) s
  true-listed none all = tt
  true-listed (more f fs) all = (left_of (truth s f) (every_truth s fs) all, true-listed fs (right_of (truth s f) (every_truth s fs) all))

  pub true-conjuncts : (f : Formula) → IsTrue (truth s f) → AllTrueIn (conjuncts f) s
  true-conjuncts (truth_value b) h = (h, tt)
  true-conjuncts (row f) h = (h, tt)
  true-conjuncts (equal f) h = (h, tt)
  true-conjuncts (bool_var v) h = (h, tt)
  true-conjuncts (at l) h = (h, tt)
  true-conjuncts (negation f) h = (h, tt)
  true-conjuncts (every fs) h = true-listed fs h
  true-conjuncts (some fs) h = (h, tt)

  pub true-locations : (ls : List ℕ) → IsTrue (list_all (λ l. s.located l) ls) → AllTrueIn (map (λ l. at l) ls) s
  true-locations [] all = tt
  true-locations (l ∷ ls) all = (left_of (s.located l) (list_all (λ l. s.located l) ls) all, true-locations ls (right_of (s.located l) (list_all (λ l. s.located l) ls) all))

  -- some formula of a list is true
  pub record SomeTrue (fs : List Formula) : Type 0 where
    pub place : ℕ
    pub form : Formula
    pub listed : slice_get fs place ≡ Some form
    pub holds : IsTrue (truth s form)

  pub some-true : (fs : List Formula) → IsTrue (truth s (some (formulas fs))) → SomeTrue fs
  some-true [] h = absurd (false≢true h)
  some-true (f ∷ fs) h = elim (either (truth s f) (some_truth s (formulas fs)) h) [
    | inl p ↦ record { place = 0; form = f; listed = refl; holds = p }
    | inr p ↦ let r = some-true fs p in record { place = suc r.place; form = r.form; listed = r.listed; holds = r.holds }
  ]
