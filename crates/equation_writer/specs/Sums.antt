-- What the components add in the cases, and that it is small.
use Rattle.std.specs.Prelude.{◌≢◌, ◌<◌, ◌^◌, IsTrue, List, [], ◌∷◌, ◌++◌, map, flat_map, length, ℤ, pos, ◌+ℤ◌, unsigned_abs}
use Rattle.st_linear.specs.Linear.{is_small, are_small}
use Rattle.st_form.specs.Formula.{Formula}
use Rattle.equation_forms.specs.Formulas.{Terms, whereabouts}

-- a case with a component in a class, and all cases with it in one of some classes
abbrev pub with_class : Terms → ℤ → List Formula × ℤ → List Formula × ℤ
with_class ts k x = (whereabouts ts k ++ x.0, k +ℤ x.1)

abbrev pub with_classes : Terms → List ℤ → List (List Formula × ℤ) → List (List Formula × ℤ)
with_classes ts ks xs = flat_map (λ k. map (with_class ts k) xs) ks

-- the numbers that the components add come to less than 2^110
abbrev pub AreModest : List (List Formula × ℤ) → Type 0
AreModest [] = Unit {0}
AreModest (x ∷ xs) = (unsigned_abs x.1 < 2 ^ 110) × AreModest xs

abbrev pub AreSmall : List ℤ → Type 0
AreSmall [] = Unit {0}
AreSmall (k ∷ ks) = IsTrue (is_small k) × AreSmall ks

abbrev pub AreNonzero : Terms → Type 0
AreNonzero [] = Unit {0}
AreNonzero (t ∷ ts) = (t.1 ≢ pos 0) × AreNonzero ts

-- a component has coefficients, small ones, and none of them is 0
pub record IsGroup (ts : Terms) : Type 0 where
  pub some : 0 < length ts
  pub nonzero : AreNonzero ts
  pub small : IsTrue (are_small ts)

abbrev pub AreGroups : List Terms → Type 0
AreGroups [] = Unit {0}
AreGroups (ts ∷ gs) = IsGroup ts × AreGroups gs
