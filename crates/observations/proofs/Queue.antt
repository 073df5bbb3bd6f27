-- A queue of names: the first that is enabled is taken, and goes to the end.
--
-- So the name that was taken least recently stands first. Where a name is enabled and another one is taken, one name
-- fewer stands before it, and never does one more.
use Rattle.std.proofs.Common.{◌≡◌, ◌≢◌, ℕ, suc, ◌+◌, ◌≤◌, ◌<◌, ◌⊎◌, inl, inr, List, [], ◌∷◌, ◌++◌, length, Bool, true, false, cond, ◌||◌, IsTrue, arith, refl, sym, subst, ap}
use Rattle.std.specs.Prelude.{◌==◌}
use Rattle.std.proofs.lemmas.Bool.Decides.{nat_tests}
use Rattle.std.specs.declared.option.Option.{Option}
use Rattle.std.specs.declared.option.Option.TheVariants.{Some, None}

abbrev pub pick : (ℕ → Bool) → List ℕ → Option ℕ
pick en [] = None
pick en (x ∷ xs) = cond (en x) (Some x) (pick en xs)

-- without the first y
abbrev pub without : ℕ → List ℕ → List ℕ
without y [] = []
without y (x ∷ xs) = cond (x == y) xs (x ∷ without y xs)

-- how many stand before the first x
abbrev pub place : ℕ → List ℕ → ℕ
place x [] = 0
place x (y ∷ ys) = cond (y == x) 0 (suc (place x ys))

abbrev pub elem : ℕ → List ℕ → Bool
elem x [] = false
elem x (y ∷ ys) = (y == x) || elem x ys

abbrev pub one_if : Bool → ℕ
one_if true = 1
one_if false = 0

abbrev pub rotated : ℕ → List ℕ → List ℕ
rotated y q = without y q ++ y ∷ []

place-append : (x y : ℕ) (q : List ℕ) → IsTrue (elem x q) → place x (q ++ y ∷ []) ≡ place x q
place-append x y [] h = cc
place-append x y (z ∷ q) h = grind (arith, nat_tests, place-append x y q)

pub true_or_false : (b : Bool) → (b ≡ true) ⊎ (b ≡ false)
true_or_false true = inl refl
true_or_false false = inr refl

pub pick_first : (en : ℕ → Bool) (z : ℕ) (q : List ℕ) → en z ≡ true → pick en (z ∷ q) ≡ Some z
pick_first en z q e = rw e

pub pick_later : (en : ℕ → Bool) (z : ℕ) (q : List ℕ) → en z ≡ false → pick en (z ∷ q) ≡ pick en q
pick_later en z q e = rw e

pub picked_enabled : (en : ℕ → Bool) (q : List ℕ) (y : ℕ) → pick en q ≡ Some y → IsTrue (en y)
picked_enabled en [] y h = cc
picked_enabled en (z ∷ q) y h =
    elim (true_or_false (en z)) [
      | inl e ↦ (let first = pick_first en z q e in let same : z ≡ y = cc in subst (λ v. IsTrue (en v)) same e)
      | inr e ↦ picked_enabled en q y (let later = pick_later en z q e in cc)
    ]

-- nothing is picked only where nothing is enabled
pub picked_none : (en : ℕ → Bool) (q : List ℕ) (x : ℕ) → pick en q ≡ None → IsTrue (elem x q) → en x ≡ false
picked_none en [] x h mem = cc
picked_none en (z ∷ q) x h mem =
    elim (true_or_false (en z)) [
      | inl e ↦ (let first = pick_first en z q e in cc)
      | inr e ↦ (let later = pick_later en z q e in
          elim (true_or_false (z == x)) [
            | inl here ↦ (let same : z ≡ x = grind (arith, nat_tests) in subst (λ v. en v ≡ false) same e)
            | inr other ↦ picked_none en q x (cc) (rw other at mem)
          ])
    ]

pub one_if_le : (b : Bool) → one_if b ≤ 1
one_if_le true = omega arith
one_if_le false = omega arith

apart_by : (en : ℕ → Bool) (z y : ℕ) → en z ≡ false → IsTrue (en y) → (z == y) ≡ false
apart_by en z y off on = elim (true_or_false (z == y)) [
  | inl same ↦ (let e : z ≡ y = grind (arith, nat_tests) in let on' : en z ≡ true = subst (λ v. en v ≡ true) (sym e) on in cc)
  | inr differs ↦ differs
]

-- a step that takes y leaves no more before x, and one fewer where x is enabled
pub served_step : (en : ℕ → Bool) (q : List ℕ) (x y : ℕ) → IsTrue (elem x q) → pick en q ≡ Some y → y ≢ x → place x (rotated y q) + one_if (en x) ≤ place x q
served_step en [] x y mem picked other = cc
served_step en (z ∷ q) x y mem picked other =
    elim (true_or_false (en z)) [
      | inl e ↦ (let first = pick_first en z q e in let same : z ≡ y = cc in
          let eq : (z == y) ≡ true = grind (arith, nat_tests) in
          let ne : (z == x) ≡ false = grind (arith, nat_tests) in
          let there : IsTrue (elem x q) = rw ne at mem in
          let p = place-append x y q there in
          let o = one_if_le (en x) in
          rw (eq, ne) (omega arith))
      | inr e ↦ (let later = pick_later en z q e in let on : IsTrue (en y) = picked_enabled en (z ∷ q) y picked in
          elim (true_or_false (z == x)) [
            | inl here ↦
                (let same : z ≡ x = grind (arith, nat_tests) in
                let off : en x ≡ false = subst (λ v. en v ≡ false) same e in
                let ne : (z == y) ≡ false = grind (arith, nat_tests) in
                rw (ne, here, off) (omega arith))
            | inr apart ↦ (let rest = served_step en q x y (rw apart at mem) (cc) other in
                let ne : (z == y) ≡ false = apart_by en z y e on in
                rw (ne, apart) (omega arith))
          ])
    ]

pub place_below : (x : ℕ) (q : List ℕ) → IsTrue (elem x q) → place x q < length q
place_below x [] h = cc
place_below x (z ∷ q) h = elim (true_or_false (z == x)) [
  | inl here ↦ rw here (omega arith)
  | inr apart ↦ (let rest = place_below x q (rw apart at h) in rw apart (omega arith))
]

elem-left : (x : ℕ) (q r : List ℕ) → IsTrue (elem x q) → IsTrue (elem x (q ++ r))
elem-left x [] r h = cc
elem-left x (z ∷ q) r h = elim (true_or_false (z == x)) [
  | inl here ↦ rw here refl
  | inr apart ↦ rw apart (elem-left x q r (rw apart at h))
]

elem-last : (x : ℕ) (q : List ℕ) → IsTrue (elem x (q ++ x ∷ []))
elem-last x [] = (let e : (x == x) ≡ true = grind (arith, nat_tests) in rw e refl)
elem-last x (z ∷ q) = elim (true_or_false (z == x)) [
  | inl here ↦ rw here refl
  | inr apart ↦ rw apart (elem-last x q)
]

pub elem-without : (x y : ℕ) (q : List ℕ) → IsTrue (elem x q) → (x == y) ≡ false → IsTrue (elem x (without y q))
elem-without x y [] h apart = cc
elem-without x y (z ∷ q) h apart = elim (true_or_false (z == y)) [
  | inl at_y ↦ (let e : (z == x) ≡ false = grind (arith, nat_tests) in rw at_y (rw e at h))
  | inr off_y ↦ rw off_y (elim (true_or_false (z == x)) [
    | inl here ↦ rw here refl
    | inr off_x ↦ rw off_x (elem-without x y q (rw off_x at h) apart)
  ])
]

pub elem-rotated : (x y : ℕ) (q : List ℕ) → IsTrue (elem x q) → IsTrue (elem x (rotated y q))
elem-rotated x y q h = elim (true_or_false (x == y)) [
  | inl same ↦ (let e : x ≡ y = grind (arith, nat_tests) in subst (λ z. IsTrue (elem x (without z q ++ z ∷ []))) e (elem-last x (without x q)))
  | inr apart ↦ elem-left x (without y q) (y ∷ []) (elem-without x y q h apart)
]

pub length-without : (y : ℕ) (q : List ℕ) → IsTrue (elem y q) → suc (length (without y q)) ≡ length q
length-without y [] h = cc
length-without y (z ∷ q) h = elim (true_or_false (z == y)) [
  | inl here ↦ rw here refl
  | inr apart ↦ (let rest = length-without y q (rw apart at h) in rw apart (omega arith))
]

pub picked_elem : (en : ℕ → Bool) (q : List ℕ) (y : ℕ) → pick en q ≡ Some y → IsTrue (elem y q)
picked_elem en [] y h = cc
picked_elem en (z ∷ q) y h = elim (true_or_false (en z)) [
  | inl e ↦ (let first = pick_first en z q e in let same : z ≡ y = cc in let t : (z == y) ≡ true = grind (arith, nat_tests) in rw t refl)
  | inr e ↦ (let later = pick_later en z q e in
      elim (true_or_false (z == y)) [
        | inl here ↦ rw here refl
        | inr apart ↦ rw apart (picked_elem en q y (cc))
      ])
]

length_one_more : (q : List ℕ) (y : ℕ) → length (q ++ y ∷ []) ≡ suc (length q)
length_one_more [] y = refl
length_one_more (z ∷ q) y = ap suc (length_one_more q y)

pub length-rotated : (y : ℕ) (q : List ℕ) → IsTrue (elem y q) → length (rotated y q) ≡ length q
length-rotated y q h = (let a = length_one_more (without y q) y in let b = length-without y q h in omega arith)
