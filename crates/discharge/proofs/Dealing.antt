-- Items that are dealt out in turn, and woven again.
use Rattle.std.proofs.Common.{◌≡◌, ◌∙◌, ℕ, zero, suc, ◌+◌, ◌-◌, ◌*◌, ◌/◌, ◌<◌, ◌≤◌, ◌^◌, List, [], ◌∷◌, length, drop, refl, sym, ap, subst, arith}
use Rattle.std.specs.Prelude.{slice_get, None}
use Rattle.std.proofs.Math.Seq.{drop-nil}
use Rattle.std.proofs.lemmas.List.{drop-drop, nil_from_length}
use Rattle.std.proofs.lemmas.Option.{slice_get_past}
use Rattle.std.proofs.Math.Nat.{mul-le-mul_left}
use Rattle.discharge.specs.declared.shares.Share.{Share}
use Rattle.discharge.specs.Dealt.{every, dealt, left_half, right_half, woven}

-- ---- shares
every_none : {A : Type 0} (s n : ℕ) → every {A = A} s n [] ≡ []
every_none s zero = refl
every_none s (suc n) = refl

pub every_all : {A : Type 0} (xs : List A) → every 1 (length xs) xs ≡ xs
every_all [] = refl
every_all (x ∷ xs) = ap (λ ys. x ∷ ys) (every_all xs)

pub every_within : {A : Type 0} (s n : ℕ) (xs : List A) → length (every s n xs) ≤ n
every_within s zero xs = omega arith
every_within s (suc n) [] = omega arith
every_within s (suc n) (x ∷ xs) = omega (arith, every_within s n (drop s (x ∷ xs)))

-- ---- a list is that of its items from the first on and of those between
pub record InTurn {A : Type 0} (all firsts betweens : List A) : Type 0 where
  pub woven_is : all ≡ woven firsts betweens
  pub no_more : length betweens ≤ length firsts
  pub no_fewer : length firsts ≤ length betweens + 1

none_in_turn : {A : Type 0} → InTurn {A = A} [] [] []
none_in_turn = record { woven_is = refl; no_more = omega arith; no_fewer = omega arith }

one_in_turn : {A : Type 0} (x : A) → InTurn (x ∷ []) (x ∷ []) []
one_in_turn x = record { woven_is = refl; no_more = omega arith; no_fewer = omega arith }

two_in_turn : {A : Type 0} (x y : A) (all firsts betweens : List A) → InTurn all firsts betweens → InTurn (x ∷ y ∷ all) (x ∷ firsts) (y ∷ betweens)
two_in_turn x y all firsts betweens h = record {
  woven_is = ap (λ xs. x ∷ y ∷ xs) h.woven_is;
  no_more = omega (arith, h.no_more);
  no_fewer = omega (arith, h.no_fewer);
}

-- with the first item x, what stands a stride behind it, and what stands two strides behind it
module _ {A : Type 0} (s n : ℕ) (x : A) where
  abbrev TwoMore : List A → List A → Type 0
  TwoMore d z = InTurn (x ∷ every s (suc n) d) (x ∷ every (s + s) (n - n / 2) z) (every (s + s) (suc (n / 2)) d)

  none_behind : (d z : List A) → d ≡ [] → z ≡ [] → TwoMore d z
  none_behind d z e f =
      subst (λ (l : List A). TwoMore l z) (sym e)
      (subst (λ (l : List A). InTurn (x ∷ []) (x ∷ every (s + s) (n - n / 2) l) []) (sym f)
      (subst (λ (l : List A). InTurn (x ∷ []) (x ∷ l) []) (sym (every_none (s + s) (n - n / 2))) (one_in_turn x)))

  one_behind : (d z : List A) (y : A) (ys : List A) → d ≡ y ∷ ys → drop s d ≡ z → InTurn (every s n z) (every (s + s) (n - n / 2) z) (every (s + s) (n / 2) (drop s z)) → TwoMore d z
  one_behind d z y ys e f h =
      let behind : drop s (y ∷ ys) ≡ z = ap (drop s) (sym e) ∙ f in
      let twice : drop (s + s) (y ∷ ys) ≡ drop s z = sym (drop-drop s s (y ∷ ys)) ∙ ap (drop s) behind in
      subst (λ (l : List A). TwoMore l z) (sym e)
      (subst (λ (l : List A). InTurn (x ∷ y ∷ every s n l) (x ∷ every (s + s) (n - n / 2) z) (y ∷ every (s + s) (n / 2) (drop (s + s) (y ∷ ys)))) (sym behind)
      (subst (λ (l : List A). InTurn (x ∷ y ∷ every s n z) (x ∷ every (s + s) (n - n / 2) z) (y ∷ every (s + s) (n / 2) l)) (sym twice)
      (two_in_turn x y (every s n z) (every (s + s) (n - n / 2) z) (every (s + s) (n / 2) (drop s z)) h)))

  two_more : (d z : List A) → drop s d ≡ z → InTurn (every s n z) (every (s + s) (n - n / 2) z) (every (s + s) (n / 2) (drop s z)) → TwoMore d z
  two_more d z f h = by d refl where
    by : (l : List A) → d ≡ l → TwoMore d z
    by [] e = none_behind d z e (sym f ∙ ap (drop s) e ∙ drop-nil s)
    by (y ∷ ys) e = one_behind d z y ys e f h

every_in_turn : {A : Type 0} (s n : ℕ) (xs : List A) → InTurn (every s n xs) (every (s + s) (n - n / 2) xs) (every (s + s) (n / 2) (drop s xs))
every_in_turn s zero xs = none_in_turn
every_in_turn {A} s (suc zero) [] = none_in_turn
every_in_turn s (suc zero) (x ∷ xs) = one_in_turn x
every_in_turn {A} s (suc (suc n)) [] =
    let odds : every {A = A} (s + s) (suc (suc n) / 2) (drop s []) ≡ [] = ap (every (s + s) (suc (suc n) / 2)) (drop-nil s) ∙ every_none (s + s) (suc (suc n) / 2) in
    subst (λ (l : List A). InTurn [] (every (s + s) (suc (suc n) - suc (suc n) / 2) []) l) (sym odds)
    (subst (λ (l : List A). InTurn [] l []) (sym (every_none (s + s) (suc (suc n) - suc (suc n) / 2))) none_in_turn)
every_in_turn s (suc (suc n)) (x ∷ xs) =
    let evens : suc (n - n / 2) ≡ suc (suc n) - suc (suc n) / 2 = omega arith in
    let odds : suc (n / 2) ≡ suc (suc n) / 2 = omega arith in
    let l = x ∷ xs in
    subst (λ (m : ℕ). InTurn (every s (suc (suc n)) l) (every (s + s) m l) (every (s + s) (suc (suc n) / 2) (drop s l))) evens
    (subst (λ (m : ℕ). InTurn (every s (suc (suc n)) l) (every (s + s) (suc (n - n / 2)) l) (every (s + s) m (drop s l))) odds
    (two_more s n x (drop s l) (drop (s + s) l) (drop-drop s s l) (every_in_turn s n (drop (s + s) l))))

pub dealt_in_turn : {A : Type 0} (share : Share) (xs : List A) → InTurn (dealt share xs) (dealt (right_half share) xs) (dealt (left_half share) (drop share.stride xs))
dealt_in_turn share xs = every_in_turn share.stride share.count xs

-- ---- what stands where
pub nothing-there : (A : Type 0) (i : ℕ) → slice_get {X = A} [] i ≡ None
nothing-there A i = slice_get_past [] i (omega arith)

pub first_there : {A : Type 0} (xs ys : List A) (j : ℕ) → length ys ≤ length xs → length xs ≤ length ys + 1 → slice_get (woven xs ys) (j + j) ≡ slice_get xs j
first_there {A} [] [] j l m = nothing-there A (j + j) ∙ sym (nothing-there A j)
first_there [] (y ∷ ys) j l m = absurd (omega (arith, l))
first_there (x ∷ []) [] zero l m = refl
first_there {A} (x ∷ []) [] (suc j) l m =
    let place : suc j + suc j ≡ suc (j + suc j) = omega arith in
    ap (slice_get (x ∷ [])) place ∙ nothing-there A (j + suc j) ∙ sym (nothing-there A j)
first_there (x ∷ z ∷ xs) [] j l m = absurd (omega (arith, m))
first_there (x ∷ xs) (y ∷ ys) zero l m = refl
first_there (x ∷ xs) (y ∷ ys) (suc j) l m =
    let place : suc j + suc j ≡ suc (suc (j + j)) = omega arith in
    ap (slice_get (x ∷ y ∷ woven xs ys)) place ∙ first_there xs ys j (omega (arith, l)) (omega (arith, m))

pub between_there : {A : Type 0} (xs ys : List A) (j : ℕ) → length ys ≤ length xs → length xs ≤ length ys + 1 → slice_get (woven xs ys) (j + j + 1) ≡ slice_get ys j
between_there {A} [] [] j l m = nothing-there A (j + j + 1) ∙ sym (nothing-there A j)
between_there [] (y ∷ ys) j l m = absurd (omega (arith, l))
between_there {A} (x ∷ []) [] j l m =
    let place : j + j + 1 ≡ suc (j + j) = omega arith in
    ap (slice_get (x ∷ [])) place ∙ nothing-there A (j + j) ∙ sym (nothing-there A j)
between_there (x ∷ z ∷ xs) [] j l m = absurd (omega (arith, m))
between_there (x ∷ xs) (y ∷ ys) zero l m = refl
between_there (x ∷ xs) (y ∷ ys) (suc j) l m =
    let place : suc j + suc j + 1 ≡ suc (suc (j + j + 1)) = omega arith in
    ap (slice_get (x ∷ y ∷ woven xs ys)) place ∙ between_there xs ys j (omega (arith, l)) (omega (arith, m))

-- ---- strides stay small: where the workers are halved, they are doubled
pub stride_bound : (s w : ℕ) → 2 ≤ w → s * (w - 1) < 2 ^ 32 → s < 2 ^ 32
stride_bound s w some bound = omega (arith, bound, mul-le-mul_left s (let one : 1 ≤ w - 1 = omega (arith, some) in one))

doubled : (s q w : ℕ) → q + q ≤ w - 1 → s * (w - 1) < 2 ^ 32 → (s + s) * q < 2 ^ 32
doubled s q w few bound =
    let sum : (s + s) * q ≡ s * (q + q) = grind arith in
    omega (arith, bound, sum, mul-le-mul_left s few)

pub left_stride : (s w : ℕ) → 2 ≤ w → s * (w - 1) < 2 ^ 32 → (s + s) * (w / 2 - 1) < 2 ^ 32
left_stride s w some = doubled s (w / 2 - 1) w (omega (arith, some))

pub right_stride : (s w : ℕ) → 2 ≤ w → s * (w - 1) < 2 ^ 32 → (s + s) * (w - w / 2 - 1) < 2 ^ 32
right_stride s w some = doubled s (w - w / 2 - 1) w (omega (arith, some))

-- ---- one item of a share, and those behind it
pub every_next : {A : Type 0} (s n : ℕ) (xs ys : List A) (x : A) → 0 < n → xs ≡ x ∷ ys → every s n xs ≡ x ∷ every s (n - 1) (drop s xs)
every_next s zero xs ys x some is = absurd (omega (arith, some))
every_next s (suc n) xs ys x some is =
    let less : n ≡ suc n - 1 = omega arith in
    ap (every s (suc n)) is ∙ ap (λ (l : List _). x ∷ every s n (drop s l)) (sym is) ∙ ap (λ (m : ℕ). x ∷ every s m (drop s xs)) less

pub every_empty : {A : Type 0} (s n : ℕ) (xs : List A) → length xs ≡ 0 → every s n xs ≡ []
every_empty s n xs h = ap (every s n) (nil_from_length xs h) ∙ every_none s n

pub every_done : {A : Type 0} (s n : ℕ) (xs : List A) → n ≤ 0 → every s n xs ≡ []
every_done s zero xs h = refl
every_done s (suc n) xs h = absurd (omega (arith, h))
