-- A value put in its place by rising variable.
use Rattle.std.proofs.Common.{◌≡◌, ℕ, zero, suc, ◌<◌, Bool, true, false, cond, nat_lt, ◌==◌, List, [], ◌∷◌, ◌++◌, length, take, drop, get_or, set, map, refl, ap, sym, ◌∙◌, arith}
use Rattle.std.proofs.lemmas.Bool.Decides.{nat_tests}
use Rattle.st_program.specs.Groups.{inserted}

pub inserted-map : {A B : Type 0} (f : A → B) (v : ℕ) (x : A) (xs : List (ℕ × A)) → map (λ p. (p.0, f p.1)) (inserted v x xs) ≡ inserted v (f x) (map (λ p. (p.0, f p.1)) xs)
inserted-map f v x [] = refl
inserted-map {A} {B} f v x (p ∷ ps) = go (nat_lt v p.0) (v == p.0) (inserted-map f v x ps)
  where
    go : (a b : Bool) → map (λ (q : ℕ × A). (q.0, f q.1)) (inserted v x ps) ≡ inserted v (f x) (map (λ q. (q.0, f q.1)) ps) → map (λ (q : ℕ × A). (q.0, f q.1)) (cond a ((v, x) ∷ p ∷ ps) (cond b ((v, x) ∷ ps) (p ∷ inserted v x ps)))
        ≡ cond a ((v, f x) ∷ (p.0, f p.1) ∷ map (λ q. (q.0, f q.1)) ps) (cond b ((v, f x) ∷ map (λ q. (q.0, f q.1)) ps) ((p.0, f p.1) ∷ inserted v (f x) (map (λ q. (q.0, f q.1)) ps)))
    go true b h = refl
    go false true h = refl
    go false false h = ap (λ l. (p.0, f p.1) ∷ l) h

below_not : (v w : ℕ) → w ≡ v → nat_lt v w ≡ false
below_not v w h = grind (arith, nat_tests)

same_key : (v w : ℕ) → w ≡ v → (v == w) ≡ true
same_key v w h = grind (arith, nat_tests)

in_front : {X : Type 0} (v : ℕ) (x : X) (y : ℕ × X) (ys : List (ℕ × X)) → y.0 ≡ v → (y.0, x) ∷ ys ≡ inserted v x (y ∷ ys)
in_front v x y ys h = rw (below_not v y.0 h, same_key v y.0 h) (ap (λ w. (w, x) ∷ ys) h)

-- a variable that stands there gets the value
pub put_here : {X : Type 0} (xs : List (ℕ × X)) (i v : ℕ) (x : X) (p q : ℕ × X) → i < length xs → p ≡ get_or xs i p → q ≡ get_or xs i q → q.0 ≡ v → set xs i (p.0, x) ≡ take i xs ++ inserted v x (drop i xs)
put_here [] i v x p q h e f k = absurd (omega (arith, h))
put_here (y ∷ ys) zero v x p q h e f k = ap (λ z. (z.0, x) ∷ ys) e ∙ in_front v x y ys (sym (ap (λ z. z.0) f) ∙ k)
put_here (y ∷ ys) (suc i) v x p q h e f k = ap (λ l. y ∷ l) (put_here ys i v x p q (omega (arith, h)) e f k)
