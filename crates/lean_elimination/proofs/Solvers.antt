-- The first equation with a variable, and the stage that it solves.
use Rattle.std.proofs.Common.{◌≡◌, ℕ, zero, suc, ◌+◌, ◌<◌, Bool, true, false, Some, None, List, [], ◌∷◌, ◌++◌, length, get_or, drop, take, refl, ap, sym, ◌∙◌, arith, append_assoc}
use Rattle.std.specs.Prelude.{◌&&◌, not}
use Rattle.std.proofs.lemmas.List.{drop_more, take_more}
use Rattle.elimination_laws.specs.Mixing.{Tracked, part_of}
use Rattle.st_linear.specs.Linear.{is_zero}
use Rattle.elimination_laws.specs.Stages.{solves, solver, others, made, made_with, sifted, is_free}
use Rattle.row_elimination.specs.Places.{sift_from}
use Rattle.row_elimination.proofs.Sifting.{sift-all}
use Rattle.lean_elimination.specs.Arenas.{row_at, listed}
use Rattle.lean_elimination.specs.Placings.{IsSolver, AreFree}
use Rattle.lean_elimination.proofs.Growing.{listed-push}

default-free : (ks : List ℕ) (i a b : ℕ) → i < length ks → get_or ks i a ≡ get_or ks i b
default-free [] i a b h = absurd (omega arith)
default-free (k ∷ ks) zero a b h = refl
default-free (k ∷ ks) (suc i) a b h = default-free ks i a b (omega arith)

listed-append : (ts : List Tracked) (ks ls : List ℕ) → listed ts (ks ++ ls) ≡ listed ts ks ++ listed ts ls
listed-append ts [] ls = refl
listed-append ts (k ∷ ks) ls = ap (λ l. row_at ts k ∷ l) (listed-append ts ks ls)

pub listed-at : (ts : List Tracked) (ks : List ℕ) (i d : ℕ) → i < length ks → listed ts (drop i ks) ≡ row_at ts (get_or ks i d) ∷ listed ts (drop (i + 1) ks)
listed-at ts ks i d h = ap (listed ts) (drop_more ks i d h)

-- what the loop keeps, past a line that isn't such an equation
pub record Looked (v : ℕ) (ts : List Tracked) (ks : List ℕ) (i : ℕ) : Type 0 where
  pub left : solver v (listed ts (drop i ks)) ≡ solver v (listed ts ks)
  pub rest : listed ts (take i ks) ++ others v (listed ts (drop i ks)) ≡ others v (listed ts ks)

pub solver-next : (v : ℕ) (ts : List Tracked) (ks : List ℕ) (i d : ℕ) → i < length ks → solves v (row_at ts (get_or ks i d)) ≡ false → solver v (listed ts (drop i ks)) ≡ solver v (listed ts ks) → listed ts (take i ks) ++ others v (listed ts (drop i ks)) ≡ others v (listed ts ks) → Looked v ts ks (i + 1)
solver-next v ts ks i d h n l r = record {
  left = sym (rw (listed-at ts ks i d h, n) refl) ∙ l;
  rest = rw (take_more ks i d h, listed-push ts (take i ks) (get_or ks i d), append_assoc) (sym (rw (listed-at ts ks i d h, n) refl) ∙ r);
}

pub solver-found : (v : ℕ) (ts : List Tracked) (ks : List ℕ) (i d : ℕ) → i < length ks → solves v (row_at ts (get_or ks i d)) ≡ true → solver v (listed ts (drop i ks)) ≡ solver v (listed ts ks) → listed ts (take i ks) ++ others v (listed ts (drop i ks)) ≡ others v (listed ts ks) → IsSolver v ts ks i
solver-found v ts ks i d h y l r = record {
  within = h;
  here = λ e. sym l ∙ rw (listed-at ts ks i d h, y) (ap (λ k. Some (row_at ts k)) (default-free ks i d e h));
  rest = sym r ∙ rw (listed-at ts ks i d h, y) (sym (listed-append ts (take i ks) (drop (i + 1) ks)));
}

pub stage-none : (v : ℕ) (ts : List Tracked) → solver v ts ≡ None → sift_from [] (made_with v None ts) ≡ sifted (made v ts) 4096
stage-none v ts h = sift-all (made_with v None ts) ∙ ap (λ o. sifted (made_with v o ts) 4096) (sym h)

pub free-more : (v : ℕ) (ts : List Tracked) (ks : List ℕ) (i d : ℕ) → i < length ks → is_free v (row_at ts (get_or ks i d)) ≡ true → AreFree v (listed ts (drop (i + 1) ks)) → AreFree v (listed ts (drop i ks))
free-more v ts ks i d h y f = rw (listed-at ts ks i d h) (y, f)

by_kind : (b z : Bool) → z ≡ true → false ≡ b && not z
by_kind true z h = rw h refl
by_kind false z h = refl

pub solves-not : (v : ℕ) (t : Tracked) → t.equal ≡ false → false ≡ solves v t
solves-not v t h = rw h refl

pub solves-zero : (v : ℕ) (t : Tracked) → is_zero (part_of v t) ≡ true → false ≡ solves v t
solves-zero v t h = by_kind t.equal (is_zero (part_of v t)) h

pub solves-yes : (v : ℕ) (t : Tracked) → t.equal ≡ true → is_zero (part_of v t) ≡ false → true ≡ solves v t
solves-yes v t h k = rw (h, k) refl
