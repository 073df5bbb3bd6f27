-- What `==` says of two lists of picks.
use Rattle.std.proofs.Common.{◌≡◌, ℕ, ℤ, Bool, true, ◌&&◌, nat_eq, List, ap}
use Rattle.std.specs.Bool.{Decides}
use Rattle.std.specs.Ordering.{int_eq}
use Rattle.std.specs.Cmp.Lexicographic.{pointwise}
use Rattle.std.specs.Cmp.Derive.{both_true}
use Rattle.std.proofs.lemmas.Bool.{and_parts}
use Rattle.std.proofs.lemmas.Bool.Decides.{Decides-eqb, Decides-int_eq}
use Rattle.std.proofs.lemmas.Slice.Eq.{slice_eq-Decides}

abbrev is_pick : ℕ × ℤ → ℕ × ℤ → Bool
is_pick x y = nat_eq x.0 y.0 && int_eq x.1 y.1

pick-decides : (x y : ℕ × ℤ) → Decides (is_pick x y) (x ≡ y)
pick-decides x y = (same, λ e. both_true ((Decides-eqb x.0 y.0).1 (ap (λ p. p.0) e)) ((Decides-int_eq x.1 y.1).1 (ap (λ p. p.1) e)))
  where
    same : is_pick x y ≡ true → x ≡ y
    same h =
        let k : (nat_eq x.0 y.0 ≡ true) × (int_eq x.1 y.1 ≡ true) = and_parts (nat_eq x.0 y.0) (int_eq x.1 y.1) h in
        λ i. ((Decides-eqb x.0 y.0).0 k.0 i, (Decides-int_eq x.1 y.1).0 k.1 i)

pub picks-same : (ps qs : List (ℕ × ℤ)) (r : Bool) → r ≡ pointwise is_pick ps qs → r ≡ true → ps ≡ qs
picks-same ps qs r e h = (slice_eq-Decides pick-decides ps qs r e).0 h
