-- What `==` says of two lists of rows with their multipliers.
use Rattle.std.proofs.Common.{◌≡◌, ℕ, Bool, true, ◌&&◌, nat_eq, List, ap}
use Rattle.std.specs.Bool.{Decides}
use Rattle.std.specs.Cmp.Lexicographic.{pointwise}
use Rattle.std.specs.Cmp.Derive.{both_true}
use Rattle.std.proofs.lemmas.Bool.{and_parts}
use Rattle.std.proofs.lemmas.Bool.Decides.{Decides-eqb}
use Rattle.std.proofs.lemmas.Slice.Eq.{slice_eq-Decides}

abbrev is_row : ℕ × ℕ → ℕ × ℕ → Bool
is_row x y = nat_eq x.0 y.0 && nat_eq x.1 y.1

row-decides : (x y : ℕ × ℕ) → Decides (is_row x y) (x ≡ y)
row-decides x y = (same, λ e. both_true ((Decides-eqb x.0 y.0).1 (ap (λ p. p.0) e)) ((Decides-eqb x.1 y.1).1 (ap (λ p. p.1) e)))
  where
    same : is_row x y ≡ true → x ≡ y
    same h =
        let k : (nat_eq x.0 y.0 ≡ true) × (nat_eq x.1 y.1 ≡ true) = and_parts (nat_eq x.0 y.0) (nat_eq x.1 y.1) h in
        λ i. ((Decides-eqb x.0 y.0).0 k.0 i, (Decides-eqb x.1 y.1).0 k.1 i)

pub rows-same : (ps qs : List (ℕ × ℕ)) (r : Bool) → r ≡ pointwise is_row ps qs → r ≡ true → ps ≡ qs
rows-same ps qs r e h = (slice_eq-Decides row-decides ps qs r e).0 h
