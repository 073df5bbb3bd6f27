-- Differences of written forms are forms.
use Rattle.std.proofs.Common.{◌≡◌, ℕ, zero, suc, ◌+◌, ◌^◌, ◌<◌, ◌≤◌, true, List, [], ◌∷◌, map, refl, arith, ℤ, pos, negsuc, ◌+ℤ◌, Ok, nat_lt, unsigned_abs}
use Rattle.std.specs.Prelude.{neg_ℤ}
use Rattle.std.proofs.lemmas.Bool.{and_parts, and_from}
use Rattle.std.proofs.lemmas.Bool.Decides.{nat_tests}
use Rattle.std.proofs.lemmas.Int.{ints}
use Rattle.st_linear.specs.Linear.{Linear, is_within, is_small, are_small, fits, fitting, joined, with_entry, sum_of, number}
use Rattle.st_linear.proofs.Joined.{joined-ind}
use Rattle.st_program.specs.Groups.{is_written_number, are_written}
use Rattle.expression_typer.specs.Written.{is_writable, fitted, difference, lowered}
use Rattle.expression_typer.specs.Rules.{minus, less_one}

abbrev pub Within : ℕ → List (ℕ × ℤ) → Type 0
Within b [] = Unit {0}
Within b (e ∷ es) = (unsigned_abs e.1 ≤ b) × Within b es

pub modest_le : (z : ℤ) → is_written_number z ≡ true → unsigned_abs z ≤ 2 ^ 30
unfolding is_written_number
modest_le z h = grind (arith, nat_tests)

pub within_written : (es : List (ℕ × ℤ)) → are_written es ≡ true → Within (2 ^ 30) es
within_written [] h = tt
within_written (e ∷ es) h = let p = and_parts (is_written_number e.1) (are_written es) h in (modest_le e.1 p.0, within_written es p.1)

within_more : (b c : ℕ) (es : List (ℕ × ℤ)) → b ≤ c → Within b es → Within c es
within_more b c [] h k = tt
within_more b c (e ∷ es) h k = (omega (arith, k.0), within_more b c es h k.1)

pub within_entry : (b v : ℕ) (c : ℤ) (es : List (ℕ × ℤ)) → unsigned_abs c ≤ b → Within b es → Within b (with_entry v c es)
within_entry b v (pos zero) es h k = k
within_entry b v (pos (suc n)) es h k = (h, k)
within_entry b v (negsuc n) es h k = (h, k)

abs_neg : (z : ℤ) → unsigned_abs (neg_ℤ z) ≤ unsigned_abs z
abs_neg (pos zero) = omega arith
abs_neg (pos (suc n)) = omega arith
abs_neg (negsuc n) = omega arith

pub abs_sum : (x y : ℤ) → unsigned_abs (x +ℤ y) ≤ unsigned_abs x + unsigned_abs y
abs_sum x y = omega (arith, ints)

within_negated : (b : ℕ) (es : List (ℕ × ℤ)) → Within b es → Within b (map (λ e. (e.0, neg_ℤ e.1)) es)
within_negated b [] h = tt
within_negated b (e ∷ es) h = (omega (arith, h.0, abs_neg e.1), within_negated b es h.1)

within_joined : (b c : ℕ) (xs ys : List (ℕ × ℤ)) → Within b xs → Within c ys → Within (b + c) (joined xs ys)
within_joined b c =
    joined-ind (λ xs ys zs. Within b xs → Within c ys → Within (b + c) zs)
    (λ ys h k. within_more c (b + c) ys (omega arith) k)
    (λ x xs h k. within_more b (b + c) (x ∷ xs) (omega arith) h)
    (λ x y xs ys zs o p h k. (omega (arith, h.0), p h.1 k))
    (λ x y xs ys zs o p h k. (omega (arith, k.0), p h k.1))
    (λ x y xs ys zs o p h k. within_entry (b + c) x.0 (x.1 +ℤ y.1) zs (omega (arith, h.0, k.0, abs_sum x.1 y.1)) (p h.1 k.1))

small_below : (a b c : ℕ) → a ≤ b → b < c → nat_lt a c ≡ true
small_below a b c h k = grind (arith, nat_tests)

small_within : (b : ℕ) (es : List (ℕ × ℤ)) → b < 2 ^ 100 → Within b es → are_small es ≡ true
unfolding is_within
small_within b [] h k = refl
small_within b (e ∷ es) h k = and_from (is_small e.1) (are_small es) (small_below _ b _ k.0 h) (small_within b es h k.1)

pub record Bounded (b : ℕ) (f : Linear) : Type 0 where
  pub constant : unsigned_abs f.constant ≤ b
  pub entries : Within b f.entries

pub bounded_written : (f : Linear) → is_writable f ≡ true → Bounded (2 ^ 30) f
unfolding is_writable
bounded_written f h =
    let p = and_parts (is_written_number f.constant) (are_written f.entries) h in
    record { constant = modest_le f.constant p.0; entries = within_written f.entries p.1 }

pub bounded_minus : (b c : ℕ) (f g : Linear) → Bounded b f → Bounded c g → Bounded (b + c) (minus f g)
bounded_minus b c f g h k = record {
  constant = omega (arith, h.constant, k.constant, abs_neg g.constant, abs_sum f.constant (neg_ℤ g.constant));
  entries = within_joined b c _ _ h.entries (within_negated c g.entries k.entries);
}

pub bounded_one : Bounded 1 (number (negsuc 0))
bounded_one = record { constant = omega arith; entries = tt }

pub bounded_sum : (b c : ℕ) (f g : Linear) → Bounded b f → Bounded c g → Bounded (b + c) (sum_of f g)
bounded_sum b c f g h k = record {
  constant = omega (arith, h.constant, k.constant, abs_sum f.constant g.constant);
  entries = within_joined b c _ _ h.entries k.entries;
}

pub bounded_fits : (b : ℕ) (f : Linear) → b < 2 ^ 100 → Bounded b f → fits f ≡ true
unfolding is_within
bounded_fits b f h k = and_from (is_small f.constant) (are_small f.entries) (small_below _ b _ k.constant h) (small_within b f.entries h k.entries)

pub fitted_is : (b at : ℕ) (f : Linear) → b < 2 ^ 100 → Bounded b f → fitted at f ≡ Ok f
unfolding fitting
fitted_is b at f h k = rw (bounded_fits b f h k)

pub difference_is : (at : ℕ) (f g : Linear) → is_writable f ≡ true → is_writable g ≡ true → difference at f g ≡ Ok (minus f g)
difference_is at f g h k = fitted_is (2 ^ 30 + 2 ^ 30) at (minus f g) (omega arith) (bounded_minus _ _ f g (bounded_written f h) (bounded_written g k))

pub lowered_is : (at : ℕ) (f g : Linear) → is_writable f ≡ true → is_writable g ≡ true → lowered at f g ≡ Ok (less_one (minus f g))
lowered_is at f g h k =
    rw (difference_is at f g h k, fitted_is 1 at (number (negsuc 0)) (omega arith) bounded_one)
    (fitted_is (2 ^ 30 + 2 ^ 30 + 1) at (less_one (minus f g)) (omega arith) (bounded_sum _ _ (minus f g) (number (negsuc 0)) (bounded_minus _ _ f g (bounded_written f h) (bounded_written g k)) bounded_one))
