-- How many paths there are, up to 65.
use Rattle.std.proofs.Common.{◌≡◌, ℕ, zero, suc, ◌+◌, ◌*◌, ◌<◌, ◌≤◌, Bool, true, false, min, nat_le, List, ◌∷◌, length, map, drop, get_or, refl, ap, sym, ◌∙◌, arith, ◌⊎◌, inl, inr}
use Rattle.std.proofs.Math.Nat.{mul-suc, mul_assoc, mul-zero, mul_comm}
use Rattle.std.proofs.lemmas.Bool.Decides.{nat_tests}
use Rattle.std.proofs.lemmas.List.{drop_more, length-map, length-append}
use Rattle.st_form.specs.Formula.{Formula}
use Rattle.st_program.specs.declared.trees.Inner.{Inner}
use Rattle.st_program.specs.Tree.{Piece, piece, piece_if}
use Rattle.st_program.specs.Plain.{plain_inner, plain_pieces}
use Rattle.st_program.specs.Groups.{Link, tested, paths, paths_along}
use Rattle.spl_typer.proofs.Products.{length-times}

split : (x : ℕ) → (x ≤ 65) ⊎ (65 ≤ x)
split x = go (nat_le x 65) refl
  where
    go : (b : Bool) → nat_le x 65 ≡ b → (x ≤ 65) ⊎ (65 ≤ x)
    go true e = inl (grind (arith, nat_tests))
    go false e = inr (grind (arith, nat_tests))

few : (x : ℕ) → x ≤ 65 → min x 65 ≡ x
few x h = omega (arith, h)

many : (x : ℕ) → 65 ≤ x → min x 65 ≡ 65
many x h = omega (arith, h)

at_least : (x b : ℕ) → 65 ≤ x → 65 ≤ x * suc b
at_least x b h = rw (mul-suc x b) (omega (arith, h))

cap_first : (x b : ℕ) → min (min x 65 * b) 65 ≡ min (x * b) 65
cap_first x zero = ap (λ n. min n 65) (mul-zero (min x 65) ∙ sym (mul-zero x))
cap_first x (suc b) = go (split x)
  where
    go : (x ≤ 65) ⊎ (65 ≤ x) → min (min x 65 * suc b) 65 ≡ min (x * suc b) 65
    go (inl h) = ap (λ n. min (n * suc b) 65) (few x h)
    go (inr h) = ap (λ n. min (n * suc b) 65) (many x h) ∙ many (65 * suc b) (at_least 65 b (omega arith)) ∙ sym (many (x * suc b) (at_least x b h))

cap_second : (p a : ℕ) → min (p * min a 65) 65 ≡ min (p * a) 65
cap_second p a = ap (λ n. min n 65) (mul_comm p (min a 65)) ∙ cap_first a p ∙ ap (λ n. min n 65) (mul_comm a p)

cap : (p a b : ℕ) → min (min (p * min a 65) 65 * b) 65 ≡ min (p * (a * b)) 65
cap p a b = cap_first (p * min a 65) b ∙ sym (cap_first (p * min a 65) b) ∙ ap (λ n. min (n * b) 65) (cap_second p a) ∙ cap_first (p * a) b ∙ ap (λ n. min n 65) (mul_assoc p a b)

pub count-step : (ps : List Inner) (i : ℕ) (x : Inner) (p n q whole : ℕ) → i < length ps → x ≡ get_or ps i x → n ≡ min (length (paths (plain_inner x))) 65 → q ≡ min (p * n) 65
    → min (p * length (paths_along (plain_pieces (drop i ps)))) 65 ≡ whole
    → (q ≤ 65) × (min (q * length (paths_along (plain_pieces (drop (i + 1) ps)))) 65 ≡ whole)
count-step ps i x p n q whole h k en eq g = (
  rw eq (omega arith),
  rw (eq, en)
      (cap p (length (paths (plain_inner x))) (length (paths_along (plain_pieces (drop (i + 1) ps))))
      ∙ ap (λ m. min (p * m) 65) (sym (length-times (paths (plain_inner x)) (paths_along (plain_pieces (drop (i + 1) ps)))))
      ∙ ap (λ y. min (p * length (paths_along (piece (plain_inner y) (plain_pieces (drop (i + 1) ps))))) 65) k
      ∙ ap (λ l. min (p * length (paths_along (plain_pieces l))) 65) (sym (drop_more ps i x h))
      ∙ g),
)

cap_sum : (a b : ℕ) → min (min a 65 + min b 65) 65 ≡ min (a + b) 65
cap_sum a b = omega arith

pub count-if : (x : Piece) (t : Formula) (ys ns ys1 ns1 : List Inner) (a b : ℕ) → x ≡ piece_if t (plain_pieces ys) (plain_pieces ns) → ys1 ≡ ys → ns1 ≡ ns
    → a ≡ min (length (paths_along (plain_pieces ys1))) 65 → b ≡ min (length (paths_along (plain_pieces ns1))) 65
    → min (a + b) 65 ≡ min (length (paths x)) 65
count-if x t ys ns ys1 ns1 a b e y n ea eb =
    rw (e, ea, eb, y, n)
    (cap_sum (length yes_paths) (length no_paths)
    ∙ ap (λ k. min k 65) (sym (length-append (map with_true yes_paths) (map with_false no_paths) ∙ ap (λ k. k + length (map with_false no_paths)) (length-map yes_paths with_true) ∙ ap (λ k. length yes_paths + k) (length-map no_paths with_false))))
  where
    yes_paths : List (List Link)
    yes_paths = paths_along (plain_pieces ys)

    no_paths : List (List Link)
    no_paths = paths_along (plain_pieces ns)

    with_true : List Link → List Link
    with_true path = tested t true ∷ path

    with_false : List Link → List Link
    with_false path = tested t false ∷ path
