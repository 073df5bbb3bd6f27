-- Linear forms whose constants and entries compare equal are equal.
use Rattle.std.proofs.Common.{◌≡◌, ℕ, Bool, true, List, ap, ◌∙◌, sym}
use Rattle.std.specs.Prelude.{◌==◌, ◌&&◌, ℤ}
use Rattle.std.specs.Ordering.{int_eq}
use Rattle.std.specs.Bool.{Decides}
use Rattle.std.specs.Cmp.{unsigned_Decides, signed_Decides}
use Rattle.std.specs.Cmp.Lexicographic.{pointwise}
use Rattle.std.proofs.lemmas.Bool.Decides.{Decides-and}
use Rattle.std.proofs.lemmas.Slice.Eq.{slice_eq-Decides}
use Rattle.st_linear.specs.Linear.{Linear}

pair-decides : (p q : ℕ × ℤ) → Decides ((p.0 == q.0) && int_eq p.1 q.1) (p ≡ q)
pair-decides p q =
    let d = Decides-and (p.0 == q.0) (int_eq p.1 q.1) (unsigned_Decides p.0 q.0) (signed_Decides p.1 q.1) in
    ((λ e. (λ i. ((d.0 e).0 i, (d.0 e).1 i))), (λ e. d.1 (ap (λ (x : ℕ × ℤ). x.0) e, ap (λ (x : ℕ × ℤ). x.1) e)))

pub entries-same : (xs ys : List (ℕ × ℤ)) (r : Bool) → r ≡ pointwise (λ (p q : ℕ × ℤ). (p.0 == q.0) && int_eq p.1 q.1) xs ys → r ≡ true → xs ≡ ys
entries-same xs ys r e h = (slice_eq-Decides pair-decides xs ys r e).0 h

pub forms-same : (f g : Linear) (xs ys : List (ℕ × ℤ)) (c d : ℤ) → c ≡ f.constant → d ≡ g.constant → xs ≡ f.entries → ys ≡ g.entries → c ≡ d → xs ≡ ys → f ≡ g
forms-same f g xs ys c d a b x y k s = λ i. record { constant = (sym a ∙ k ∙ b) i; entries = (sym x ∙ s ∙ y) i }

pub ruleset comparing = (entries-same, forms-same)
