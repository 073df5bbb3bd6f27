-- Names that are apart, in whatever order they stand.
use Rattle.std.proofs.Common.{◌≡◌, ℕ, Bool, true, false, List, [], ◌∷◌, ◌++◌, refl, sym, ap, subst, ◌∙◌, append_assoc}
use Rattle.std.specs.Str.{bytes_eq}
use Rattle.std.proofs.lemmas.Slice.Eq.{bytes_eq-Decides}
use Rattle.st_program.specs.Names.{IsNew, AreApart}

abbrev pub Texts : Type 0
Texts = List (List ℕ)

not_true : true ≡ false → ⊥
not_true e = cc

pub turned : (x y : List ℕ) → bytes_eq x y ≡ false → bytes_eq y x ≡ false
turned x y h = go (bytes_eq y x) refl
  where
    go : (b : Bool) → bytes_eq y x ≡ b → b ≡ false
    go false e = refl
    go true e = absurd (not_true (sym ((bytes_eq-Decides x y).1 (sym ((bytes_eq-Decides y x).0 e))) ∙ h))

pub new_at : (x n : List ℕ) (xs ys : Texts) → IsNew x (xs ++ n ∷ ys) → bytes_eq n x ≡ false
new_at x n [] ys h = h.0
new_at x n (z ∷ xs) ys h = new_at x n xs ys h.1

pub new_both : (x : List ℕ) (xs ys : Texts) → IsNew x xs → IsNew x ys → IsNew x (xs ++ ys)
new_both x [] ys h g = g
new_both x (z ∷ xs) ys h g = (h.0, new_both x xs ys h.1 g)

new_front : (x : List ℕ) (xs ys : Texts) → IsNew x (xs ++ ys) → IsNew x xs
new_front x [] ys h = tt
new_front x (z ∷ xs) ys h = (h.0, new_front x xs ys h.1)

pub apart_front : (xs ys : Texts) → AreApart (xs ++ ys) → AreApart xs
apart_front [] ys h = tt
apart_front (x ∷ xs) ys h = (new_front x xs ys h.0, apart_front xs ys h.1)

-- names that are apart from no more and no fewer, in another order
record Follows (xs ys : Texts) : Type 0 where
  new : (x : List ℕ) → IsNew x xs → IsNew x ys
  apart : AreApart xs → AreApart ys

same : (xs : Texts) → Follows xs xs
same xs = record { new = λ x h. h; apart = λ h. h }

then_on : (xs ys zs : Texts) → Follows xs ys → Follows ys zs → Follows xs zs
then_on xs ys zs a b = record { new = λ x h. b.new x (a.new x h); apart = λ h. b.apart (a.apart h) }

under : (x : List ℕ) (xs ys : Texts) → Follows xs ys → Follows (x ∷ xs) (x ∷ ys)
under x xs ys a = record { new = λ y h. (h.0, a.new y h.1); apart = λ h. (a.new x h.0, a.apart h.1) }

behind : (ps xs ys : Texts) → Follows xs ys → Follows (ps ++ xs) (ps ++ ys)
behind [] xs ys a = a
behind (p ∷ ps) xs ys a = under p (ps ++ xs) (ps ++ ys) (behind ps xs ys a)

swapped : (x y : List ℕ) (xs : Texts) → Follows (x ∷ y ∷ xs) (y ∷ x ∷ xs)
swapped x y xs = record {
  new = λ z h. (h.1.0, (h.0, h.1.1));
  apart = λ h. ((turned y x h.0.0, h.1.0), (h.0.1, h.1.1));
}

lifted : (x : List ℕ) (ps xs : Texts) → Follows (x ∷ (ps ++ xs)) (ps ++ x ∷ xs)
lifted x [] xs = same (x ∷ xs)
lifted x (p ∷ ps) xs = then_on (x ∷ p ∷ (ps ++ xs)) (p ∷ x ∷ (ps ++ xs)) (p ∷ (ps ++ x ∷ xs)) (swapped x p (ps ++ xs)) (under p (x ∷ (ps ++ xs)) (ps ++ x ∷ xs) (lifted x ps xs))

moved : (xs ys zs : Texts) → Follows (xs ++ (ys ++ zs)) (ys ++ (xs ++ zs))
moved [] ys zs = same (ys ++ zs)
moved (x ∷ xs) ys zs =
    then_on (x ∷ (xs ++ (ys ++ zs))) (x ∷ (ys ++ (xs ++ zs))) (ys ++ x ∷ (xs ++ zs)) (under x (xs ++ (ys ++ zs)) (ys ++ (xs ++ zs)) (moved xs ys zs)) (lifted x ys (xs ++ zs))

-- kind by kind, and process by process
module _ (n a b c d e f : Texts) where
  by_kind : n ++ ((a ++ b) ++ ((c ++ d) ++ (e ++ f))) ≡ n ++ (a ++ (b ++ (c ++ (d ++ (e ++ f)))))
  by_kind = ap (λ z. n ++ z) (append_assoc a b ((c ++ d) ++ (e ++ f)) ∙ ap (λ z. a ++ (b ++ z)) (append_assoc c d (e ++ f)))

  by_process : (n ++ (c ++ (a ++ e))) ++ (b ++ (d ++ f)) ≡ n ++ (c ++ (a ++ (e ++ (b ++ (d ++ f)))))
  by_process = append_assoc n (c ++ (a ++ e)) (b ++ (d ++ f)) ∙ ap (λ z. n ++ z) (append_assoc c (a ++ e) (b ++ (d ++ f)) ∙ ap (λ z. c ++ z) (append_assoc a e (b ++ (d ++ f))))

  -- c before a and b, and e before d and b
  onward : Follows (a ++ (b ++ (c ++ (d ++ (e ++ f))))) (c ++ (a ++ (e ++ (b ++ (d ++ f)))))
  onward =
      then_on (a ++ (b ++ (c ++ (d ++ (e ++ f))))) (a ++ (c ++ (b ++ (d ++ (e ++ f))))) (c ++ (a ++ (e ++ (b ++ (d ++ f)))))
      (behind a (b ++ (c ++ (d ++ (e ++ f)))) (c ++ (b ++ (d ++ (e ++ f)))) (moved b c (d ++ (e ++ f))))
      (then_on (a ++ (c ++ (b ++ (d ++ (e ++ f))))) (c ++ (a ++ (b ++ (d ++ (e ++ f))))) (c ++ (a ++ (e ++ (b ++ (d ++ f))))) (moved a c (b ++ (d ++ (e ++ f))))
      (behind c (a ++ (b ++ (d ++ (e ++ f)))) (a ++ (e ++ (b ++ (d ++ f)))) (behind a (b ++ (d ++ (e ++ f))) (e ++ (b ++ (d ++ f)))
      (then_on (b ++ (d ++ (e ++ f))) (b ++ (e ++ (d ++ f))) (e ++ (b ++ (d ++ f))) (behind b (d ++ (e ++ f)) (e ++ (d ++ f)) (moved d e f)) (moved b e (d ++ f))))))

  pub apart_by_process : AreApart (n ++ ((a ++ b) ++ ((c ++ d) ++ (e ++ f)))) → AreApart ((n ++ (c ++ (a ++ e))) ++ (b ++ (d ++ f)))
  apart_by_process h =
      subst AreApart (sym by_process)
      ((behind n (a ++ (b ++ (c ++ (d ++ (e ++ f))))) (c ++ (a ++ (e ++ (b ++ (d ++ f))))) onward).apart (subst AreApart by_kind h))

-- a name that is put behind others
pub apart_second : (x : List ℕ) (ps xs : Texts) → AreApart (x ∷ (ps ++ xs)) → AreApart (ps ++ x ∷ xs)
apart_second x ps xs h = (lifted x ps xs).apart h

pub apart_third : (x : List ℕ) (ps qs xs : Texts) → AreApart (x ∷ (ps ++ (qs ++ xs))) → AreApart (ps ++ (qs ++ x ∷ xs))
apart_third x ps qs xs h = (behind ps (x ∷ (qs ++ xs)) (qs ++ x ∷ xs) (lifted x qs xs)).apart ((lifted x ps (qs ++ xs)).apart h)
