-- Two ways to cut the same bytes: where neither cuts a token, the longer front holds the token behind the shorter one.
use Rattle.std.proofs.Common.{◌≡◌, ℕ, ◌<◌, ◌≤◌, true, false, ◌&&◌, ◌||◌, ◌⊎◌, inl, inr, List, [], ◌∷◌, ◌++◌, length, refl, sym, ap, ◌∙◌, subst, arith}
use Rattle.std.proofs.lemmas.Bool.{cases_lt}
use Rattle.std.proofs.lemmas.List.{length-append}
use Rattle.std.proofs.lemmas.Bool.Decides.{nat_tests}
use Rattle.cert_text.specs.Letters.{is_letter, is_digit}
use Rattle.cert_laws.specs.Spelled.{AreAll, IsSign}
use Rattle.cert_laws.specs.Refused.{IsOfToken, runs_on}
use Rattle.cert_laws.proofs.Ending.{runs_behind}

no_truth : false ≡ true → ⊥
no_truth h = cc

abbrev head_in : ℕ → List ℕ → ℕ
head_in x [] = x
head_in x (y ∷ ys) = y

abbrev tail_in : List ℕ → List ℕ
tail_in [] = []
tail_in (y ∷ ys) = ys

abbrev pub Aligned : List ℕ → List ℕ → List ℕ → List ℕ → Type 0
Aligned xs ys us bs = (m : List ℕ) × (us ≡ xs ++ m) × (ys ≡ m ++ bs)

pub aligned : (xs ys us bs : List ℕ) → xs ++ ys ≡ us ++ bs → length xs ≤ length us → Aligned xs ys us bs
aligned [] ys us bs e l = (us, refl, e)
aligned (x ∷ xs) ys [] bs e l = absurd (omega (arith, l))
aligned (x ∷ xs) ys (a ∷ us) bs e l =
    let r = aligned xs ys us bs (ap tail_in e) (omega (arith, l)) in
    (r.0, ap (λ k. k ∷ us) (sym (ap (head_in x) e)) ∙ ap (λ k. x ∷ k) r.1, r.2)

both_letters : (a b : ℕ) → is_letter a ≡ true → is_letter b ≡ true → ((is_letter a && is_letter b) || (is_digit a && is_digit b)) ≡ true
both_letters a b h k = grind (arith, nat_tests)

both_digits : (a b : ℕ) → is_digit a ≡ true → is_digit b ≡ true → ((is_letter a && is_letter b) || (is_digit a && is_digit b)) ≡ true
both_digits a b h k = grind (arith, nat_tests)

letters_run : (y : ℕ) (ys : List ℕ) (m : ℕ) (ms more : List ℕ) → AreAll is_letter (y ∷ ys ++ m ∷ ms) → runs_on (y ∷ ys) (m ∷ more) ≡ true
letters_run y [] m ms more h = both_letters y m h.0 h.1.0
letters_run y (z ∷ ys) m ms more h = letters_run z ys m ms more h.1

digits_run : (y : ℕ) (ys : List ℕ) (m : ℕ) (ms more : List ℕ) → AreAll is_digit (y ∷ ys ++ m ∷ ms) → runs_on (y ∷ ys) (m ∷ more) ≡ true
digits_run y [] m ms more h = both_digits y m h.0 h.1.0
digits_run y (z ∷ ys) m ms more h = digits_run z ys m ms more h.1

-- a token that is cut runs on
cut_runs : (cs : List ℕ) (y : ℕ) (ys : List ℕ) (m : ℕ) (ms more : List ℕ) → IsOfToken cs → cs ≡ y ∷ ys ++ m ∷ ms → runs_on (y ∷ ys) (m ∷ more) ≡ true
cut_runs cs y ys m ms more o e = by o.3 where
  same : o.0 ∷ o.1 ≡ y ∷ ys ++ m ∷ ms
  same = sym o.2 ∙ e

  short : length (o.0 ∷ o.1) ≡ length (y ∷ ys ++ m ∷ ms)
  short = ap length (sym o.2 ∙ e)

  by : AreAll is_letter (o.0 ∷ o.1) ⊎ (AreAll is_digit (o.0 ∷ o.1) ⊎ (IsSign o.0 × (o.1 ≡ []))) → runs_on (y ∷ ys) (m ∷ more) ≡ true
  by (inl h) = letters_run y ys m ms more (subst (AreAll is_letter) (sym o.2 ∙ e) h)
  by (inr (inl h)) = digits_run y ys m ms more (subst (AreAll is_digit) (sym o.2 ∙ e) h)
  by (inr (inr h)) =
      let one = ap (λ l. length (o.0 ∷ l)) h.1 in
      let two = ap length (sym o.2 ∙ e) in
      let long = length-append ys (m ∷ ms) in
      absurd (omega (arith, one, two, long))

abbrev pub Holds : List ℕ → List ℕ → List ℕ → List ℕ → List ℕ → Type 0
Holds front cs rest more behind = (z : List ℕ) × (more ≡ front ++ (cs ++ z)) × (rest ≡ z ++ behind)

-- the longer front holds the token
pub holds : (front cs rest more behind : List ℕ) → front ++ (cs ++ rest) ≡ more ++ behind → IsOfToken cs → runs_on more behind ≡ false → length front < length more → Holds front cs rest more behind
holds front cs rest more behind e o s l = from (aligned front (cs ++ rest) more behind e (omega (arith, l))) where
  from : Aligned front (cs ++ rest) more behind → Holds front cs rest more behind
  from r = by (cases_lt (length r.0) (length cs)) where
    whole : length cs ≤ length r.0 → Holds front cs rest more behind
    whole k = let g = aligned cs rest r.0 behind r.2 k in (g.0, r.1 ∙ ap (λ x. front ++ x) g.1, g.2)

    cut : (y : List ℕ) → r.0 ≡ y → (m : List ℕ) → cs ≡ r.0 ++ m → behind ≡ m ++ rest → length r.0 < length cs → ⊥
    cut [] q m c b k =
        let f = ap length (r.1 ∙ ap (λ x. front ++ x) q) in
        let g = length-append front [] in
        omega (arith, l, f, g)
    cut (y ∷ ys) q [] c b k =
        let f = ap length c in
        let g = length-append r.0 [] in
        omega (arith, k, f, g)
    cut (y ∷ ys) q (m ∷ ms) c b k =
        no_truth (sym s ∙ ap (λ x. runs_on x behind) (r.1 ∙ ap (λ x. front ++ x) q) ∙ runs_behind front y ys behind ∙ ap (runs_on (y ∷ ys)) b ∙ cut_runs cs y ys m ms (ms ++ rest) o (c ∙ ap (λ x. x ++ m ∷ ms) q))

    by : (length r.0 < length cs) ⊎ (length cs ≤ length r.0) → Holds front cs rest more behind
    by (inr k) = whole k
    by (inl k) = let g = aligned r.0 behind cs rest (sym r.2) (omega (arith, k)) in absurd (cut r.0 refl g.0 g.1 g.2 k)
