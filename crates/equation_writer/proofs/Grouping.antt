-- Components with coefficients, one after the other.
use Rattle.std.proofs.Common.{◌≡◌, ℕ, suc, ◌+◌, ◌-◌, ◌<◌, List, [], ◌∷◌, ◌++◌, length, refl, sym, ap, ◌∙◌, arith, append_assoc}
use Rattle.std.proofs.lemmas.List.{map-append}
use Rattle.std.specs.declared.vec.Vec.{Vec}
use Rattle.std.specs.declared.alloc.Global.{Global}
use Rattle.std.specs.Prelude.{ℤ}
use Rattle.equation_forms.specs.Formulas.{Terms, terms_of, with_terms, groups}
use Rattle.equation_writer.specs.Plain.{plain_terms}

-- the components from one on
from-one : (owners : List ℕ) (ts : Terms) (m c : ℕ) → c < m → groups owners ts (m - c) c ≡ with_terms (terms_of owners c ts) (groups owners ts (m - (c + 1)) (c + 1))
from-one owners ts m c l = let e : m - c ≡ suc (m - (c + 1)) = omega arith in ap (λ j. groups owners ts j c) e

nothing-there : (xs : Terms) → length xs ≡ 0 → xs ≡ []
nothing-there [] h = refl
nothing-there (x ∷ xs) h = absurd (omega arith)

something-there : (xs : Terms) (gs : List Terms) → 0 < length xs → with_terms xs gs ≡ xs ∷ gs
something-there [] gs h = absurd (omega arith)
something-there (x ∷ xs) gs h = refl

pub groups-skip : (owners : List ℕ) (ts : Terms) (m c : ℕ) (out whole : List Terms) → c < m → length (terms_of owners c ts) ≡ 0 → out ++ groups owners ts (m - c) c ≡ whole → out ++ groups owners ts (m - (c + 1)) (c + 1) ≡ whole
groups-skip owners ts m c out whole l none h =
    sym (ap (λ z. out ++ z) (from-one owners ts m c l ∙ ap (λ z. with_terms z (groups owners ts (m - (c + 1)) (c + 1))) (nothing-there (terms_of owners c ts) none))) ∙ h

pub groups-next : (owners : List ℕ) (ts : Terms) (m c : ℕ) (vs : List (Vec (ℕ × ℤ) Global)) (v : Vec (ℕ × ℤ) Global) (whole : List Terms) → c < m → v.items ≡ terms_of owners c ts → 0 < length v.items
    → plain_terms vs ++ groups owners ts (m - c) c ≡ whole → plain_terms (vs ++ v ∷ []) ++ groups owners ts (m - (c + 1)) (c + 1) ≡ whole
groups-next owners ts m c vs v whole l is some h =
    let rest = groups owners ts (m - (c + 1)) (c + 1) in
    ap (λ z. z ++ rest) (map-append (λ (w : Vec (ℕ × ℤ) Global). w.items) vs (v ∷ []))
    ∙ append_assoc (plain_terms vs) (v.items ∷ []) rest
    ∙ ap (λ z. plain_terms vs ++ z) (sym (something-there v.items rest some) ∙ ap (λ z. with_terms z rest) is ∙ sym (from-one owners ts m c l))
    ∙ h
