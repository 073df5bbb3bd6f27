-- An escaped text has no byte that begins a tag or ends an attribute.
use Rattle.std.proofs.Common.{◌≡◌, ℕ, Bool, true, false, List, [], ◌∷◌, ◌++◌, refl, arith}
use Rattle.std.specs.Prelude.{◌==◌, if◌then◌else◌, codes}
use Rattle.std.proofs.lemmas.Bool.Decides.{nat_tests}
use Rattle.html_escapes.specs.Escapes.{escaped_byte, escaped, IsInert, AreInert, EscapesAreInert}

both : (xs ys : List ℕ) → AreInert xs → AreInert ys → AreInert (xs ++ ys)
both [] ys h k = k
both (x ∷ xs) ys h k = (h.0, both xs ys h.1 k)

inert : (b : ℕ) → (b == 60) ≡ false → (b == 62) ≡ false → (b == 34) ≡ false → IsInert b
inert b less greater quote = record {
  not_less = grind (arith, nat_tests);
  not_greater = grind (arith, nat_tests);
  not_quote = grind (arith, nat_tests);
}

ampersand : AreInert (codes "&amp;")
ampersand = (inert 38 refl refl refl, (inert 97 refl refl refl, (inert 109 refl refl refl, (inert 112 refl refl refl, (inert 59 refl refl refl, tt)))))

less : AreInert (codes "&lt;")
less = (inert 38 refl refl refl, (inert 108 refl refl refl, (inert 116 refl refl refl, (inert 59 refl refl refl, tt))))

greater : AreInert (codes "&gt;")
greater = (inert 38 refl refl refl, (inert 103 refl refl refl, (inert 116 refl refl refl, (inert 59 refl refl refl, tt))))

quote : AreInert (codes "&quot;")
quote = (inert 38 refl refl refl, (inert 113 refl refl refl, (inert 117 refl refl refl, (inert 111 refl refl refl, (inert 116 refl refl refl, (inert 59 refl refl refl, tt))))))

by_tests : (b : ℕ) (a l g q : Bool) → (b == 60) ≡ l → (b == 62) ≡ g → (b == 34) ≡ q
    → AreInert (if a then codes "&amp;" else (if l then codes "&lt;" else (if g then codes "&gt;" else (if q then codes "&quot;" else b ∷ []))))
by_tests b true l g q el eg eq = ampersand
by_tests b false true g q el eg eq = less
by_tests b false false true q el eg eq = greater
by_tests b false false false true el eg eq = quote
by_tests b false false false false el eg eq = (inert b el eg eq, tt)

pub escapes_are_inert : EscapesAreInert
escapes_are_inert [] = tt
escapes_are_inert (b ∷ bs) = both (escaped_byte b) (escaped bs) (by_tests b (b == 38) (b == 60) (b == 62) (b == 34) refl refl refl) (escapes_are_inert bs)
