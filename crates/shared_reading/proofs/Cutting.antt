-- The words of a cut: its constant, its terms up to the colon, and its parts.
use Rattle.std.proofs.Common.{◌≡◌, ℕ, ℤ, ◌+◌, ◌-◌, ◌<◌, ◌≤◌, List, [], ◌∷◌, length, map, take, drop, get_or, refl, ap, ◌∙◌, sym, Result, Ok, Err, arith}
use Rattle.std.specs.Borrow.{Bor}
use Rattle.std.specs.List.{drop-map, take-map}
use Rattle.std.proofs.lemmas.List.{take_all}
use Rattle.st_linear.specs.Linear.{of_entries}
use Rattle.shared_certificates.specs.Reading.{◌>>=◌, all_of, cut, cut_by, parts, signed, term, terms_len}
use Rattle.shared_certificates.specs.Views.{bytes_of}

-- what stands behind the first word
abbrev pub others : List (Bor (List ℕ)) → List (Bor (List ℕ))
others words = take (length words - 1) (drop 1 words)

others-are : (w : Bor (List ℕ)) (ws : List (Bor (List ℕ))) → others (w ∷ ws) ≡ ws
others-are w ws = take_all (length (w ∷ ws) - 1) ws (omega arith)

pub cut-made : (count : ℕ) (words : List (Bor (List ℕ))) (d : Bor (List ℕ)) (front behind : List (Bor (List ℕ))) (n : ℕ) (z : ℤ) (es : List (ℕ × ℤ)) (ns : List ℕ)
    → 1 ≤ length words → n ≡ terms_len (map bytes_of (others words)) → front ≡ take n (others words) → behind ≡ drop n (others words)
    → signed 1152921504606846976 (get_or words 0 d).now ≡ Ok z → all_of term (map bytes_of front) ≡ Ok es → parts count (map bytes_of behind) ≡ Ok ns
    → cut count (map bytes_of words) ≡ cut_by (of_entries z es) ns
cut-made count [] d front behind n z es ns h en ef eb hz he hn = absurd (omega (arith, h))
cut-made count (w ∷ ws) d front behind n z es ns h en ef eb hz he hn =
    let vs : List (List ℕ) = map bytes_of ws in
    let o : others (w ∷ ws) ≡ ws = others-are w ws in
    let k : terms_len vs ≡ n = sym (en ∙ ap (λ x. terms_len (map bytes_of x)) o) in
    let f : take (terms_len vs) vs ≡ map bytes_of front = ap (λ x. take x vs) k ∙ take-map bytes_of n ws ∙ ap (map bytes_of) (ap (take n) (sym o) ∙ sym ef) in
    let b : drop (terms_len vs) vs ≡ map bytes_of behind = ap (λ x. drop x vs) k ∙ drop-map bytes_of n ws ∙ ap (map bytes_of) (ap (drop n) (sym o) ∙ sym eb) in
    ap (λ r. r >>= λ c. all_of term (take (terms_len vs) vs) >>= λ es. parts count (drop (terms_len vs) vs) >>= λ ns. cut_by (of_entries c es) ns) hz
    ∙ ap (λ r. r >>= λ es. parts count (drop (terms_len vs) vs) >>= λ ns. cut_by (of_entries z es) ns) (ap (all_of term) f ∙ he)
    ∙ ap (λ r. r >>= λ ns. cut_by (of_entries z es) ns) (ap (parts count) b ∙ hn)
