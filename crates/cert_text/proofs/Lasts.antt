use Rattle.std.proofs.Common.{◌≡◌, ℕ, ◌+◌, ◌-◌, ◌≤◌, List, [], ◌∷◌, ◌++◌, length, take, drop, refl, sym, ap, ◌∙◌, arith, zero, suc}
use Rattle.std.proofs.lemmas.List.{take-append-drop, length-take-le, take_all}
use Rattle.std.proofs.Common.{length-drop}
use Rattle.std.proofs.Math.ListN.{drop_of_length-le}
use Rattle.st_certificate.specs.Tree.{Tree, impossible}
use Rattle.cert_text.specs.Tree.{last_or, last_tree}
use Rattle.cert_text.specs.Reading.{State, after}
use Rattle.cert_text.proofs.Stopping.{after-append}

abbrev the_empty : List ℕ
the_empty = []

last_or-push : (u : Tree) (ts : List Tree) (t : Tree) → last_or u (ts ++ t ∷ []) ≡ t
last_or-push u [] t = refl
last_or-push u (v ∷ ts) t = last_or-push v ts t

pub last_tree-push : (ts : List Tree) (t : Tree) → last_tree (ts ++ t ∷ []) ≡ t
unfolding last_tree
last_tree-push ts t = last_or-push impossible ts t

nothing : (n : ℕ) → drop n (the_empty) ≡ the_empty
nothing n = drop_of_length-le the_empty (omega arith)

pub dropping : (n k : ℕ) (xs : List ℕ) → drop k (drop n xs) ≡ drop (n + k) xs
dropping zero k xs = ap (λ m. drop m xs) (omega arith)
dropping (suc n) k [] = nothing k ∙ sym (nothing (suc n + k))
dropping (suc n) k (x ∷ xs) = dropping n k xs ∙ (let e : suc (n + k) ≡ suc n + k = omega arith in ap (λ m. drop m (x ∷ xs)) e)

-- reading on from what is scanned
pub read_on_from : (place taken scanned : ℕ) (s : State) (bs : List ℕ) → taken ≤ scanned → scanned ≤ length bs → after (place + (scanned - taken)) (after place s (take (scanned - taken) (drop taken bs))) (take (length bs - scanned) (drop scanned bs)) ≡ after place s (drop taken bs)
read_on_from place taken scanned s bs le within =
    let k : ℕ = scanned - taken in
    let ys : List ℕ = drop taken bs in
    let lk : length (take k ys) ≡ k = length-take-le k ys (omega (arith, length-drop taken bs)) in
    let dk : drop k ys ≡ drop scanned bs = dropping taken k bs ∙ ap (λ n. drop n bs) (omega arith) in
    let tk : take (length bs - scanned) (drop scanned bs) ≡ drop k ys = take_all (length bs - scanned) (drop scanned bs) (omega (arith, length-drop scanned bs)) ∙ sym dk in
    let cut : after place s ys ≡ after (place + length (take k ys)) (after place s (take k ys)) (drop k ys) = sym (ap (after place s) (take-append-drop k ys)) ∙ after-append place s (take k ys) (drop k ys) in
    ap (after (place + k) (after place s (take k ys))) tk ∙ ap (λ n. after (place + n) (after place s (take k ys)) (drop k ys)) (sym lk) ∙ sym cut

-- what is read behind the first bytes is read behind their place
pub read_behind : (place k n : ℕ) (s t : State) (bs : List ℕ) → k ≤ length bs → after (place + k + n) t (drop n (take (length bs - k) (drop k bs))) ≡ after (place + k) s (take (length bs - k) (drop k bs)) → after (place + (k + n)) t (drop (k + n) bs) ≡ after (place + k) s (drop k bs)
read_behind place k n s t bs within h =
    let tk : take (length bs - k) (drop k bs) ≡ drop k bs = take_all (length bs - k) (drop k bs) (omega (arith, length-drop k bs)) in
    let e : place + (k + n) ≡ place + k + n = omega arith in
    ap (λ m. after m t (drop (k + n) bs)) e
    ∙ ap (after (place + k + n) t) (sym (dropping k n bs))
    ∙ ap (λ xs. after (place + k + n) t (drop n xs)) (sym tk)
    ∙ h
    ∙ ap (after (place + k) s) tk
