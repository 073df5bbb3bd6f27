-- A leaf of rows is a leaf of lines without an equation.
use Rattle.std.proofs.Common.{◌≡◌, ℕ, zero, suc, ◌+◌, ◌↔◌, List, [], ◌∷◌, length, map, refl, ap, ◌∙◌, arith, ℤ, pos}
use Rattle.std.proofs.lemmas.Int.{ints}
use Rattle.std.proofs.lemmas.List.{length-map}
use Rattle.st_linear.specs.Linear.{Linear, scaled, sum_of}
use Rattle.st_linear.specs.declared.rows.Line.{Line}
use Rattle.farkas_leaf.specs.Leaf as of_rows
use Rattle.farkas_leaf.specs.Leaf.{as_row, row_at}
use Rattle.farkas_leaf.specs.Lines as of_lines
use Rattle.farkas_leaf.specs.Lines.{line_at, signed_picks}

-- what is read of lines and signed multipliers themselves
pub lines-same : (lines : List Line) → map (λ l. l) lines ≡ lines
lines-same [] = refl
lines-same (l ∷ ls) = ap (λ xs. l ∷ xs) (lines-same ls)

pub picks-same : (picks : List (ℕ × ℤ)) → signed_picks (λ z. z) picks ≡ picks
picks-same [] = refl
picks-same (p ∷ ps) = ap (λ xs. p ∷ xs) (picks-same ps)

natural : List (ℕ × ℕ) → List (ℕ × ℤ)
natural picks = signed_picks (λ n. pos n) picks

form-at : (rows : List Linear) (k : ℕ) → (line_at (map as_row rows) k).form ≡ row_at rows k
form-at [] k = refl
form-at (f ∷ fs) zero = refl
form-at (f ∷ fs) (suc k) = form-at fs k

total-rows : (rows : List Linear) (ps : List (ℕ × ℕ)) → of_lines.total (map as_row rows) (signed_picks (λ n. pos n) ps) ≡ of_rows.total rows ps
total-rows rows [] = refl
total-rows rows (p ∷ ps) =
    ap (λ f. sum_of (scaled (pos p.1) f) (of_lines.total (map as_row rows) (signed_picks (λ n. pos n) ps))) (form-at rows p.0)
    ∙ ap (sum_of (scaled (pos p.1) (row_at rows p.0))) (total-rows rows ps)

rise-lines : (n low : ℕ) (ps : List (ℕ × ℕ)) → of_rows.RiseWithin n low ps → of_lines.RiseWithin n low (signed_picks (λ m. pos m) ps)
rise-lines n low [] h = tt
rise-lines n low (p ∷ ps) h = (h.0, h.1, rise-lines n (p.0 + 1) ps h.2)

rise-rows : (n low : ℕ) (ps : List (ℕ × ℕ)) → of_lines.RiseWithin n low (signed_picks (λ m. pos m) ps) → of_rows.RiseWithin n low ps
rise-rows n low [] h = tt
rise-rows n low (p ∷ ps) h = (h.0, h.1, rise-rows n (p.0 + 1) ps h.2)

signed-rows : (lines : List Line) (ps : List (ℕ × ℕ)) → of_lines.IsSigned lines (signed_picks (λ m. pos m) ps)
signed-rows lines [] = tt
signed-rows lines (p ∷ ps) = (λ e. omega (arith, ints), signed-rows lines ps)

pub closes-lines : (rows : List Linear) (picks : List (ℕ × ℕ)) → of_rows.Closes rows picks ↔ of_lines.Closes (map as_row rows) (signed_picks (λ n. pos n) picks)
closes-lines rows picks =
    let same = total-rows rows picks in
    let long = length-map rows as_row in (
      λ h. record {
        rising = rw long (rise-lines (length rows) 0 picks h.rising);
        signed = signed-rows (map as_row rows) picks;
        no_variable = rw same h.no_variable;
        negative = rw same h.negative;
      },
      λ h. record {
        rising = rise-rows (length rows) 0 picks (rw long at h.rising);
        no_variable = rw same at h.no_variable;
        negative = rw same at h.negative;
      },
    )
