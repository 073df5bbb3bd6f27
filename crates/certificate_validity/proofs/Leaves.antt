-- Leaves: multiples of lines add up to a negative number exactly where the checker's leaf closes.
use Rattle.std.proofs.Common.{◌≡◌, ℕ, zero, suc, ◌+◌, ◌<◌, ℤ, pos, false, true, List, [], ◌∷◌, map, flat_map, length, refl, sym, ap, subst, ◌∙◌, arith}
use Rattle.std.specs.Prelude.{◌≤ℤ◌, ◌<ℤ◌}
use Rattle.std.proofs.lemmas.Int.{ints}
use Rattle.std.proofs.lemmas.Option.{get_or_from_slice_get, slice_get-get_or, slice_get_within}
use Rattle.std.proofs.Math.Numerals.{add-one}
use Rattle.st_linear.specs.Linear.{Linear, number, sum_of, scaled}
use Rattle.st_linear.specs.Simple.{negated}
use Rattle.st_linear.specs.declared.rows.Line.{Line}
use Rattle.st_form.specs.Formula.{Formula, truth_value, row, equal, bool_var, at, negation, every, some, formulas}
use Rattle.farkas_leaf.specs.Leaf as of_rows
use Rattle.farkas_leaf.specs.Lines as of_lines
use Rattle.farkas_check.specs.Problem as problems
use Rattle.certificate_validity.specs.Validity.{lines_of, inequalities_of, AddUp, no_pick, one_pick, Contradict}

-- LINES
pub same_lines : (fs : List Formula) → flat_map lines_of fs ≡ problems.lines_of (formulas fs)
same_lines [] = refl
same_lines (row f ∷ fs) = ap (λ ls. record { form = f; equal = false } ∷ ls) (same_lines fs)
same_lines (equal f ∷ fs) = ap (λ ls. record { form = f; equal = true } ∷ ls) (same_lines fs)
same_lines (truth_value b ∷ fs) = same_lines fs
same_lines (bool_var v ∷ fs) = same_lines fs
same_lines (at l ∷ fs) = same_lines fs
same_lines (negation f ∷ fs) = same_lines fs
same_lines (every gs ∷ fs) = same_lines fs
same_lines (some gs ∷ fs) = same_lines fs

pub same_rows : (fs : List Formula) → flat_map inequalities_of fs ≡ map of_rows.as_row (problems.rows_of (formulas fs))
same_rows [] = refl
same_rows (row f ∷ fs) = ap (λ ls. of_rows.as_row f ∷ ls) (same_rows fs)
same_rows (equal f ∷ fs) = ap (λ ls. of_rows.as_row f ∷ of_rows.as_row (negated f) ∷ ls) (same_rows fs)
same_rows (truth_value b ∷ fs) = same_rows fs
same_rows (bool_var v ∷ fs) = same_rows fs
same_rows (at l ∷ fs) = same_rows fs
same_rows (negation f ∷ fs) = same_rows fs
same_rows (every gs ∷ fs) = same_rows fs
same_rows (some gs ∷ fs) = same_rows fs

-- SUMS
abbrev Sums : List Line → ℕ → List (ℕ × ℤ) → Linear → Type 0
Sums lines n picks f = of_lines.RiseWithin (length lines) n picks × of_lines.IsSigned lines picks × (of_lines.total lines picks ≡ f)

sums : (lines : List Line) (n : ℕ) (picks : List (ℕ × ℤ)) (f : Linear) → AddUp lines n picks f → Sums lines n picks f
sums lines n [] f (no_pick) = (tt, tt, refl)
sums lines n (p ∷ picks) f (one_pick {i = i} {l = l} {z = z} {f = g} low there sign rest) =
    let h : Sums lines (suc i) picks g = sums lines (suc i) picks g rest in
    let is : of_lines.line_at lines i ≡ l = get_or_from_slice_get lines i l of_lines.no_line there in (
      (low, slice_get_within lines i l there, subst (λ k. of_lines.RiseWithin (length lines) k picks) (sym (add-one i)) h.0),
      (λ e. sign (sym (ap (λ x. x.equal) is) ∙ e), h.1),
      ap (λ x. sum_of (scaled z x.form) (of_lines.total lines picks)) is ∙ ap (sum_of (scaled z l.form)) h.2,
    )

added : (lines : List Line) (n : ℕ) (picks : List (ℕ × ℤ)) → of_lines.RiseWithin (length lines) n picks → of_lines.IsSigned lines picks → AddUp lines n picks (of_lines.total lines picks)
added lines n [] r s = no_pick
added lines n ((i, z) ∷ picks) r s = one_pick r.0 (slice_get-get_or lines i of_lines.no_line r.1) s.0 (added lines (suc i) picks (subst (λ k. of_lines.RiseWithin (length lines) k picks) (add-one i) r.2) s.1)

is_number : (f : Linear) → f.entries ≡ [] → f ≡ number f.constant
is_number f e = ap (λ es. record { constant = f.constant; entries = es }) e

pub contradict_closes : (lines : List Line) (picks : List (ℕ × ℤ)) → Contradict lines picks → of_lines.Closes lines picks
contradict_closes lines picks (z, low, h) =
    let s = sums lines 0 picks (number z) h in
    record { rising = s.0; signed = s.1; no_variable = ap (λ f. f.entries) s.2; negative = subst (λ x. x <ℤ pos 0) (sym (ap (λ f. f.constant) s.2)) low }

pub closes_contradict : (lines : List Line) (picks : List (ℕ × ℤ)) → of_lines.Closes lines picks → Contradict lines picks
closes_contradict lines picks h =
    let f = of_lines.total lines picks in
    (f.constant, h.negative, subst (AddUp lines 0 picks) (is_number f h.no_variable) (added lines 0 picks h.rising h.signed))

-- ROWS
abbrev pub as_lines : List (ℕ × ℕ) → List (ℕ × ℤ)
as_lines picks = map (λ n. (n.0, pos n.1)) picks

row_there : (rows : List Linear) (i : ℕ) → i < length rows → of_lines.line_at (map of_rows.as_row rows) i ≡ of_rows.as_row (of_rows.row_at rows i)
row_there [] i h = absurd (omega (arith, h))
row_there (f ∷ rows) zero h = refl
row_there (f ∷ rows) (suc i) h = row_there rows i (omega (arith, h))

same_length : (rows : List Linear) → length (map of_rows.as_row rows) ≡ length rows
same_length [] = refl
same_length (f ∷ rows) = ap suc (same_length rows)

rows_rise : (n low : ℕ) (picks : List (ℕ × ℕ)) → of_lines.RiseWithin n low (as_lines picks) → of_rows.RiseWithin n low picks
rows_rise n low [] r = tt
rows_rise n low (p ∷ picks) r = (r.0, r.1, rows_rise n (p.0 + 1) picks r.2)

lines_rise : (n low : ℕ) (picks : List (ℕ × ℕ)) → of_rows.RiseWithin n low picks → of_lines.RiseWithin n low (as_lines picks)
lines_rise n low [] r = tt
lines_rise n low (p ∷ picks) r = (r.0, r.1, lines_rise n (p.0 + 1) picks r.2)

natural : (n : ℕ) → pos 0 ≤ℤ pos n
natural n = omega (arith, ints)

are_signed : (lines : List Line) (picks : List (ℕ × ℕ)) → of_lines.IsSigned lines (as_lines picks)
are_signed lines [] = tt
are_signed lines (p ∷ picks) = ((λ e. natural p.1), are_signed lines picks)

same_total : (rows : List Linear) (low : ℕ) (picks : List (ℕ × ℕ)) → of_rows.RiseWithin (length rows) low picks → of_lines.total (map of_rows.as_row rows) (as_lines picks) ≡ of_rows.total rows picks
same_total rows low [] r = refl
same_total rows low (p ∷ picks) r =
    ap (λ x. sum_of (scaled (pos p.1) x.form) (of_lines.total (map of_rows.as_row rows) (as_lines picks))) (row_there rows p.0 r.1)
    ∙ ap (sum_of (scaled (pos p.1) (of_rows.row_at rows p.0))) (same_total rows (p.0 + 1) picks r.2)

pub rows_close : (rows : List Linear) (picks : List (ℕ × ℕ)) → of_lines.Closes (map of_rows.as_row rows) (as_lines picks) → of_rows.Closes rows picks
rows_close rows picks h =
    let r = rows_rise (length rows) 0 picks (subst (λ n. of_lines.RiseWithin n 0 (as_lines picks)) (same_length rows) h.rising) in
    let t = same_total rows 0 picks r in
    record { rising = r; no_variable = sym (ap (λ f. f.entries) t) ∙ h.no_variable; negative = subst (λ f. f.constant <ℤ pos 0) t h.negative }

pub lines_close : (rows : List Linear) (picks : List (ℕ × ℕ)) → of_rows.Closes rows picks → of_lines.Closes (map of_rows.as_row rows) (as_lines picks)
lines_close rows picks h =
    let t = same_total rows 0 picks h.rising in
    record {
      rising = subst (λ n. of_lines.RiseWithin n 0 (as_lines picks)) (sym (same_length rows)) (lines_rise (length rows) 0 picks h.rising);
      signed = are_signed (map of_rows.as_row rows) picks;
      no_variable = ap (λ f. f.entries) t ∙ h.no_variable;
      negative = subst (λ f. f.constant <ℤ pos 0) (sym t) h.negative;
    }
