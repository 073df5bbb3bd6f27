-- The lines of conjuncts are as elimination asks.
use Rattle.std.proofs.Common.{◌≡◌, ℕ, ◌<◌, ◌≤◌, ◌^◌, true, List, [], ◌∷◌, refl, arith, ℤ}
use Rattle.std.specs.Prelude.{unsigned_abs}
use Rattle.std.proofs.lemmas.Bool.{and_from}
use Rattle.std.proofs.lemmas.Bool.Decides.{nat_tests}
use Rattle.std.proofs.lemmas.List.Elements.{recursion_from_All}
use Rattle.std.specs.List.{AllByRecursion}
use Rattle.st_linear.specs.Linear.{is_within, are_within, IsSlim}
use Rattle.st_linear.specs.declared.rows.Line.{Line}
use Rattle.st_form.specs.Formula.{Formulas}
use Rattle.farkas_check.specs.Problem.{lines_of}
use Rattle.farkas_check.specs.Limits.{AreSettled}
use Rattle.farkas_check.proofs.Bounds.{slim-lines}
use Rattle.elimination_laws.specs.Laws.{AreProper}
use Rattle.row_elimination.specs.Runs.{AllWithin}
use Rattle.row_elimination.specs.Eliminations.{AreBelow}
use Rattle.search_laws.specs.Forms.{IsProper}
use Rattle.search_laws.proofs.Finding.{proper-lines}
use Rattle.linear_prover.specs.Ready.{AreReady}
use Rattle.linear_prover.proofs.Readying.{parts-from}

below-from : (n : ℕ) (ls : List Line) → AreProper n ls → AreBelow n ls
below-from n [] h = tt
below-from n (l ∷ ls) h = (h.1, below-from n ls h.2)

pub lines-below : (n : ℕ) (fs : Formulas) → AreReady n fs → AreBelow n (lines_of fs)
lines-below n fs r = below-from n (lines_of fs) (proper-lines n fs (parts-from (IsProper n) true fs r.steady r.proper))

one-within : (m n : ℕ) (z : ℤ) → unsigned_abs z < m → m ≤ n → is_within n z ≡ true
unfolding is_within
one-within m n z h k = grind (arith, nat_tests)

entries-within : (m n : ℕ) (es : List (ℕ × ℤ)) → AllByRecursion (λ e. unsigned_abs e.1 < m) es → m ≤ n → are_within n es ≡ true
entries-within m n [] h k = refl
entries-within m n (e ∷ es) h k = and_from (is_within n e.1) (are_within n es) (one-within m n e.1 h.0 k) (entries-within m n es h.1 k)

within-from : (n : ℕ) (ls : List Line) → 2 ^ 70 ≤ n → AllByRecursion (λ l. IsSlim l.form) ls → n ≡ 2 ^ 100 → AllWithin ls
within-from n [] k h e = tt
within-from n (l ∷ ls) k h e = (rw (← e) (entries-within (2 ^ 70) n l.form.entries (recursion_from_All (λ e. unsigned_abs e.1 < 2 ^ 70) l.form.entries h.0.entries) k), within-from n ls k h.1 e)

pub lines-within : (fs : Formulas) → AreSettled fs → AllWithin (lines_of fs)
lines-within fs h = within-from (2 ^ 100) (lines_of fs) (omega arith) (recursion_from_All (λ l. IsSlim l.form) (lines_of fs) (slim-lines fs h)) refl
