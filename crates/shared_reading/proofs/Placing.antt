-- The place of the line behind one that was read.
use Rattle.std.proofs.Common.{◌≡◌, ℕ, ◌+◌, ◌-◌, ◌<◌, ◌≤◌, List, [], ◌∷◌, length, refl, ap, ◌∙◌, sym, Result, Ok, Err, arith}
use Rattle.shared_certificates.specs.declared.refusals.Refusal.{Refusal}
use Rattle.shared_certificates.specs.declared.refusals.Refusal.TheVariants.{Malformed, Limit, Memory}
use Rattle.shared_certificates.specs.Answers.{Refuses, RefusesAt}
use Rattle.shared_certificates.specs.Nodes.{Shared}
use Rattle.shared_certificates.specs.Lines.{lines, words}
use Rattle.shared_certificates.specs.Reading.{Refused, line_read, lines_read, placed}

-- where nothing is left, the place doesn't matter
same-place : (p q : ℕ) (t : Shared) (bs : List ℕ) → (0 < length bs → p ≡ q) → lines_read p t (lines bs) ≡ lines_read q t (lines bs)
same-place p q t [] h = refl
same-place p q t (b ∷ bs) h = ap (λ n. lines_read n t (lines (b ∷ bs))) (h (omega arith))

-- a line is taken
pub lines-next : (n : ℕ) (t u : Shared) (rest front after : List ℕ) (whole : Result Shared Refused) → length rest ≤ n → lines rest ≡ front ∷ lines after → length after ≡ length rest - (length front + 1)
    → line_read t (words front) ≡ Ok u → lines_read (n - length rest) t (lines rest) ≡ whole → lines_read (n - length after) u (lines after) ≡ whole
lines-next n t u rest front after whole h is len ok inv =
    let p : ℕ = n - length rest in
    sym (same-place (p + length front + 1) (n - length after) u after (λ some. omega (arith, h, len, some)))
    ∙ sym (ap (lines_read p t) is ∙ ap (λ r. placed p r (λ v. lines_read (p + length front + 1) v (lines after))) ok) ∙ inv

stops : (p : ℕ) (t : Shared) (rest front after : List ℕ) (e : Refusal) (whole : Result Shared Refused) → lines rest ≡ front ∷ lines after → line_read t (words front) ≡ Err e → lines_read p t (lines rest) ≡ whole → whole ≡ Err (e, p)
stops p t rest front after e whole is bad inv = sym inv ∙ ap (lines_read p t) is ∙ ap (λ r. placed p r (λ v. lines_read (p + length front + 1) v (lines after))) bad

-- a line is refused
pub lines-stop : (p : ℕ) (t : Shared) (rest front after : List ℕ) (e : Refusal) (whole : Result Shared Refused) → lines rest ≡ front ∷ lines after → Refuses e (line_read t (words front)) → lines_read p t (lines rest) ≡ whole → RefusesAt e p whole
lines-stop p t rest front after Malformed whole is bad inv = stops p t rest front after Malformed whole is bad inv
lines-stop p t rest front after Limit whole is bad inv = stops p t rest front after Limit whole is bad inv
lines-stop p t rest front after Memory whole is bad inv = tt
