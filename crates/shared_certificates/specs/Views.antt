-- Lent bytes as plain data.
use Rattle.std.specs.Prelude.{◌≡◌, ℕ, true, List, [], ◌∷◌}
use Rattle.std.specs.Borrow.{Bor}
use Rattle.shared_certificates.specs.Lines.{begins_word}

abbrev pub bytes_of : Bor (List ℕ) → List ℕ
bytes_of w = w.now

abbrev pub both_bytes : Bor (List ℕ) × Bor (List ℕ) → List ℕ × List ℕ
both_bytes p = (p.0.now, p.1.now)

-- no blank stands in front
abbrev pub IsTrimmed : List ℕ → Type 0
IsTrimmed [] = Unit {0}
IsTrimmed (b ∷ bs) = begins_word (b ∷ bs) ≡ true
