use Rattle.std.proofs.Common.{ℕ, ◌+◌, ◌-◌, ◌*◌, ◌≤◌, List, [], ◌∷◌, arith}
use Rattle.shared_certificates.specs.Reading.{value_behind}

-- further digits make no number smaller
pub value-grows : (n : ℕ) (ds : List ℕ) → n ≤ value_behind n ds
value-grows n [] = omega arith
value-grows n (d ∷ ds) = omega (arith, value-grows (n * 10 + (d - 48)) ds)
