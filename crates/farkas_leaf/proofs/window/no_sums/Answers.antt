use Rattle.std.proofs.Common.{◌≡◌, ℕ, zero, suc, refl, pos}
use Rattle.std.specs.Prelude.{replicate, slice_index_or}
use Rattle.farkas_leaf.proofs.window.no_sums.Goals as goal

all_zero : (n j : ℕ) → slice_index_or (replicate n (pos 0)) j (pos 0) ≡ pos 0
all_zero zero j = refl
all_zero (suc n) zero = refl
all_zero (suc n) (suc j) = all_zero n j

pub returns : goal.returns
returns c j = all_zero 64 j
