-- What the test of columns says, and rows in front of one more.
use Rattle.std.proofs.Common.{◌≡◌, ℕ, true, List, [], ◌∷◌, ◌++◌, ℤ}
use Rattle.std.specs.Prelude.{nat_lt}
use Rattle.basic_laws.proofs.Numbers.{less}
use Rattle.basic_laws.proofs.Truths.{both_true}
use Rattle.st_linear.specs.Linear.{AllBelow}
use Rattle.null_laws.specs.Reduction.{Entries}
use Rattle.null_laws.specs.Bases.{AllMeet}
use Rattle.location_equations.specs.Below.{are_below}

pub all_below : (n : ℕ) (es : List (ℕ × ℤ)) → are_below n es ≡ true → AllBelow n es
all_below n [] h = tt
all_below n (e ∷ es) h = let b = both_true (nat_lt e.0 n) (are_below n es) h in (less e.0 n b.0, all_below n es b.1)

pub all_added : (P : Entries → Type 0) (bs : List Entries) (b : Entries) → AllMeet P bs → P b → AllMeet P (bs ++ b ∷ [])
all_added P [] b h p = (p, tt)
all_added P (c ∷ bs) b h p = (h.0, all_added P bs b h.1 p)
