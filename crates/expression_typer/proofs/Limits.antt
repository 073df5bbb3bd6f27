use Rattle.std.proofs.Common.{◌≡◌, ℕ, ◌^◌, ◌<◌, Bool, true, false, cond, List, [], ◌∷◌, refl, arith, ℤ, Some, None, Ok, Err, nat_le, nat_lt, unsigned_abs}
use Rattle.std.proofs.lemmas.Bool.{and_parts, and_from}
use Rattle.std.proofs.lemmas.Bool.Decides.{nat_tests}
use Rattle.st_linear.specs.Linear.{Linear, is_within, is_small, are_small, fits, fitting}
use Rattle.std.proofs.Common.{Result}
use Rattle.st_linear.specs.Answers as sums
use Rattle.st_linear.specs.declared.linear.Lin.{Lin}
use Rattle.st_linear.specs.declared.faults.LinFault.{LinFault}
use Rattle.st_linear.proofs.Fitting.{fitting-is}
use Rattle.st_program.specs.Groups.{is_written_number, are_written}
use Rattle.expression_typer.specs.Written.{is_writable, limited}
use Rattle.expression_typer.specs.declared.fault.TypeFault.TheVariants.{TooLarge}

below : (a b c : ℕ) → b < c → nat_le a b ≡ true → nat_lt a c ≡ true
below a b c h k = grind (arith, nat_tests)

modest_small : (z : ℤ) → is_written_number z ≡ true → is_small z ≡ true
unfolding is_written_number is_within
modest_small z h = below (unsigned_abs z) (2 ^ 30) (2 ^ 100) (omega arith) h

all_small : (es : List (ℕ × ℤ)) → are_written es ≡ true → are_small es ≡ true
all_small [] h = refl
all_small (e ∷ es) h =
    let p = and_parts (is_written_number e.1) (are_written es) h in
    and_from (is_small e.1) (are_small es) (modest_small e.1 p.0) (all_small es p.1)

written_fits : (f : Linear) → is_writable f ≡ true → fits f ≡ true
unfolding is_writable
written_fits f h =
    let p = and_parts (is_written_number f.constant) (are_written f.entries) h in
    and_from (is_small f.constant) (are_small f.entries) (modest_small f.constant p.0) (all_small f.entries p.1)

no_fit : (b c : Bool) (f : Linear) → (b ≡ true → c ≡ true) → cond c (Some f) None ≡ None → b ≡ false
no_fit false c f h k = refl
no_fit true true f h k = absurd (cc)
no_fit true false f h k = absurd (let e : false ≡ true = h refl in cc)

pub not_written : (f : Linear) → fitting f ≡ None → is_writable f ≡ false
unfolding fitting
not_written f h = no_fit (is_writable f) (fits f) f (written_fits f) h

pub is_fitting : (f r : Linear) → fitting f ≡ Some r → f ≡ r
is_fitting f r h = fitting-is f r h

pub ruleset limits = (not_written, is_fitting)

limited_ok : (at : ℕ) (x f : Linear) → is_writable f ≡ true → fitting x ≡ Some f → limited at x ≡ Ok f
limited_ok at x f w h = rw (fitting-is x f h, w)

limited_err : (at : ℕ) (x f : Linear) → is_writable f ≡ false → fitting x ≡ Some f → limited at x ≡ Err (TooLarge at)
limited_err at x f w h = rw (fitting-is x f h, w)

pub limited_then : (at : ℕ) (x f : Linear) (r : Result Lin LinFault) → r ≡ Ok f → is_writable f ≡ true → sums.Gives (λ (g : Lin). g) r (fitting x) → limited at x ≡ Ok f
limited_then at x f r e w h = let k = rw e at h in limited_ok at x f w k

pub limited_else : (at : ℕ) (x f : Linear) (r : Result Lin LinFault) → r ≡ Ok f → is_writable f ≡ false → sums.Gives (λ (g : Lin). g) r (fitting x) → limited at x ≡ Err (TooLarge at)
limited_else at x f r e w h = let k = rw e at h in limited_err at x f w k
