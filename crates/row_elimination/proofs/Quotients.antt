use Rattle.std.proofs.Common.{ℕ, ◌≤◌, Bool, true, false, arith, ℤ, pos, negsuc}
use Rattle.std.specs.Prelude.{unsigned_abs, if◌then◌else◌}
use Rattle.std.specs.Int.{int_div_euclid}
use Rattle.std.proofs.Math.Nat.{div-le_self}
use Rattle.st_linear.specs.Linear.{is_zero}
use Rattle.elimination_laws.specs.Points.{floor_by}

quotient_size : (z : ℤ) (d : ℕ) → unsigned_abs (int_div_euclid z (pos d)) ≤ unsigned_abs z
quotient_size (pos a) d = div-le_self a d
quotient_size (negsuc a) d = omega (arith, div-le_self a d)

by_zero : (b : Bool) (z q : ℤ) → unsigned_abs q ≤ unsigned_abs z → unsigned_abs (if b then pos 0 else q) ≤ unsigned_abs z
by_zero true z q h = omega arith
by_zero false z q h = h

pub floor_size : (a r : ℤ) → unsigned_abs (floor_by a r) ≤ unsigned_abs r
floor_size a r = by_zero (is_zero a) r (int_div_euclid r (pos (unsigned_abs a))) (quotient_size r (unsigned_abs a))
