-- The proofs of workloads are short.
use Rattle.std.proofs.Common.{◌≡◌, ℕ, zero, suc, ◌≤◌, true, length, refl, arith}
use Rattle.std.specs.Prelude.{nat_le}
use Rattle.std.proofs.lemmas.Bool.Decides.{nat_tests}
use Rattle.std.specs.Fmt.{digits}
use Rattle.step_workload.specs.Texts.{proof_text}

tested : (n : ℕ) → nat_le (length (proof_text n)) 4194304 ≡ true → length (proof_text n) ≤ 4194304
tested n e = grind (arith, nat_tests)

pub proof_is_short : (n : ℕ) → 1 ≤ n → n ≤ 4 → length (proof_text n) ≤ 4194304
unfolding digits
proof_is_short zero some few = absurd (omega (arith, some))
proof_is_short (suc zero) some few = tested 1 refl
proof_is_short (suc (suc zero)) some few = tested 2 refl
proof_is_short (suc (suc (suc zero))) some few = tested 3 refl
proof_is_short (suc (suc (suc (suc zero)))) some few = tested 4 refl
proof_is_short (suc (suc (suc (suc (suc n))))) some few = absurd (omega (arith, few))
