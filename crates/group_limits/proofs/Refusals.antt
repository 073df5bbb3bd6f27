-- Behind its number of paths nothing of a group is refused for them.
use Rattle.std.proofs.Common.{◌≡◌, ℕ, ◌<◌, ◌↔◌, nat_le, Bool, true, false, length, Result, Ok, Err, refl, subst, arith}
use Rattle.std.proofs.lemmas.Bool.Decides.{nat_tests}
use Rattle.st_tokens.specs.declared.limit.LimitKind.{LimitKind}
use Rattle.st_tokens.specs.declared.limit.LimitKind.TheVariants as limits
use Rattle.st_program.specs.Tree.{Pieces}
use Rattle.st_program.specs.Groups.{paths_along}
use Rattle.expression_typer.specs.declared.fault.TypeFault.{TypeFault}
use Rattle.expression_typer.specs.declared.fault.TypeFault.TheVariants as faults
use Rattle.expression_typer.specs.Answers.{◌>>=◌}
use Rattle.spl_typer.specs.Groups.{limit_unless, all_small, with_paths, grouped}
use Rattle.group_limits.specs.Choices.{PathsRefuse}
use Rattle.group_limits.proofs.Faults.{Only, only_bind, only_if, only_small, only_paths}
use Rattle.group_limits.proofs.Paths.{ways_along_count}

abbrev is_of_paths : LimitKind → Bool
is_of_paths limits.Paths = true
is_of_paths _ = false

-- whether it is the fault of too many paths
abbrev tells_paths : TypeFault → Bool
tells_paths (faults.Limit kind place) = is_of_paths kind
tells_paths _ = false

abbrev IsOther : TypeFault → Type 0
IsOther f = tells_paths f ≡ false

-- THE NUMBER OF PATHS
abbrev behind_paths : ℕ → Pieces → ℕ → Result ℕ TypeFault
behind_paths at xs w = all_small at (paths_along xs) >>= λ _. with_paths at (paths_along xs) w >>= λ v. limit_unless (nat_le v 16777216) (faults.Limit limits.Weight at) >>= λ _. Ok v

other_rest : (at : ℕ) (xs : Pieces) (w : ℕ) → Only IsOther (behind_paths at xs w)
other_rest at xs w =
    only_bind IsOther (all_small at (paths_along xs)) (λ _. with_paths at (paths_along xs) w >>= λ v. limit_unless (nat_le v 16777216) (faults.Limit limits.Weight at) >>= λ _. Ok v)
    (only_small at IsOther refl (paths_along xs))
    (λ _. only_bind IsOther (with_paths at (paths_along xs) w) (λ v. limit_unless (nat_le v 16777216) (faults.Limit limits.Weight at) >>= λ _. Ok v) (only_paths at IsOther refl refl (paths_along xs) w)
    (λ v. only_bind IsOther (limit_unless (nat_le v 16777216) (faults.Limit limits.Weight at)) (λ _. Ok v) (only_if IsOther (nat_le v 16777216) tt (faults.Limit limits.Weight at) refl) (λ _. tt)))

no_paths : {A : Type 0} (o : Result A TypeFault) (place : ℕ) → Only IsOther o → o ≡ Err (faults.Limit limits.Paths place) → ⊥
no_paths {A} o place h e = let k : true ≡ false = subst (λ (r : Result A TypeFault). Only IsOther r) e h in cc

few_ways : (n m : ℕ) → true ≡ nat_le n m → m < n → ⊥
few_ways n m e l = grind (arith, nat_tests)

many_ways : (n m : ℕ) → false ≡ nat_le n m → m < n
many_ways n m e = grind (arith, nat_tests)

at_test : (at : ℕ) (rest : Result ℕ TypeFault) (n : ℕ) (b : Bool) → b ≡ nat_le n 64 → Only IsOther rest → ((limit_unless b (faults.Limit limits.Paths at) >>= λ _. rest) ≡ Err (faults.Limit limits.Paths at)) ↔ (64 < n)
at_test at rest n true e h = (λ k. absurd (no_paths rest at h k), λ l. absurd (few_ways n 64 e l))
at_test at rest n false e h = (λ k. many_ways n 64 e, λ l. refl)

pub paths_refuse : PathsRefuse
paths_refuse place xs w =
    subst (λ n. (grouped place xs w ≡ Err (faults.Limit limits.Paths place)) ↔ (64 < n)) (ways_along_count xs) (at_test place (behind_paths place xs w) (length (paths_along xs)) (nat_le (length (paths_along xs)) 64) refl (other_rest place xs w))
