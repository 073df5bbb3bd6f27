-- A plan asks only for files that may be asked for.
use Rattle.std.proofs.Common.{inl, inr, List, ℕ, subst}
use Rattle.step_report.specs.declared.refusals.FileRole.{FileRole}
use Rattle.step_plan.specs.Ending.{Names}
use Rattle.step_plan.specs.Plan.{Told, Plan, ends, goes_on, asks, then_plan, ComesTo}

-- all that a plan asks for is so
abbrev pub AsksOnly : {A : Type 0} → Names → Plan A → Type 0
AsksOnly P (ends o) = Unit {0}
AsksOnly P (goes_on x) = Unit {0}
AsksOnly P (asks role name go) = P role name × ((bytes : List ℕ) → AsksOnly P (go bytes))

pub only_then : {A B : Type 0} (P : Names) (next : A → Plan B) (plan : Plan A) → AsksOnly P plan → ((x : A) → AsksOnly P (next x)) → AsksOnly P (then_plan plan next)
only_then P next (ends o) first rest = tt
only_then P next (goes_on x) first rest = rest x
only_then P next (asks role name go) first rest = (first.0, λ bytes. only_then P next (go bytes) (first.1 bytes) rest)

pub only_comes : {A : Type 0} (P : Names) (told : Told) (plan : Plan A) (role : FileRole) (name : List ℕ) → AsksOnly P plan → ComesTo told plan role name → P role name
only_comes P told (ends o) role name only comes = absurd comes
only_comes P told (goes_on x) role name only comes = absurd comes
only_comes P told (asks r n go) role name only (inl is) = subst (λ (f : FileRole). P f name) is.0 (subst (λ (m : List ℕ). P r m) is.1 only.0)
only_comes P told (asks r n go) role name only (inr more) = only_comes P told (go more.0) role name (only.1 more.0) more.3
