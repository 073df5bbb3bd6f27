-- What a run does with its files, as a plan: it ends, or it asks for the bytes of a file and goes on with them. A part of
-- a run goes on with a value.
use Rattle.std.specs.Prelude.{ℕ, List, ◌≡◌, ◌≤◌, ◌⊎◌, length, Option, Some, None, option_and_then, if◌then◌else◌, nat_lt}
use Rattle.step_plan.specs.declared.ended.Ended.{Ended}
use Rattle.step_report.specs.declared.refusals.FileRole.{FileRole}
use Rattle.st_outside.specs.Faults.{Rose}
use Rattle.step_plan.specs.Reading.{AreTold, IsPast}
use Rattle.step_plan.specs.Outcome.{Outcome, ended_view, IsDecided, read_fault}
use Rattle.step_plan.specs.Limits.{length_limit, too_long}

-- the bytes of each name, where they are told
abbrev pub Told : Type 0
Told = List ℕ → Option (List ℕ)

-- how often each name has failed
abbrev pub Counts : Type 0
Counts = List ℕ → ℕ

pub data Plan (A : Type 0) : Type 0 where
  ends : Outcome → Plan A
  goes_on : A → Plan A
  -- the file's part in the run, its name, and what follows
  asks : FileRole → List ℕ → (List ℕ → Plan A) → Plan A

abbrev pub then_plan : {A B : Type 0} → Plan A → (A → Plan B) → Plan B
then_plan (ends o) next = ends o
then_plan (goes_on x) next = next x
then_plan (asks role name go) next = asks role name (λ bytes. then_plan (go bytes) next)

-- the bytes of a file
abbrev pub file_plan : FileRole → List ℕ → Plan (List ℕ)
file_plan role name = asks role name (λ bytes. goes_on bytes)

-- the end that the bytes of a file bring
abbrev pub file_end : FileRole → List ℕ → (List ℕ → Outcome) → Plan ⊥
file_end role name judge = asks role name (λ bytes. ends (judge bytes))

-- on bytes that agree with what is told, the plan goes on with this value
abbrev pub LeadsTo : {A : Type 0} → Told → Plan A → A → Type 0
LeadsTo told (ends o) x = ⊥
LeadsTo told (goes_on y) x = y ≡ x
LeadsTo told (asks role name go) x =
    (bytes : List ℕ) × AreTold (told name) bytes × (length bytes ≤ length_limit role) × LeadsTo told (go bytes) x

-- on bytes that agree with what is told, the plan has this end
abbrev pub EndsIn : {A : Type 0} → Told → Plan A → Outcome → Type 0
EndsIn told (ends p) o = p ≡ o
EndsIn told (goes_on x) o = ⊥
EndsIn told (asks role name go) o =
    (IsPast (told name) (length_limit role) × (o ≡ too_long role))
    ⊎ ((bytes : List ℕ) × AreTold (told name) bytes × (length bytes ≤ length_limit role) × EndsIn told (go bytes) o)

-- on bytes that agree with what is told, the plan comes to asking for a file
abbrev pub ComesTo : {A : Type 0} → Told → Plan A → FileRole → List ℕ → Type 0
ComesTo told (ends o) role name = ⊥
ComesTo told (goes_on x) role name = ⊥
ComesTo told (asks first own go) role name =
    ((first ≡ role) × (own ≡ name))
    ⊎ ((bytes : List ℕ) × AreTold (told own) bytes × (length bytes ≤ length_limit first) × ComesTo told (go bytes) role name)

-- the outcome of a plan, where it ends and the bytes that it asks for are told
abbrev pub outcome_of : {A : Type 0} → Told → Plan A → Option Outcome
outcome_of told (ends o) = Some o
outcome_of told (goes_on x) = None
outcome_of told (asks role name go) =
    option_and_then (λ bytes. if nat_lt (length_limit role) (length bytes) then Some (too_long role) else outcome_of told (go bytes)) (told name)

-- no file failed, and the run ended as the plan says
pub record Plain {A : Type 0} (told : Told) (before now : Counts) (plan : Plan A) (ended : Ended) : Type 0 where
  pub quiet : now ≡ before
  pub decided : IsDecided ended.status
  pub outcome : EndsIn told plan (ended_view ended)

-- a file failed that the plan came to
pub record Faulted {A : Type 0} (told : Told) (before now : Counts) (plan : Plan A) (ended : Ended) : Type 0 where
  pub role : FileRole
  pub name : List ℕ
  pub asked : ComesTo told plan role name
  pub rose : Rose (before name) (now name)
  pub view : ended_view ended ≡ read_fault role

abbrev pub Follows : {A : Type 0} → Told → Counts → Counts → Plan A → Ended → Type 0
Follows told before now plan ended = Plain told before now plan ended ⊎ Faulted told before now plan ended
