-- Plans over files that are told: the outcome is an end, and there is one.
use Rattle.std.proofs.Common.{◌≡◌, inl, inr, ℕ, ◌<◌, ◌≤◌, Bool, true, false, nat_lt, List, length, refl, sym, ap, ◌∙◌, subst, arith}
use Rattle.std.specs.Prelude.{Option, Some, None, if◌then◌else◌, option_and_then}
use Rattle.std.proofs.lemmas.Bool.Decides.{nat_tests}
use Rattle.step_report.specs.declared.refusals.FileRole.{FileRole}
use Rattle.step_plan.specs.Limits.{length_limit, too_long}
use Rattle.step_plan.specs.Outcome.{Outcome}
use Rattle.step_plan.specs.Reading.{AreTold, IsPast}
use Rattle.step_plan.specs.Plan.{Told, Plan, ends, goes_on, asks, outcome_of, EndsIn, ComesTo}

past : (limit n : ℕ) → nat_lt limit n ≡ true → limit < n
past limit n h = grind (arith, nat_tests)

within : (limit n : ℕ) → nat_lt limit n ≡ false → n ≤ limit
within limit n h = grind (arith, nat_tests)

is_told : (t : Option (List ℕ)) (bytes : List ℕ) → t ≡ Some bytes → AreTold t bytes
is_told t bytes is = subst (λ (x : Option (List ℕ)). AreTold x bytes) (sym is) refl

is_past : (t : Option (List ℕ)) (bytes : List ℕ) (limit : ℕ) → t ≡ Some bytes → limit < length bytes → IsPast t limit
is_past t bytes limit is long = subst (λ (x : Option (List ℕ)). IsPast x limit) (sym is) long

-- what comes of a file's bytes
abbrev heard : {A : Type 0} → Told → FileRole → (List ℕ → Plan A) → List ℕ → Option Outcome
heard told role go bytes = if nat_lt (length_limit role) (length bytes) then Some (too_long role) else outcome_of told (go bytes)

module _ {A : Type 0} (told : Told) (role : FileRole) (name : List ℕ) (go : List ℕ → Plan A) where
  by_length : (bytes : List ℕ) (o : Outcome) → told name ≡ Some bytes → (outcome_of told (go bytes) ≡ Some o → EndsIn told (go bytes) o) → (b : Bool) → nat_lt (length_limit role) (length bytes) ≡ b
      → (if b then Some (too_long role) else outcome_of told (go bytes)) ≡ Some o → EndsIn told (asks role name go) o
  by_length bytes o is more true test e = let same : too_long role ≡ o = cc in inl (is_past (told name) bytes (length_limit role) is (past (length_limit role) (length bytes) test), sym same)
  by_length bytes o is more false test e = inr (bytes, is_told (told name) bytes is, within (length_limit role) (length bytes) test, more e)

  by_bytes : (o : Outcome) → ((bytes : List ℕ) → outcome_of told (go bytes) ≡ Some o → EndsIn told (go bytes) o) → (t : Option (List ℕ)) → told name ≡ t → option_and_then (heard told role go) t ≡ Some o → EndsIn told (asks role name go) o
  by_bytes o more None is e = absurd cc
  by_bytes o more (Some bytes) is e = by_length bytes o is (more bytes) (nat_lt (length_limit role) (length bytes)) refl e

-- the outcome is an end
pub outcome_ends : {A : Type 0} (told : Told) (plan : Plan A) (o : Outcome) → outcome_of told plan ≡ Some o → EndsIn told plan o
outcome_ends told (ends p) o e = let same : p ≡ o = cc in same
outcome_ends told (goes_on x) o e = absurd cc
outcome_ends told (asks role name go) o e = by_bytes told role name go o (λ bytes. outcome_ends told (go bytes) o) (told name) refl e

-- all files are told that the plan comes to
abbrev pub AllTold : Told → Plan ⊥ → Type 0
AllTold told plan = (role : FileRole) (name : List ℕ) → ComesTo told plan role name → (bytes : List ℕ) × (told name ≡ Some bytes)

abbrev HasOutcome : Told → Plan ⊥ → Type 0
HasOutcome told plan = (o : Outcome) × (outcome_of told plan ≡ Some o)

module _ (told : Told) (role : FileRole) (name : List ℕ) (go : List ℕ → Plan ⊥) where
  short_has : (bytes : List ℕ) → HasOutcome told (go bytes) → nat_lt (length_limit role) (length bytes) ≡ false → (o : Outcome) × (heard told role go bytes ≡ Some o)
  short_has bytes more test = (more.0, ap (λ (b : Bool). if b then Some (too_long role) else outcome_of told (go bytes)) test ∙ more.1)

  file_has : (bytes : List ℕ) → (length bytes ≤ length_limit role → HasOutcome told (go bytes)) → (b : Bool) → nat_lt (length_limit role) (length bytes) ≡ b → (o : Outcome) × (heard told role go bytes ≡ Some o)
  file_has bytes more true test = (too_long role, ap (λ (b : Bool). if b then Some (too_long role) else outcome_of told (go bytes)) test)
  file_has bytes more false test = short_has bytes (more (within (length_limit role) (length bytes) test)) test

-- there is one where these are told
pub has_outcome : (told : Told) (plan : Plan ⊥) → AllTold told plan → HasOutcome told plan
has_outcome told (ends p) all = (p, refl)
has_outcome told (goes_on x) all = absurd x
has_outcome told (asks role name go) all =
    let here = all role name (inl (refl, refl)) in
    let more = file_has told role name go here.0 (λ short. has_outcome told (go here.0) (λ r n comes. all r n (inr (here.0, is_told (told name) here.0 here.1, short, comes)))) (nat_lt (length_limit role) (length here.0)) refl in
    (more.0, ap (λ (t : Option (List ℕ)). option_and_then (heard told role go) t) here.1 ∙ more.1)
