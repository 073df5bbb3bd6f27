-- How a run goes on along a plan.
use Rattle.std.proofs.Common.{◌≡◌, inl, inr, ℕ, ◌≤◌, List, length, refl, sym, subst, arith, true, false}
use Rattle.std.specs.Prelude.{Option, Some, None, IfSome, option_and_then, if◌then◌else◌, nat_lt}
use Rattle.std.proofs.lemmas.Bool.Decides.{nat_tests}
use Rattle.step_plan.specs.declared.ended.Ended.{Ended}
use Rattle.step_report.specs.declared.refusals.FileRole.{FileRole}
use Rattle.step_plan.specs.declared.stage.Stage.{Stage}
use Rattle.step_plan.specs.declared.stage.Stage.TheVariants.{On, Over}
use Rattle.step_plan.specs.Reading.{AreTold, IsPast}
use Rattle.step_plan.specs.Limits.{length_limit, too_long}
use Rattle.step_plan.specs.Outcome.{Outcome, ended_view, IsDecided}
use Rattle.step_plan.specs.Plan.{Told, Counts, Plan, ends, goes_on, asks, then_plan, LeadsTo, EndsIn, ComesTo, outcome_of, Follows}
use Rattle.step_plan.specs.Stage.{Comes, Settles}

-- parts may be grouped either way
pub regroup : {A B C : Type 0} (f : A → Plan B) (g : B → Plan C) (plan : Plan A) → then_plan (then_plan plan f) g ≡ then_plan plan (λ x. then_plan (f x) g)
regroup f g (ends o) = refl
regroup f g (goes_on x) = refl
regroup f g (asks role name go) = λ i. asks role name (λ bytes. regroup f g (go bytes) i)

-- the end, the value and the file asked for of a first part and of what follows it

module _ {A B : Type 0} (told : Told) (next : A → Plan B) where
  ends_first : (plan : Plan A) (o : Outcome) → EndsIn told plan o → EndsIn told (then_plan plan next) o
  ends_first (ends p) o e = e
  ends_first (goes_on x) o e = absurd e
  ends_first (asks role name go) o (inl long) = inl long
  ends_first (asks role name go) o (inr more) = inr (more.0, more.1, more.2, ends_first (go more.0) o more.3)

  asks_first : (plan : Plan A) (role : FileRole) (name : List ℕ) → ComesTo told plan role name → ComesTo told (then_plan plan next) role name
  asks_first (ends p) role name e = absurd e
  asks_first (goes_on x) role name e = absurd e
  asks_first (asks r n go) role name (inl is) = inl is
  asks_first (asks r n go) role name (inr more) = inr (more.0, more.1, more.2, asks_first (go more.0) role name more.3)

  ends_then : (plan : Plan A) (x : A) (o : Outcome) → LeadsTo told plan x → EndsIn told (next x) o → EndsIn told (then_plan plan next) o
  ends_then (ends p) x o leads e = absurd leads
  ends_then (goes_on y) x o leads e = subst (λ (v : A). EndsIn told (next v) o) (sym leads) e
  ends_then (asks role name go) x o leads e = inr (leads.0, leads.1, leads.2, ends_then (go leads.0) x o leads.3 e)

  asks_then : (plan : Plan A) (x : A) (role : FileRole) (name : List ℕ) → LeadsTo told plan x → ComesTo told (next x) role name → ComesTo told (then_plan plan next) role name
  asks_then (ends p) x role name leads e = absurd leads
  asks_then (goes_on y) x role name leads e = subst (λ (v : A). ComesTo told (next v) role name) (sym leads) e
  asks_then (asks r n go) x role name leads e = inr (leads.0, leads.1, leads.2, asks_then (go leads.0) x role name leads.3 e)

  leads_then : (plan : Plan A) (x : A) (y : B) → LeadsTo told plan x → LeadsTo told (next x) y → LeadsTo told (then_plan plan next) y
  leads_then (ends p) x y leads e = absurd leads
  leads_then (goes_on z) x y leads e = subst (λ (v : A). LeadsTo told (next v) y) (sym leads) e
  leads_then (asks r n go) x y leads e = (leads.0, leads.1, leads.2, leads_then (go leads.0) x y leads.3 e)

  -- a run that ended in the first part
  pub follows_first : (before now : Counts) (plan : Plan A) (ended : Ended) → Follows told before now plan ended → Follows told before now (then_plan plan next) ended
  follows_first before now plan ended (inl plain) = inl (record { quiet = plain.quiet; decided = plain.decided; outcome = ends_first plan (ended_view ended) plain.outcome })
  follows_first before now plan ended (inr fault) =
      inr (record { role = fault.role; name = fault.name; asked = asks_first plan fault.role fault.name fault.asked; rose = fault.rose; view = fault.view })

  -- a run that came to what follows the first part
  pub follows_then : (before now : Counts) (plan : Plan A) (x : A) (ended : Ended) → LeadsTo told plan x → Follows told before now (next x) ended → Follows told before now (then_plan plan next) ended
  follows_then before now plan x ended leads (inl plain) =
      inl (record { quiet = plain.quiet; decided = plain.decided; outcome = ends_then plan x (ended_view ended) leads plain.outcome })
  follows_then before now plan x ended leads (inr fault) =
      inr (record { role = fault.role; name = fault.name; asked = asks_then plan x fault.role fault.name leads fault.asked; rose = fault.rose; view = fault.view })

  -- a stage that came to what follows the first part
  pub comes_then : {V : Type 0} (view : V → B) (before now : Counts) (plan : Plan A) (x : A) (stage : Stage V) → LeadsTo told plan x → Comes view told before now (next x) stage → Comes view told before now (then_plan plan next) stage
  comes_then view before now plan x (On v) leads comes = (comes.0, leads_then plan x (view v) leads comes.1)
  comes_then view before now plan x (Over ended) leads comes = follows_then before now plan x ended leads comes

  -- what follows the first part asks for no file
  pub comes_text : {V : Type 0} (view : V → B) (before now : Counts) (plan : Plan A) (x : A) (stage : Stage V) → now ≡ before → LeadsTo told plan x → Settles view (next x) stage → Comes view told before now (then_plan plan next) stage
  comes_text view before now plan x (On v) quiet leads settled = (quiet, leads_then plan x (view v) leads (rw settled refl))
  comes_text view before now plan x (Over ended) quiet leads settled =
      inl (record { quiet = quiet; decided = settled.1; outcome = ends_then plan x (ended_view ended) leads (rw (settled.0) refl) })

  -- what follows the first part is the run's end
  pub follows_end : (before now : Counts) (plan : Plan A) (x : A) (o : Outcome) (ended : Ended) → now ≡ before → LeadsTo told plan x → next x ≡ ends o → IsDecided o.status → ended_view ended ≡ o → Follows told before now (then_plan plan next) ended
  follows_end before now plan x o ended quiet leads last decided is =
      inl (record {
        quiet = quiet;
        decided = subst (λ (p : Outcome). IsDecided p.status) (sym is) decided;
        outcome = ends_then plan x (ended_view ended) leads (rw last (sym is));
      })

-- a stage that began where nothing had failed yet
onward : {V A : Type 0} (view : V → A) (told then_told : Told) (before mid now : Counts) (plan : Plan A) (stage : Stage V) → then_told ≡ told → mid ≡ before → Comes view then_told mid now plan stage → Comes view told before now plan stage
onward view told then_told before mid now plan stage same quiet comes =
    subst (λ (t : Told). Comes view t before now plan stage) same (subst (λ (m : Counts). Comes view then_told m now plan stage) quiet comes)

pub onward_on : {V A : Type 0} (view : V → A) (told then_told : Told) (before mid now : Counts) (plan : Plan A) (stage : Stage V) (v : V)
    → stage ≡ On v → then_told ≡ told → mid ≡ before → Comes view then_told mid now plan stage → Comes view told before now plan (On v)
onward_on view told then_told before mid now plan stage v is same quiet comes =
    subst (Comes view told before now plan) is (onward view told then_told before mid now plan stage same quiet comes)

pub onward_over : {V A : Type 0} (view : V → A) (told then_told : Told) (before mid now : Counts) (plan : Plan A) (stage : Stage V) (ended : Ended)
    → stage ≡ Over ended → then_told ≡ told → mid ≡ before → Comes view then_told mid now plan stage → Follows told before now plan ended
onward_over view told then_told before mid now plan stage ended is same quiet comes =
    subst (Comes view told before now plan) is (onward view told then_told before mid now plan stage same quiet comes)

heard_long : (o : Option (List ℕ)) (role : FileRole) (more : List ℕ → Option Outcome) (p : Outcome) → IsPast o (length_limit role) → p ≡ too_long role
    → IfSome (option_and_then (λ b. if nat_lt (length_limit role) (length b) then Some (too_long role) else more b) o) (λ x. p ≡ x)
heard_long None role more p past is = tt
heard_long (Some whole) role more p past is = let test : nat_lt (length_limit role) (length whole) ≡ true = grind (arith, nat_tests) in rw test is

heard : (o : Option (List ℕ)) (role : FileRole) (more : List ℕ → Option Outcome) (bytes : List ℕ) (P : Outcome → Type 0) → AreTold o bytes → length bytes ≤ length_limit role → IfSome (more bytes) P
    → IfSome (option_and_then (λ b. if nat_lt (length_limit role) (length b) then Some (too_long role) else more b) o) P
heard None role more bytes P is within so = tt
heard (Some whole) role more bytes P is within so =
    let same : IfSome (more whole) P = subst (λ (b : List ℕ). IfSome (more b) P) is so in
    let fits : length whole ≤ length_limit role = subst (λ (b : List ℕ). length b ≤ length_limit role) is within in
    let test : nat_lt (length_limit role) (length whole) ≡ false = grind (arith, nat_tests) in
    rw test same

-- where the bytes are told that a plan asks for, it has one end
pub one_end : {A : Type 0} (told : Told) (plan : Plan A) (o : Outcome) → EndsIn told plan o → IfSome (outcome_of told plan) (λ x. o ≡ x)
one_end told (ends p) o e = sym e
one_end told (goes_on x) o e = absurd e
one_end told (asks role name go) o (inl long) = heard_long (told name) role (λ b. outcome_of told (go b)) o long.0 long.1
one_end told (asks role name go) o (inr more) = heard (told name) role (λ b. outcome_of told (go b)) more.0 (λ x. o ≡ x) more.1 more.2 (one_end told (go more.0) o more.3)
