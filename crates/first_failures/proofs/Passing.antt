-- What stands before the conditions of a plan ends no run with status 1.
use Rattle.std.proofs.Common.{◌≡◌, inl, inr, ℕ, Bool, true, false, cond, nat_lt, List, length, refl, sym, subst}
use Rattle.std.specs.Prelude.{Option, Some, None, Result, Ok, Err}
use Rattle.st_tokens.specs.declared.limit.LimitKind.{LimitKind}
use Rattle.st_tokens.specs.declared.limit.LimitKind.TheVariants as limits
use Rattle.st_tokens.specs.declared.kind.TokenFault.TheVariants as tokens
use Rattle.st_certificate.specs.Tree.{Tree}
use Rattle.st_reading.specs.Reading.{Stop, syntax, broken, other}
use Rattle.st_reading.specs.Breaches as breaches
use Rattle.st_reading.specs.Breaches.{Breach, broke, crowded, unformed}
use Rattle.temporal_goals.specs.Texts.{PlainStep}
use Rattle.vc_generator.specs.declared.faults.VcFault.{VcFault}
use Rattle.spl_typer.specs.Programs.{Typed}
use Rattle.step_report.specs.declared.refusals.FileRole.{FileRole}
use Rattle.step_report.specs.Goals.{certificates_text}
use Rattle.step_plan.specs.declared.status.Status.TheVariants.{Proved, NotProved}
use Rattle.step_plan.specs.Limits.{length_kind, limited}
use Rattle.step_plan.specs.Outcome.{Outcome}
use Rattle.step_plan.specs.Reading.{AreTold}
use Rattle.step_plan.specs.Plan.{Told, Plan, asks, then_plan, EndsIn}
use Rattle.step_run.specs.declared.refusals.Refusal.{Refusal}
use Rattle.step_run.specs.declared.refusals.Refusal.TheVariants.{Fault, Limit, Memory}
use Rattle.step_run.specs.Outcome.{program_refused, script_refused}
use Rattle.step_run.specs.Source.{source_spelled}
use Rattle.step_run.specs.Conditions.{Posed, steps_spelled, passes_limit, limit_of}
use Rattle.step_run.specs.Verified.{certificates}
use Rattle.step_run.specs.Plans.{program_or_end, source_of_text, steps_or_end, posed_or_end, obliged, posed_of_text}
use Rattle.step_run.proofs.Sources.{source_read}
use Rattle.step_run.proofs.Posing.{script_read, obliged_is}
use Rattle.step_run.proofs.Headline.{posed}

abbrev pub IsOpen : ℕ → Outcome → Type 0
IsOpen n o = o.status ≡ NotProved n

module _ (n : ℕ) where
  refused_not : (refusal : Refusal) → IsOpen n (program_refused refusal) → ⊥
  refused_not (Fault kind place) e = cc
  refused_not (Limit kind) e = cc
  refused_not Memory e = cc

  script_not : (f : Stop Breach) → IsOpen n (script_refused f) → ⊥
  script_not (syntax place) e = cc
  script_not (broken (tokens.BadByte place)) e = cc
  script_not (broken (tokens.LongNumber place)) e = cc
  script_not (other (broke rule place)) e = cc
  script_not (other (breaches.limited kind place)) e = cc
  script_not (other (crowded place)) e = cc
  script_not (other (unformed place)) e = cc

  limited_not : (kind : LimitKind) → IsOpen n (limited kind) → ⊥
  limited_not kind e = cc

  -- nor do certificates of all conditions
  pub certificates_not : (ts : List Tree) → IsOpen n (certificates ts) → ⊥
  certificates_not ts = by (nat_lt 268435456 (length (certificates_text ts))) where
    by : (b : Bool) → IsOpen n (cond b (limited limits.Certificates) (record { status = Proved; text = certificates_text ts })) → ⊥
    by true e = cc
    by false e = cc

module _ (told : Told) (o : Outcome) (n : ℕ) (open' : IsOpen n o) where
  ends_as : (p : Outcome) → (IsOpen n p → ⊥) → p ≡ o → ⊥
  ends_as p never is = never (subst (IsOpen n) (sym is) open')

  pub file_read : {A : Type 0} (role : FileRole) (name text : List ℕ) (go : List ℕ → Plan A) → told name ≡ Some text → EndsIn told (asks role name go) o → EndsIn told (go text) o
  file_read role name text go is (inl long) = absurd (limited_not n (length_kind role) (subst (IsOpen n) long.1 open'))
  file_read role name text go is (inr m) =
      let same : m.0 ≡ text = subst (λ (t : Option (List ℕ)). AreTold t m.0) is m.1 in
      subst (λ (b : List ℕ). EndsIn told (go b) o) same m.3

  pub program_read : {A : Type 0} (text : List ℕ) (f : Typed → Plan A) (next : A → Plan ⊥) → EndsIn told (then_plan (then_plan (source_of_text text) f) next) o
      → (p : Typed) × (source_spelled text ≡ Ok p) × EndsIn told (then_plan (f p) next) o
  program_read text f next e =
      by (source_spelled text) refl (subst (λ (q : Plan Typed). EndsIn told (then_plan (then_plan q f) next) o) (source_read text (source_spelled text) refl) e) where
        by : (r : Result Typed Refusal) → source_spelled text ≡ r → EndsIn told (then_plan (then_plan (program_or_end r) f) next) o → (p : Typed) × (source_spelled text ≡ Ok p) × EndsIn told (then_plan (f p) next) o
        by (Ok p) is g = (p, is, g)
        by (Err refusal) is g = absurd (ends_as (program_refused refusal) (refused_not n refusal) g)

  -- the text of the proof spells a script, no condition passes a limit, and the plan goes on with them
  pub record IsPosed (p : Typed) (text : List ℕ) (next : Posed → Plan ⊥) : Type 0 where
    pub steps : List PlainStep
    pub script : steps_spelled p text ≡ Ok steps
    pub few : passes_limit p steps ≡ None
    pub goes : EndsIn told (next (posed p steps)) o

  pub script_posed : (p : Typed) (text : List ℕ) (next : Posed → Plan ⊥) → EndsIn told (then_plan (posed_of_text p text) next) o → IsPosed p text next
  script_posed p text next e =
      by (steps_spelled p text) refl (subst (λ (q : Plan (List PlainStep)). EndsIn told (then_plan (then_plan q (obliged p)) next) o) (script_read p text (steps_spelled p text) refl) e) where
        by_limit : (steps : List PlainStep) (r : Option (VcFault × ℕ)) → steps_spelled p text ≡ Ok steps → passes_limit p steps ≡ r → EndsIn told (then_plan (posed_or_end p steps r) next) o → IsPosed p text next
        by_limit steps None script few g = record { steps = steps; script = script; few = few; goes = g }
        by_limit steps (Some passed) script few g = absurd (ends_as (limited (limit_of passed.0)) (limited_not n (limit_of passed.0)) g)

        by : (r : Result (List PlainStep) (Stop Breach)) → steps_spelled p text ≡ r → EndsIn told (then_plan (then_plan (steps_or_end r) (obliged p)) next) o → IsPosed p text next
        by (Ok steps) is g =
            by_limit steps (passes_limit p steps) is refl (subst (λ (q : Plan Posed). EndsIn told (then_plan q next) o) (obliged_is p steps (passes_limit p steps) refl) g)
        by (Err fault) is g = absurd (ends_as (script_refused fault) (script_not n fault) g)
