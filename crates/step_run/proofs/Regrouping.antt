-- A plan whose parts are put together in another order: the program and the script are read, then the conditions generated.
use Rattle.std.proofs.Common.{◌≡◌, List, ℕ, ◌∙◌, subst}
use Rattle.step_report.specs.declared.refusals.FileRole.TheVariants.{Proof}
use Rattle.step_plan.specs.declared.ended.Ended.{Ended}
use Rattle.step_plan.specs.declared.stage.Stage.{Stage}
use Rattle.step_plan.specs.Plan.{Told, Counts, Plan, then_plan, file_plan, Follows}
use Rattle.step_plan.specs.Stage.{Comes, Settles}
use Rattle.step_plan.proofs.Follow.{regroup}
use Rattle.spl_typer.specs.Programs.{Typed}
use Rattle.step_run.specs.Posing.{obliged_in}
use Rattle.step_run.specs.Plans.{source_plan, script_of_text, scripted_of_text, script_plan, scripted_plan, posed_of_text, posed_plan, conditions_plan}
use Rattle.step_run.proofs.Scripts.{next_of}

module _ {V A : Type 0} (view : V → A) where
  pub settles_as : (plan same : Plan A) (s : Stage V) → plan ≡ same → Settles view plan s → Settles view same s
  settles_as plan same s is h = subst (λ (q : Plan A). Settles view q s) is h

  pub comes_as : (told : Told) (before now : Counts) (plan same : Plan A) (s : Stage V) → plan ≡ same → Comes view told before now plan s → Comes view told before now same s
  comes_as told before now plan same s is h = subst (λ (q : Plan A). Comes view told before now q s) is h

pub follows_as : {A : Type 0} (told : Told) (before now : Counts) (plan same : Plan A) (ended : Ended) → plan ≡ same → Follows told before now plan ended → Follows told before now same ended
follows_as {A} told before now plan same ended is h = subst (λ (q : Plan A). Follows told before now q ended) is h

pub posed_is : (p : Typed) (text : List ℕ) → then_plan (scripted_of_text p text) obliged_in ≡ posed_of_text p text
posed_is p text = regroup (next_of p) obliged_in (script_of_text p text)

posed_next : (name : List ℕ) (p : Typed) → then_plan (script_plan name p) obliged_in ≡ posed_plan name p
posed_next name p = regroup (scripted_of_text p) obliged_in (file_plan Proof name) ∙ (λ i. then_plan (file_plan Proof name) (λ text. posed_is p text i))

pub conditions_are : (program proof : List ℕ) → then_plan (scripted_plan program proof) obliged_in ≡ conditions_plan program proof
conditions_are program proof = regroup (script_plan proof) obliged_in (source_plan program) ∙ (λ i. then_plan (source_plan program) (λ p. posed_next proof p i))
