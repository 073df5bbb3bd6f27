-- The program that a text spells, as a stage of a plan.
use Rattle.std.proofs.Common.{◌≡◌, ℕ, List, ap, ◌∙◌, sym, subst}
use Rattle.std.specs.Prelude.{Result, Err}
use Rattle.spl_typer.specs.Programs.{Typed}
use Rattle.step_plan.specs.declared.ended.Ended.{Ended}
use Rattle.step_plan.specs.Outcome.{Outcome, ended_view, IsDecided}
use Rattle.step_plan.specs.Plan.{ends}
use Rattle.step_run.specs.declared.refusals.Refusal.{Refusal}
use Rattle.step_run.specs.declared.refusals.Refusal.TheVariants.{Fault, Limit, Memory}
use Rattle.step_run.specs.Refusals.{Fails}
use Rattle.step_run.specs.Outcome.{program_refused}
use Rattle.step_run.specs.Source.{source_spelled}
use Rattle.step_run.specs.Plans.{program_or_end, source_of_text}

pub source_read : (text : List ℕ) (r : Result Typed Refusal) → source_spelled text ≡ r → source_of_text text ≡ program_or_end r
unfolding source_of_text
source_read text r is = ap program_or_end is

-- an end whose status is decided isn't want of memory
pub not_memory : (ended : Ended) (o : Outcome) → ended_view ended ≡ o → IsDecided ended.status → IsDecided o.status
not_memory ended o is decided = subst (λ (p : Outcome). IsDecided p.status) is decided

pub source_over : (text : List ℕ) (refusal : Refusal) (ended : Ended) → Fails refusal (source_spelled text) → ended_view ended ≡ program_refused refusal → IsDecided ended.status
    → (source_of_text text ≡ ends (ended_view ended)) × IsDecided ended.status
source_over text (Fault kind place) ended fails is decided = (source_read text (Err (Fault kind place)) fails ∙ ap ends (sym is), decided)
source_over text (Limit kind) ended fails is decided = (source_read text (Err (Limit kind)) fails ∙ ap ends (sym is), decided)
source_over text Memory ended fails is decided = absurd (not_memory ended (program_refused Memory) is decided)
