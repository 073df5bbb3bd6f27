-- The end of a plan is never a fault of the outside, nor want of memory: only a run comes to these.
use Rattle.std.specs.Prelude.{Option}
use Rattle.step_words.specs.Request.{PlainRequest}
use Rattle.step_plan.specs.Outcome.{Outcome, IsDecided}
use Rattle.step_plan.specs.Plan.{Told, EndsIn}
use Rattle.step_run.specs.Plans.{plan_of}

abbrev pub PlansAreDecided : Type 0
PlansAreDecided = (told : Told) (request : Option PlainRequest) (o : Outcome) → EndsIn told (plan_of request) o → IsDecided o.status
