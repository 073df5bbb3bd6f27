-- What it means that a plan ends with status 0.
use Rattle.std.specs.Prelude.{◌≡◌, ℕ, List, Option}
use Rattle.st_outside.specs.Sink.{behind}
use Rattle.step_words.specs.Request.{PlainRequest}
use Rattle.step_plan.specs.declared.status.Status.TheVariants.{Proved}
use Rattle.step_plan.specs.Outcome.{Outcome}
use Rattle.step_plan.specs.Plan.{Told, EndsIn}
use Rattle.step_run.specs.Headline.{Headline, Exactly}
use Rattle.step_run.specs.Plans.{plan_of}

-- the end of a request's plan with status 0, written to a sink, is as the headline says
abbrev pub EndsShow : Type 0
EndsShow =
    (told : Told) (request : Option PlainRequest) (o : Outcome) (before now : Option (List ℕ)) → EndsIn told (plan_of request) o → o.status ≡ Proved → now ≡ behind before o.text
    → Headline told (λ text. now ≡ behind before text) request

-- and it has this status exactly where the texts are so
abbrev pub EndsAreExact : Type 0
EndsAreExact = (told : Told) (request : Option PlainRequest) (o : Outcome) → EndsIn told (plan_of request) o → Exactly told o.status request
