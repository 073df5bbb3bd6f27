-- From how the work ended to the clauses on status 0.
use Rattle.std.proofs.Common.{◌≡◌, inl, inr, ℕ, List, subst, sym, ap}
use Rattle.std.specs.Prelude.{Option}
use Rattle.st_outside.specs.Sink.{behind}
use Rattle.step_words.specs.Request.{PlainRequest}
use Rattle.step_plan.specs.declared.ended.Ended.{Ended}
use Rattle.step_plan.specs.declared.status.Status.{Status}
use Rattle.step_plan.specs.declared.status.Status.TheVariants.{Proved, ReadFault}
use Rattle.step_plan.specs.Ending.{UnlessFault}
use Rattle.step_plan.specs.Outcome.{Outcome, ended_view}
use Rattle.step_plan.specs.Plan.{Told, Counts, Faulted, Follows}
use Rattle.step_run.specs.Headline.{Headline, Exactly}
use Rattle.step_run.specs.Plans.{plan_of}
use Rattle.step_run.specs.StatusZero.{EndsShow, EndsAreExact}
use Rattle.step_plan.proofs.Ending.{unless}

module _ (told : Told) (before now : Counts) (request : Option PlainRequest) (ended : Ended) where
  failed : Faulted told before now (plan_of request) ended → ended.status ≡ ReadFault
  failed f = ap (λ (o : Outcome). o.status) f.view

  pub exact_is : EndsAreExact → Follows told before now (plan_of request) ended → UnlessFault ended.status (Exactly told ended.status request)
  exact_is law (inl plain) = unless ended.status _ (law told request (ended_view ended) plain.outcome)
  exact_is law (inr f) = subst (λ (s : Status). UnlessFault s (Exactly told s request)) (sym (failed f)) tt

  pub headline_is : EndsShow → (taken taken' : Option (List ℕ)) → taken' ≡ behind taken ended.text.items → Follows told before now (plan_of request) ended → ended.status ≡ Proved
      → Headline told (λ text. taken' ≡ behind taken text) request
  headline_is law taken taken' wrote (inl plain) proved = law told request (ended_view ended) taken taken' plain.outcome proved wrote
  headline_is law taken taken' wrote (inr f) proved = absurd (let same : ReadFault ≡ Proved = subst (λ (s : Status). s ≡ Proved) (failed f) proved in cc)
