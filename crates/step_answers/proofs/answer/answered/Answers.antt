use Rattle.std.proofs.Common.{subst, sym, ◌≡◌, Some, ℕ, List}
use Rattle.std.specs.Prelude.{IfSome}
use Rattle.st_outside.specs.Sink.{behind}
use Rattle.step_words.specs.Definition.{words_of}
use Rattle.step_words.specs.Request.{request_of}
use Rattle.step_plan.specs.Plan.{outcome_of}
use Rattle.step_plan.specs.Ending.{UnlessFault, IsReached, IsReadFault, IsOutput}
use Rattle.step_run.specs.Headline.{Headline}
use Rattle.step_run.specs.Plans.{plan_of}
use Rattle.step_run.specs.Request.{NamesFile}
use Rattle.step_answers.proofs.Faults.{is_fault}
use Rattle.step_answers.proofs.answer.answered.Goals as goal

pub returns-in_default-clause-outcome : goal.returns-in_default-clause-outcome
returns-in_default-clause-outcome g c =
    let ends : List ℕ → List ℕ → Type 0
    = λ old new. UnlessFault c.step_run-status.result (IfSome (outcome_of (g.F.Files.told c.args.files.now) (plan_of (request_of (words_of c.args.words.now))))
    (IsReached c.step_run-status.result (Some old) (Some new))) in
    subst (λ (old : List ℕ). ends old c.into_text.result.items) c.new-out.ensures
    (subst (λ (new : List ℕ). ends c.new-out.result.text.items new) (sym c.into_text.ensures) c.step_run-status.ensures.outcome)

pub returns-in_default-clause-headline : goal.returns-in_default-clause-headline
returns-in_default-clause-headline g c =
    let says : List ℕ → List ℕ → Type 0
    = λ old new. Headline (g.F.Files.told c.args.files.now) (λ text. Some new ≡ behind (Some old) text) (request_of (words_of c.args.words.now)) in
    λ proved. subst (λ (old : List ℕ). says old c.into_text.result.items) c.new-out.ensures
    (subst (λ (new : List ℕ). says c.new-out.result.text.items new) (sym c.into_text.ensures) (c.step_run-status.ensures.headline proved))

pub returns-in_default-clause-reads : goal.returns-in_default-clause-reads
returns-in_default-clause-reads g c =
    let request = request_of (words_of c.args.words.now) in
    let told = g.F.Files.told c.args.files.now in
    let before = g.F.Files.faults c.args.files.now in
    let after = g.F.Files.faults c.step_run-status.new.files in
    let fault : List ℕ → Type 0 = IsReadFault (NamesFile request) told (plan_of request) before after in
    λ is. subst fault (sym c.into_text.ensures)
    (is_fault c.step_run-status.result c.new-out.result.text.items c.step_run-status.new.out.text.items
    (IsOutput (NamesFile request) told (plan_of request) before after) fault c.step_run-status.ensures.written c.new-out.ensures is)
