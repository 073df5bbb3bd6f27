use Rattle.std.proofs.Common.{rules, subst, sym, ap, ◌≡◌, ◌∙◌, [], Some, ℕ, List}
use Rattle.std.specs.Prelude.{Option, IfOk, IfSome}
use Rattle.st_outside.specs.Sink.{behind}
use Rattle.step_words.specs.Definition.{words_of}
use Rattle.step_words.specs.Request.{PlainRequest, request_of}
use Rattle.step_plan.specs.declared.status.Status.TheVariants.{Proved, ReadFault}
use Rattle.step_plan.specs.Plan.{outcome_of}
use Rattle.step_plan.specs.Ending.{UnlessFault, IsReached, IsReadFault}
use Rattle.step_run.specs.Headline.{Headline, Exactly}
use Rattle.step_run.specs.Plans.{plan_of, plan_for}
use Rattle.step_run.specs.Request.{NamesFile}
use Rattle.milkhour_run.specs.Asked.{asked}
use Rattle.milkhour_run.specs.Held.{told_in, misses_of}
use Rattle.milkhour_run.proofs.Taken.{asks}
use Rattle.milkhour_run.proofs.Lacking.{lacks, ok_map}
use Rattle.milkhour_run.proofs.answering.answer.Goals as goal

pub returns-clause-outcome : goal.returns-clause-outcome
returns-clause-outcome g c =
    let words : words_of c.as_slice.result.now ≡ words_of c.in_ok-words.words.items = ap words_of c.as_slice.ensures.value in
    let asked_for : request_of (words_of c.as_slice.result.now) ≡ Some (asked c.args.question) =
    asks c.named_forms_are_taken.ensures c.args.question c.crew.result c.crew.ensures.least c.crew.ensures.most (words_of c.as_slice.result.now) (words ∙ c.in_ok-words.ensures) in
    subst (λ (r : Option PlainRequest). IfOk c.answered.result (λ a. UnlessFault a.status (IfSome (outcome_of (told_in c.args.texts.now) (plan_of r)) (IsReached a.status (Some []) (Some a.text.items)))))
    asked_for c.answered.ensures.outcome

pub returns-clause-headline : goal.returns-clause-headline
returns-clause-headline g c =
    let words : words_of c.as_slice.result.now ≡ words_of c.in_ok-words.words.items = ap words_of c.as_slice.ensures.value in
    let asked_for : request_of (words_of c.as_slice.result.now) ≡ Some (asked c.args.question) =
    asks c.named_forms_are_taken.ensures c.args.question c.crew.result c.crew.ensures.least c.crew.ensures.most (words_of c.as_slice.result.now) (words ∙ c.in_ok-words.ensures) in
    subst (λ (r : Option PlainRequest). IfOk c.answered.result (λ a. a.status ≡ Proved → Headline (told_in c.args.texts.now) (λ text. Some a.text.items ≡ behind (Some []) text) r))
    asked_for c.answered.ensures.headline

pub returns-clause-exact : goal.returns-clause-exact
returns-clause-exact g c =
    let words : words_of c.as_slice.result.now ≡ words_of c.in_ok-words.words.items = ap words_of c.as_slice.ensures.value in
    let asked_for : request_of (words_of c.as_slice.result.now) ≡ Some (asked c.args.question) =
    asks c.named_forms_are_taken.ensures c.args.question c.crew.result c.crew.ensures.least c.crew.ensures.most (words_of c.as_slice.result.now) (words ∙ c.in_ok-words.ensures) in
    subst (λ (r : Option PlainRequest). IfOk c.answered.result (λ a. UnlessFault a.status (Exactly (told_in c.args.texts.now) a.status r)))
    asked_for c.answered.ensures.exact

pub returns-clause-reads : goal.returns-clause-reads
returns-clause-reads g c =
    let words : words_of c.as_slice.result.now ≡ words_of c.in_ok-words.words.items = ap words_of c.as_slice.ensures.value in
    let asked_for : request_of (words_of c.as_slice.result.now) ≡ Some (asked c.args.question) =
    asks c.named_forms_are_taken.ensures c.args.question c.crew.result c.crew.ensures.least c.crew.ensures.most (words_of c.as_slice.result.now) (words ∙ c.in_ok-words.ensures) in
    let before : List ℕ → ℕ = λ name. misses_of (told_in c.args.texts.now name) 0 in
    let after : List ℕ → ℕ = λ name. misses_of (told_in c.answered.new.files.texts name) c.answered.new.files.misses in
    let read : IfOk c.answered.result (λ a. a.status ≡ ReadFault → IsReadFault (NamesFile (Some (asked c.args.question))) (told_in c.args.texts.now) (plan_for (asked c.args.question)) before after a.text.items) =
    subst (λ (r : Option PlainRequest). IfOk c.answered.result (λ a. a.status ≡ ReadFault → IsReadFault (NamesFile r) (told_in c.args.texts.now) (plan_of r) before after a.text.items))
    asked_for c.answered.ensures.reads in
    ok_map c.answered.result read (λ a reads is. lacks c.args.texts.now c.answered.new.files.texts c.args.question 0 c.answered.new.files.misses (plan_for (asked c.args.question)) a.text.items c.answered.ensures.same (reads is))
