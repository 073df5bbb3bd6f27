use Rattle.step_words.specs.Definition.{words_of}
use Rattle.step_words.specs.Request.{request_of}
use Rattle.step_plan.proofs.Ending.{output, outcome_is, written_is, honest_is, not_nothing, memory_honest}
use Rattle.step_run.specs.Plans.{plan_of}
use Rattle.step_run.specs.Request.{NamesFile}
use Rattle.step_run.proofs.Named.{named}
use Rattle.step_run.proofs.Tops.{exact_is, headline_is}
use Rattle.step_run.proofs.top.step_run.Goals as goal

pub returns-in-Ok-write_whole-clause-outcome : goal.returns-in-Ok-write_whole-clause-outcome
returns-in-Ok-write_whole-clause-outcome g c =
    let request = request_of (words_of c.args.words.now) in
    let told = g.F.Files.told c.args.files.now in
    let taken = rw c.as_slice.ensures.value at c.in-Ok-write_whole.ensures.ok in
    outcome_is (NamesFile request) told (plan_of request) _ _ c.in-Ok.ended (named told request) _ _ taken c.in-Ok.ensures.follows

pub returns-in-Ok-write_whole-clause-headline : goal.returns-in-Ok-write_whole-clause-headline
returns-in-Ok-write_whole-clause-headline g c = λ is.
    (let request = request_of (words_of c.args.words.now) in
    let taken = rw c.as_slice.ensures.value at c.in-Ok-write_whole.ensures.ok in
    headline_is (g.F.Files.told c.args.files.now) _ _ request c.in-Ok.ended c.status_zero_is_exact.ensures.shows _ _ taken c.in-Ok.ensures.follows is)

pub returns-in-Ok-write_whole-clause-exact : goal.returns-in-Ok-write_whole-clause-exact
returns-in-Ok-write_whole-clause-exact g c =
    let request = request_of (words_of c.args.words.now) in
    exact_is (g.F.Files.told c.args.files.now) _ _ request c.in-Ok.ended c.status_zero_is_exact.ensures.exact c.in-Ok.ensures.follows

pub returns-in-Ok-write_whole-clause-written : goal.returns-in-Ok-write_whole-clause-written
returns-in-Ok-write_whole-clause-written g c =
    let request = request_of (words_of c.args.words.now) in
    let told = g.F.Files.told c.args.files.now in
    let taken = rw c.as_slice.ensures.value at c.in-Ok-write_whole.ensures.ok in
    written_is (NamesFile request) told (plan_of request) _ _ c.in-Ok.ended (named told request) _ _ taken c.in-Ok.ensures.follows

pub returns-clause-written : goal.returns-clause-written
returns-clause-written g c =
    let request = request_of (words_of c.args.words.now) in
    let told = g.F.Files.told c.args.files.now in
    let taken = rw c.as_slice.ensures.value at c.in-Err-write_whole.ensures.err in
    (c.in-Ok.ended.text.items, output (NamesFile request) told (plan_of request) _ _ c.in-Ok.ended (named told request) c.in-Ok.ensures.follows, taken)

pub returns-in-Ok-write_whole-clause-honest : goal.returns-in-Ok-write_whole-clause-honest
returns-in-Ok-write_whole-clause-honest g c =
    let request = request_of (words_of c.args.words.now) in
    let told = g.F.Files.told c.args.files.now in
    let taken = rw c.as_slice.ensures.value at c.in-Ok-write_whole.ensures.ok in
    honest_is (NamesFile request) told (plan_of request) _ _ c.in-Ok.ended (named told request) _ _ taken _ _ c.in-Ok.ensures.follows

pub returns-clause-honest : goal.returns-clause-honest
returns-clause-honest g c = λ nothing. absurd (not_nothing _ _ _ _ _ c.in-Err-write_whole.ensures.cause nothing)

pub returns-in-Err-clause-honest : goal.returns-in-Err-clause-honest
returns-in-Err-clause-honest g c = λ nothing. memory_honest _ _ _
