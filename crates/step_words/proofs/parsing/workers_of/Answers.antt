use Rattle.std.proofs.Common.{◌∙◌, codes}
use Rattle.clap.specs.Words.{found_of, rows_of, one_of}
use Rattle.clap.proofs.WalkLemmas.{one_text-rows}
use Rattle.std.specs.contracts.prelude.U32FromStr.TheImpl.{ghosts}
use Rattle.step_words.proofs.Asked.{asked, not_asked}
use Rattle.step_words.proofs.parsing.workers_of.Goals as goal

pub returns-in-Some-clause-asked : goal.returns-in-Some-clause-asked
returns-in-Some-clause-asked c =
    let f = found_of c.args.matches.now in
    let rows = one_text-rows f (codes "workers") in
    asked ghosts.from_str_gives (λ t r g. g.0) (one_of (codes "workers") (rows_of f)) _ _ (c.get_one.result) c.in-Some.is (λ none. c.get_one.ensures.none (rows ∙ none)) (λ t is. c.get_one.ensures.value t (rows ∙ is)) c.within_range.ensures.same

pub returns-in-None-clause-asked : goal.returns-in-None-clause-asked
returns-in-None-clause-asked c =
    let f = found_of c.args.matches.now in
    let rows = one_text-rows f (codes "workers") in
    not_asked ghosts.from_str_gives (λ t r g. g.0) (one_of (codes "workers") (rows_of f)) (c.get_one.result) c.in-None.is (λ t is. c.get_one.ensures.value t (rows ∙ is))
