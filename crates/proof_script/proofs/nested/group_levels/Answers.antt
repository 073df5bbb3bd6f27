use Rattle.std.proofs.Common.{◌∙◌, ◌∷◌, ◌-◌, [], sym, ap, map, arith}
use Rattle.std.proofs.lemmas.List.{map-append}
use Rattle.std.proofs.lemmas.Result.{err_from_is_err_and}
use Rattle.st_tokens.specs.Stream.{stream}
use Rattle.st_reading.specs.declared.mark.Mark.TheVariants as marks
use Rattle.st_reading.specs.Sign.{is}
use Rattle.st_reading.specs.Reading.{size}
use Rattle.st_reading.proofs.Streams.{behind_size}
use Rattle.temporal_goals.specs.Plain.{plain_level}
use Rattle.proof_script.specs.Listing.{setting_view}
use Rattle.proof_script.proofs.Grouping.{groups_next, groups_end, groups_full, groups_fail}
use Rattle.proof_script.proofs.nested.group_levels.Goals as goal

pub returns-then-not-is-clause-reads : goal.returns-then-not-is-clause-reads
returns-then-not-is-clause-reads c =
    sym c.groups.invariant.0
    ∙ groups_end (setting_view c.args.setting.now) (map plain_level c.groups.levels.items) (stream c.groups.tokens) c.groups.room (c.if-not-is.ensures ∙ ap (λ g. is g marks.Base) c.ahead.ensures)

pub returns-in_err-next-clause-reads : goal.returns-in_err-next-clause-reads
returns-in_err-next-clause-reads c =
    let p = err_from_is_err_and c.from_residual.result c.from_residual.ensures.1 in
    rw (p.1, p.2, ← c.groups.invariant.0)
    (groups_fail (setting_view c.args.setting.now) (map plain_level c.groups.levels.items) (stream c.groups.tokens) c.groups.room (c.groups.room - 1) _ (stream c.advance.new.tokens) (omega arith)
    (c.if-not-is.ensures ∙ ap (λ g. is g marks.Base) c.ahead.ensures) c.advance.ensures c.in_err-next.ensures.reads)

pub groups-preserved : goal.groups-preserved
groups-preserved c =
    let here = c.groups.invariant.1 in
    let read = c.in_ok-next.ensures.shrinks in
    let next = ap size c.advance.ensures in
    let less = behind_size (stream c.groups.tokens) in (
      sym (groups_next (setting_view c.args.setting.now) (map plain_level c.groups.levels.items) (stream c.groups.tokens) c.groups.room (c.groups.room - 1) (plain_level c.in_ok-next.next) (map plain_level c.push.new.self.items) (stream c.advance.new.tokens) (stream c.group_level.new.tokens)
          (omega arith) (c.if-not-is.ensures ∙ ap (λ g. is g marks.Base) c.ahead.ensures) c.advance.ensures c.in_ok-next.ensures.reads
          (ap (map plain_level) c.in_ok-push.ensures.items ∙ map-append plain_level c.groups.levels.items (c.in_ok-next.next ∷ [])))
          ∙ c.groups.invariant.0,
      omega (arith, here, read, next, less),
    )

pub returns-clause-reads : goal.returns-clause-reads
returns-clause-reads c =
    sym c.groups.invariant.0 ∙ groups_full (setting_view c.args.setting.now) (map plain_level c.groups.levels.items) (stream c.groups.tokens) c.groups.room (omega arith)
