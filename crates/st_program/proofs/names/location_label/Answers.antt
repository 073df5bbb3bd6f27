use Rattle.std.proofs.Common.{◌∙◌, ap, sym, Some, drop, ◌+◌, true, false}
use Rattle.std.proofs.lemmas.Bool.{eq-eqb}
use Rattle.st_program.proofs.Lookups.{at-hit, at-miss, differs, by_location, location-next}
use Rattle.st_program.proofs.names.location_label.Goals as goal

pub returns-then-entry-loc : goal.returns-then-entry-loc
returns-then-entry-loc c =
    let all = c.args.labels.now.entries in
    let i = c.loop-index.index in
    ap Some c.as_str.ensures.value
    ∙ sym (at-hit (by_location c.args.loc) all i (c.in-Some.entry.0.now, c.in-Some.entry.1.now) _ c.in-Some.ensures.entry (location-next c.args.loc (c.in-Some.entry.0.now, c.in-Some.entry.1.now) (drop (i + 1) all) true (eq-eqb c.in-Some.entry.1.now.0 c.args.loc c.if-entry-loc.true)))
    ∙ c.loop-index.invariant

pub loop-index-preserved : goal.loop-index-preserved
loop-index-preserved c =
    let all = c.args.labels.now.entries in
    let i = c.loop-index.index in
    at-miss (by_location c.args.loc) all i (c.in-Some.entry.0.now, c.in-Some.entry.1.now) c.in-Some.ensures.entry (location-next c.args.loc (c.in-Some.entry.0.now, c.in-Some.entry.1.now) (drop (i + 1) all) false (differs c.in-Some.entry.1.now.0 c.args.loc c.if-entry-loc.false))
    ∙ c.loop-index.invariant
