use Rattle.std.proofs.Common.{◌∙◌, ap, sym, Some, drop, ◌+◌, true, false}
use Rattle.st_program.proofs.Lookups.{at-hit, at-miss, by_occurrence, occurrence-next}
use Rattle.st_program.proofs.names.occurrence_label.Goals as goal

pub returns-then-is_occurrence : goal.returns-then-is_occurrence
returns-then-is_occurrence c =
    let all = c.args.labels.now.entries in
    let i = c.loop-index.index in
    ap Some c.as_str.ensures.value
    ∙ sym (at-hit (by_occurrence c.args.occ) all i (c.in-Some.entry.0.now, c.in-Some.entry.1.now) _ c.in-Some.ensures.entry (occurrence-next c.args.occ (c.in-Some.entry.0.now, c.in-Some.entry.1.now) (drop (i + 1) all) true (sym c.is_occurrence.ensures ∙ c.if-is_occurrence.true)))
    ∙ c.loop-index.invariant

pub loop-index-preserved : goal.loop-index-preserved
loop-index-preserved c =
    let all = c.args.labels.now.entries in
    let i = c.loop-index.index in
    at-miss (by_occurrence c.args.occ) all i (c.in-Some.entry.0.now, c.in-Some.entry.1.now) c.in-Some.ensures.entry (occurrence-next c.args.occ (c.in-Some.entry.0.now, c.in-Some.entry.1.now) (drop (i + 1) all) false (sym c.is_occurrence.ensures ∙ c.if-is_occurrence.false))
    ∙ c.loop-index.invariant
