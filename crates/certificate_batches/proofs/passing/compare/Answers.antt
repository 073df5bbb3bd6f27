use Rattle.std.proofs.Common.{◌≡◌, ◌∙◌, ◌++◌, ℕ, List, length, drop, sym, subst, rules}
use Rattle.certificate_batches.proofs.Unread.{line_passed}
use Rattle.certificate_batches.proofs.passing.compare.Goals as goal

pub returns-then-begins_with : goal.returns-then-begins_with
returns-then-begins_with c = λ k cs below expected.
    line_passed k c.spelled_is_read.ensures c.header_is_read.ensures cs c.args.place c.args.reader.now c.pass.new.reader c.args.expected.now below c.requires.few c.requires.number
    (sym c.is_second.ensures ∙ c.stands.ensures (search rules)) expected
    (subst (λ (xs : List ℕ). xs ≡ c.args.expected.now ++ drop (length c.args.expected.now) xs) c.front.ensures (c.begins_with.ensures c.if-begins_with.true)) c.pass.ensures

pub returns : goal.returns
returns c = λ k cs below expected. c.unlike.ensures k cs c.args.place c.args.reader.now c.requires.unended
