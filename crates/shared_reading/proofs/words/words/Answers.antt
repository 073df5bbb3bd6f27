use Rattle.std.proofs.Common.{◌<◌, length, arith}
use Rattle.std.proofs.lemmas.Bool.Decides.{nat_tests}
use Rattle.shared_certificates.specs.Lines.{words}
use Rattle.shared_reading.proofs.Splitting.{word-more}
use Rattle.shared_reading.proofs.words.words.Goals as goal

pub words-preserved : goal.words-preserved
words-preserved c =
    let some : 0 < length c.words.rest.now = grind (arith, nat_tests, c.words-test.true, c.is_empty.ensures) in
    record {
      trimmed = c.trimmed-rest-in-words.ensures.trimmed;
      same = rw (c.in_ok-push.ensures.items) (word-more c.words.out.items c.split_at.result.0 c.words.rest.now c.split_at.result.1.now c.trimmed-rest-in-words.result.now c.word_len.result (words c.args.line.now) c.words.invariant.trimmed some c.word_len.ensures.is c.split_at.ensures.front c.split_at.ensures.back c.trimmed-rest-in-words.ensures.same c.words.invariant.same);
    }
