-- What a call for the next block answers, also where a text ends inside a token.
use Rattle.std.specs.Prelude.{ℕ, Option, Some, None}
use Rattle.cert_text.specs.declared.scan.Word.{Word}
use Rattle.cert_text.specs.declared.scan.Token.TheVariants as tokens
use Rattle.cert_text.specs.declared.scan.Want.{Want}
use Rattle.cert_text.specs.declared.scan.Want.TheVariants as wants
use Rattle.cert_text.specs.declared.scan.Scan.{Scan}
use Rattle.cert_text.specs.declared.scan.Given.{Given}
use Rattle.cert_text.specs.declared.scan.Given.TheVariants as givens
use Rattle.cert_text.specs.declared.reader.NextBlock.{NextBlock}
use Rattle.cert_text.specs.declared.reader.NextBlock.TheVariants as nexts
use Rattle.cert_text.specs.Control.{give, word_of}
use Rattle.st_certificate.specs.Tree.{Tree}
use Rattle.st_certificate.specs.Plain.{plain}
use Rattle.cert_text.specs.Reading.{Pending, idle, letters, digits}

-- an answer as plain data
pub data Answer : Type 0 where
  block : ℕ → Tree → Answer
  need : Answer
  no_more : Answer
  malformed_at : ℕ → Answer
  limit_at : ℕ → Answer

abbrev pub answer_view : NextBlock → Answer
answer_view (nexts.Block b) = block b.number (plain b.certificate)
answer_view nexts.Need = need
answer_view nexts.End = no_more
answer_view (nexts.Malformed place) = malformed_at place
answer_view (nexts.CertLimit place) = limit_at place

-- the last token of a text
abbrev pub judged : Given → ℕ → ℕ → Answer
judged (givens.On scan action) place end = malformed_at end
judged givens.Wrong place end = malformed_at place
judged givens.Over place end = limit_at place

abbrev pub word_judged : Scan → Option Word → ℕ → ℕ → Answer
word_judged scan (Some w) place end = judged (give scan (tokens.Word w)) place end
word_judged scan None place end = malformed_at place

abbrev pub blank_end : Want → ℕ → Answer
blank_end (wants.Block header) end = no_more
blank_end _ end = malformed_at end

-- the answer where a text ends that holds no whole block
abbrev pub at_end : Scan → Pending → ℕ → Answer
at_end scan idle end = blank_end scan.want end
at_end scan (letters place ls) end = word_judged scan (word_of ls) place end
at_end scan (digits place n) end = judged (give scan (tokens.Number n)) place end
