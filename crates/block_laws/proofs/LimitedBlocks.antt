-- A block that was read is within the limits of certificates.
use Rattle.std.proofs.Common.{◌≡◌, ℕ, Bool, true, false, cond, Option, Some, None, refl, ap, subst}
use Rattle.st_certificate.specs.Tree.{Tree}
use Rattle.farkas_check.specs.Limits.{IsLimited}
use Rattle.cert_text.specs.declared.scan.Word.{Word}
use Rattle.cert_text.specs.declared.scan.Token.TheVariants as tokens
use Rattle.cert_text.specs.declared.scan.Want.{Want}
use Rattle.cert_text.specs.declared.scan.Want.TheVariants as wants
use Rattle.cert_text.specs.declared.scan.Scan.{Scan}
use Rattle.cert_text.specs.declared.scan.Given.{Given}
use Rattle.cert_text.specs.declared.scan.Given.TheVariants as givens
use Rattle.cert_text.specs.Control.{give, word_of}
use Rattle.cert_text.specs.Tree.{last_tree}
use Rattle.cert_text.specs.Reading.{State, Pending, idle, letters, digits, going, malformed, over, whole}
use Rattle.cert_text.specs.Answer.{Answer, block, need, no_more, malformed_at, limit_at, judged, word_judged, blank_end, at_end}
use Rattle.cert_text.specs.Held.{Held, outcome, answer_at, answer_of}
use Rattle.block_laws.proofs.Limited.{block_limited}

abbrev is_block : Answer → Bool
is_block (block n t) = true
is_block need = false
is_block no_more = false
is_block (malformed_at place) = false
is_block (limit_at place) = false

judged_no : (g : Given) (place end : ℕ) → is_block (judged g place end) ≡ false
judged_no (givens.On scan action) place end = refl
judged_no givens.Wrong place end = refl
judged_no givens.Over place end = refl

word_no : (scan : Scan) (w : Option Word) (place end : ℕ) → is_block (word_judged scan w place end) ≡ false
word_no scan (Some w) place end = judged_no (give scan (tokens.Word w)) place end
word_no scan None place end = refl

blank_no : (want : Want) (end : ℕ) → is_block (blank_end want end) ≡ false
blank_no (wants.Block header) end = refl
blank_no _ end = refl

end_no : (scan : Scan) (p : Pending) (end : ℕ) → is_block (at_end scan p end) ≡ false
end_no scan idle end = blank_no scan.want end
end_no scan (letters place ls) end = word_no scan (word_of ls) place end
end_no scan (digits place n) end = judged_no (give scan (tokens.Number n)) place end

going_no : (scan : Scan) (p : Pending) (end : ℕ) (finished : Bool) → is_block (cond finished (at_end scan p end) need) ≡ false
going_no scan p end true = end_no scan p end
going_no scan p end false = refl

clash : (a : Answer) (n : ℕ) (t : Tree) → is_block a ≡ false → a ≡ block n t → ⊥
clash a n t other is = let same : is_block a ≡ true = ap is_block is in absurd cc

limited_at : (s : State) (h : Held) (n : ℕ) (t : Tree) → outcome h ≡ s → answer_at s h ≡ block n t → IsLimited t
limited_at (going scan built p) h n t e is = absurd (clash _ n t (going_no scan p _ h.finished) is)
limited_at (malformed place) h n t e is = absurd cc
limited_at (over place) h n t e is = absurd cc
limited_at (whole end scan built) h n t e is =
    let same : last_tree built.trees ≡ t = cc in
    subst IsLimited same (block_limited h.place h.number end h.second h.bytes scan built e)

-- a block that was read is within the limits
pub limited_block : (h : Held) (n : ℕ) (t : Tree) → answer_of h ≡ block n t → IsLimited t
limited_block h n t is = limited_at (outcome h) h n t refl is
