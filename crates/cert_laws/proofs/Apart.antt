-- Answers that differ, and what is answered at the end of a text.
use Rattle.std.proofs.Common.{◌≡◌, ℕ, Bool, true, false, cond, refl, sym, ap, Option, Some, None}
use Rattle.st_certificate.specs.Tree.{Tree}
use Rattle.cert_text.specs.declared.scan.Word.{Word}
use Rattle.cert_text.specs.declared.scan.Token.TheVariants as tokens
use Rattle.cert_text.specs.declared.scan.Want.{Want}
use Rattle.cert_text.specs.declared.scan.Want.TheVariants as wants
use Rattle.cert_text.specs.declared.scan.Scan.{Scan}
use Rattle.cert_text.specs.declared.scan.Given.{Given}
use Rattle.cert_text.specs.declared.scan.Given.TheVariants as givens
use Rattle.cert_text.specs.Control.{give}
use Rattle.cert_text.specs.Answer.{Answer, block, need, no_more, malformed_at, limit_at, judged, word_judged, blank_end}

-- answers that differ

pub need_end : need ≡ no_more → ⊥
need_end e = cc

pub need_wrong : (p : ℕ) → need ≡ malformed_at p → ⊥
need_wrong p e = cc

pub need_limit : (p : ℕ) → need ≡ limit_at p → ⊥
need_limit p e = cc

pub end_wrong : (p : ℕ) → no_more ≡ malformed_at p → ⊥
end_wrong p e = cc

pub end_limit : (p : ℕ) → no_more ≡ limit_at p → ⊥
end_limit p e = cc

pub wrong_limit : (p m : ℕ) → malformed_at p ≡ limit_at m → ⊥
wrong_limit p m e = cc

pub block_need : (n : ℕ) (t : Tree) → block n t ≡ need → ⊥
block_need n t e = cc

pub block_end : (n : ℕ) (t : Tree) → block n t ≡ no_more → ⊥
block_end n t e = cc

pub block_wrong : (n : ℕ) (t : Tree) (p : ℕ) → block n t ≡ malformed_at p → ⊥
block_wrong n t p e = cc

pub block_limit : (n : ℕ) (t : Tree) (p : ℕ) → block n t ≡ limit_at p → ⊥
block_limit n t p e = cc

abbrev pub place_in : ℕ → Answer → ℕ
place_in m (block n t) = m
place_in m need = m
place_in m no_more = m
place_in m (malformed_at p) = p
place_in m (limit_at p) = p

-- the end of a text

pub blank_need : (want : Want) (end : ℕ) → blank_end want end ≡ need → ⊥
blank_need (wants.Block header) end e = need_end (sym e)
blank_need wants.HeaderNumber end e = need_wrong end (sym e)
blank_need _ end e = need_wrong end (sym e)

pub blank_limit : (want : Want) (end p : ℕ) → blank_end want end ≡ limit_at p → ⊥
blank_limit (wants.Block header) end p e = end_limit p e
blank_limit wants.HeaderNumber end p e = wrong_limit end p e
blank_limit _ end p e = wrong_limit end p e

pub blank_wrong : (want : Want) (end p : ℕ) → blank_end want end ≡ malformed_at p → end ≡ p
blank_wrong (wants.Block header) end p e = absurd (end_wrong p e)
blank_wrong wants.HeaderNumber end p e = ap (place_in end) e
blank_wrong _ end p e = ap (place_in end) e

pub blank_more : (want : Want) (end : ℕ) → blank_end want end ≡ no_more → (header : Bool) × (want ≡ wants.Block header)
blank_more (wants.Block header) end e = (header, refl)
blank_more wants.HeaderNumber end e = absurd (end_wrong end (sym e))
blank_more _ end e = absurd (end_wrong end (sym e))

pub judged_more : (g : Given) (place end : ℕ) → judged g place end ≡ no_more → ⊥
judged_more (givens.On s a) place end e = end_wrong end (sym e)
judged_more givens.Wrong place end e = end_wrong place (sym e)
judged_more givens.Over place end e = end_limit place (sym e)

pub word_more : (s : Scan) (w : Option Word) (place end : ℕ) → word_judged s w place end ≡ no_more → ⊥
word_more s (Some w) place end e = judged_more (give s (tokens.Word w)) place end e
word_more s None place end e = end_wrong place (sym e)

-- an answer that is looked for, by whether the text is finished

pub if_finished : (P : Type 0) (c : Bool) (x y a : Answer) → (c ≡ true → x ≡ a → P) → (c ≡ false → y ≡ a → P) → cond c x y ≡ a → P
if_finished P true x y a f g e = f refl e
if_finished P false x y a f g e = g refl e
