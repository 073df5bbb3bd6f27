-- What is written of a block's tree is read as it.
use Rattle.std.proofs.Common.{◌≡◌, ℕ, ◌+◌, ◌^◌, ◌<◌, List, [], ◌∷◌, ◌++◌, length, sym, ap, ◌∙◌}
use Rattle.std.proofs.lemmas.List.{append-nil}
use Rattle.cert_text.specs.Grammar.{Written, IsBlock, meaning}
use Rattle.cert_text.specs.Held.{Held, answer_of, taken_from}
use Rattle.cert_text.specs.Answer.{block}
use Rattle.cert_text.specs.Spelling.{block_text}
use Rattle.cert_laws.proofs.BlockRead.{block-answered}
use Rattle.cert_laws.proofs.Writing.{kept, same_meaning, kept_block, line_text_of, block_pieces, text_spells}

abbrev Answered : Held → Written → List ℕ → Type 0
Answered h w rest =
    (text : List ℕ) × (block_text h.number (meaning w) ≡ text ++ 10 ∷ [])
    × (answer_of h ≡ block h.number (meaning w))
    × (taken_from h ≡ record h { bytes = 10 ∷ rest; place = h.place + length text; number = h.number + 1 })

pub written-answered : (h : Held) (w : Written) (rest : List ℕ) → h.number < 2 ^ 32 → IsBlock h.number h.second w → h.bytes ≡ block_text h.number (meaning w) ++ rest → Answered h w rest
written-answered h w rest n p e =
    let text = line_text_of h.number (meaning w) in
    let read = block-answered h (kept w) text (10 ∷ rest) n (kept_block h.number h.second w p) (text_spells h.number h.second w n p) (e ∙ block_pieces h.number (meaning w) rest) in
    (text, sym (append-nil (block_text h.number (meaning w))) ∙ block_pieces h.number (meaning w) [], read.0 ∙ ap (block h.number) (same_meaning w), read.1)
