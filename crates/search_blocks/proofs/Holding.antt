-- What is written of certificates is their blocks, one behind the other, each but the first behind a line feed.
use Rattle.std.proofs.Common.{◌≡◌, ℕ, ◌+◌, ◌-◌, ◌^◌, ◌<◌, Bool, true, false, ◌||◌, List, [], ◌∷◌, ◌++◌, length, codes, refl, sym, ap, ◌∙◌, subst, arith}
use Rattle.st_form.specs.Condition.{Implication}
use Rattle.st_certificate.specs.Tree.{Tree}
use Rattle.farkas_check.specs.Problem.{Setting}
use Rattle.farkas_check.specs.Valid.{IsCertificate}
use Rattle.cert_text.specs.Grammar.{Written, IsBlock, block_tokens, meaning}
use Rattle.cert_text.specs.Held.{Held}
use Rattle.cert_laws.specs.Spelled.{Spells, IsHeader, IsFront}
use Rattle.cert_laws.proofs.Writing.{kept, same_meaning, kept_block, line_text_of, block_pieces, text_spells}
use Rattle.step_report.specs.Goals.{blocks_text, certificates_text}
use Rattle.block_laws.specs.Checked.{whole_text}
use Rattle.block_laws.specs.Blocks.{HasBlock, behind, HasBlocks}
use Rattle.search_blocks.specs.Writable.{IsWritable, Discharge}

-- the header that is written
abbrev header : List ℕ
header = codes "version 2;"

is_header : IsHeader header
is_header = ([], 32 ∷ [], [], refl, tt, (refl, tt), tt)

-- a line feed in front of a block is a blank
behind_line : (n : ℕ) (w : Written) (text : List ℕ) → Spells text (block_tokens n w []) → Spells (10 ∷ text) (block_tokens n w [])
behind_line n w text h = (10 ∷ h.0, h.1, h.2, ap (λ xs. 10 ∷ xs) h.3, (refl, h.4), h.5, h.6, h.7)

-- where the last line feed stands in front of each block: behind a header, or behind a block
record IsAt (h : Held) (heads : Bool) (head : List ℕ) : Type 0 where
  front : IsFront heads h head
  second : (heads || h.second) ≡ true

text_pieces : (n : ℕ) (t : Tree) (ts : List Tree) (head : List ℕ) → head ++ (10 ∷ blocks_text n (t ∷ ts)) ≡ head ++ ((10 ∷ line_text_of n t) ++ (10 ∷ blocks_text (n + 1) ts))
text_pieces n t ts head = ap (λ xs. head ++ (10 ∷ xs)) (block_pieces n t (blocks_text (n + 1) ts))

module _ (k : Setting) where
  first_block : (c : Implication) (t : Tree) (ts : List Tree) (h : Held) (heads : Bool) (head : List ℕ) → IsAt h heads head → h.number < 2 ^ 32 → h.bytes ≡ head ++ (10 ∷ blocks_text h.number (t ∷ ts))
      → IsCertificate k c.given c.shown t → IsWritable t → HasBlock k h c
  first_block c t ts h heads head at room bytes valid w =
      let block = w.block h.number in
      let means : meaning (kept w.written) ≡ t = same_meaning w.written ∙ w.means in
      record {
        header = heads;
        head = head;
        text = 10 ∷ line_text_of h.number (meaning w.written);
        rest = 10 ∷ blocks_text (h.number + 1) ts;
        written = kept w.written;
        split = bytes ∙ text_pieces h.number t ts head ∙ ap (λ u. head ++ ((10 ∷ line_text_of h.number u) ++ (10 ∷ blocks_text (h.number + 1) ts))) (sym w.means);
        front = at.front;
        spells = behind_line h.number (kept w.written) (line_text_of h.number (meaning w.written)) (text_spells h.number true w.written room block);
        allowed = subst (λ (b : Bool). IsBlock h.number b (kept w.written)) (sym at.second) (kept_block h.number true w.written block);
        valid = subst (IsCertificate k c.given c.shown) (sym means) valid;
      }

  from : (cs : List Implication) (ts : List Tree) (h : Held) (heads : Bool) (head : List ℕ) → IsAt h heads head → h.number + length cs < 2 ^ 32 → h.bytes ≡ head ++ (10 ∷ blocks_text h.number ts) → Discharge k cs ts → HasBlocks k cs h
  unfolding first_block
  from [] ts h heads head at room bytes d =
      (heads, head, 10 ∷ [], bytes ∙ ap (λ us. head ++ (10 ∷ blocks_text h.number us)) d, at.front, (refl, tt))
  from (c ∷ cs) [] h heads head at room bytes d = absurd d
  from (c ∷ cs) (t ∷ ts) h heads head at room bytes d =
      let b = first_block c t ts h heads head at (omega (arith, room)) bytes d.0 d.1 in
      (b, from cs ts (behind h b) false [] (record { front = refl; second = at.second }) (omega (arith, room)) refl d.2)

pub holds : (k : Setting) (cs : List Implication) (ts : List Tree) → length cs < 2 ^ 32 - 1 → Discharge k cs ts → HasBlocks k cs (whole_text (certificates_text ts))
holds k cs ts room d = from k cs ts (whole_text (certificates_text ts)) true header (record { front = (refl, refl, is_header); second = refl }) (omega (arith, room)) refl d
