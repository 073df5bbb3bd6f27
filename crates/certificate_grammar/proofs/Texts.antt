-- Whole texts: from the grammar to the blocks that are held, and back.
use Rattle.std.proofs.Common.{◌≡◌, ℕ, ◌+◌, ◌≤◌, Bool, true, false, ◌||◌, nat_lt, List, [], ◌∷◌, ◌++◌, refl, sym, ap, ◌∙◌, subst, arith, append_assoc}
use Rattle.std.proofs.lemmas.Bool.Decides.{nat_tests}
use Rattle.st_form.specs.Condition.{Implication}
use Rattle.st_certificate.specs.Tree.{Tree}
use Rattle.farkas_check.specs.Problem.{Setting}
use Rattle.farkas_check.specs.Valid.{IsCertificate}
use Rattle.certificate_validity.proofs.Whole.{certifies_is_valid}
use Rattle.cert_text.specs.declared.scan.Token.{Token}
use Rattle.cert_text.specs.declared.scan.Token.TheVariants.{Word, Number, Sign}
use Rattle.cert_text.specs.declared.scan.Word.TheVariants.{Cert}
use Rattle.cert_text.specs.Letters.{is_blank}
use Rattle.cert_text.specs.Grammar.{Written, meaning, block_tokens, IsProper, IsBlock}
use Rattle.cert_text.specs.Held.{Held}
use Rattle.cert_laws.specs.Spelled.{AreAll, Spells, IsFront}
use Rattle.block_laws.specs.Blocks.{HasBlock, behind, HasBlocks}
use Rattle.block_laws.specs.Checked.{whole_text}
use Rattle.certificate_grammar.specs.Grammar.{IsTree, AreBlocks, no_block, a_block, AreCertificates, first_version, second_version}
use Rattle.certificate_grammar.specs.Laws.{CertificatesAreBlocks}
use Rattle.certificate_grammar.proofs.Written.{tree_written}
use Rattle.certificate_grammar.proofs.Spelled.{tree_spelled}
use Rattle.certificate_grammar.proofs.Bytes.{parted, joined}

-- ONE BLOCK
pub record WroteBlock (second : Bool) (number : ℕ) (ts : List Token) (t : Tree) : Type 0 where
  pub written : Written
  pub tokens : block_tokens number written [] ≡ Word Cert ∷ Number number ∷ (ts ++ Sign 59 ∷ [])
  pub means : meaning written ≡ t
  pub allowed : IsBlock number second written

block_written : (second : Bool) (number count : ℕ) (ts : List Token) (t : Tree) → IsTree second 400 count ts t → count ≤ 100000 → WroteBlock second number ts t
block_written second number count ts t h few =
    let r = tree_written second 400 count ts t h in
    let counts = r.counts in
    record {
      written = r.tree;
      tokens = ap (λ j. Word Cert ∷ Number number ∷ j) (r.spelled (Sign 59 ∷ []));
      means = r.means;
      allowed = record { proper = r.proper; within = r.within 0 0 (omega (arith, few, counts)) (omega arith) };
    }

-- FROM THE GRAMMAR
behind_bytes : {k : Setting} {c : Implication} (h : Held) (b : HasBlock k h c) → (behind h b).bytes ≡ b.rest
behind_bytes h b = refl

module _ (k : Setting) (second : Bool) where
  -- blocks from a number on, behind what stands in front of the first
  from_blocks : (n : ℕ) (ts : List Token) (cs : List Implication) → AreBlocks k second n ts cs → (h : Held) (header : Bool) (head text blanks : List ℕ) → h.number ≡ n → h.bytes ≡ head ++ (text ++ blanks)
      → IsFront header h head → (header || h.second) ≡ second → Spells text ts → AreAll is_blank blanks → HasBlocks k cs h
  from_blocks n ts cs no_block h header head text blanks number split front is_second spells blank =
      (header, head, blanks, split ∙ ap (λ l. head ++ (l ++ blanks)) spells, front, blank)
  from_blocks n ts cs (a_block {n = count} {a} {b} {t} {c} {cs = more} tree few valid rest) h header head text blanks number split front is_second spells blank =
      let w = block_written second n count a t tree few in
      let p = parted (Word Cert ∷ Number n ∷ (a ++ Sign 59 ∷ [])) b text (subst (Spells text) (ap (λ j. Word Cert ∷ Number n ∷ j) (sym (append_assoc a (Sign 59 ∷ []) b))) spells) in
      let here : HasBlock k h c = record {
        header = header;
        head = head;
        text = p.front;
        rest = p.behind ++ blanks;
        written = w.written;
        split = split ∙ ap (λ l. head ++ (l ++ blanks)) p.split ∙ ap (λ l. head ++ l) (append_assoc p.front p.behind blanks);
        front = front;
        spells = subst (Spells p.front) (sym (ap (λ m. block_tokens m w.written []) number ∙ w.tokens)) p.first;
        allowed = record { proper = subst (λ s. IsProper s w.written) (sym is_second) w.allowed.proper; within = w.allowed.within };
        valid = subst (IsCertificate k c.given c.shown) (sym w.means) ((certifies_is_valid k c.given c.shown t).0 valid);
      } in
      (here, from_blocks (n + 1) b more rest (behind h here) false [] p.behind blanks (ap (λ m. m + 1) number) (behind_bytes h here) refl is_second p.second blank)

from_certificates : (k : Setting) (cs : List Implication) (text : List ℕ) → AreCertificates k cs text → HasBlocks k cs (whole_text text)
from_certificates k cs text (first_version body blanks {ts} spells blocks blank) =
    from_blocks k false 1 ts cs blocks (whole_text (body ++ blanks)) false [] body blanks refl refl refl refl spells blank
from_certificates k cs text (second_version head body blanks {ts} header spells blocks blank) =
    from_blocks k true 1 ts cs blocks (whole_text (head ++ (body ++ blanks))) true head body blanks refl refl (refl, refl, header) refl spells blank

-- BACK
-- blocks that are held, as the grammar has them
record Found (k : Setting) (cs : List Implication) (h : Held) : Type 0 where
  header : Bool
  head : List ℕ
  text : List ℕ
  blanks : List ℕ
  tokens : List Token
  split : h.bytes ≡ head ++ (text ++ blanks)
  front : IsFront header h head
  spells : Spells text tokens
  blocks : AreBlocks k (header || h.second) h.number tokens cs
  blank : AreAll is_blank blanks

-- behind a block stands no header
record NoHeader (header : Bool) (head : List ℕ) : Type 0 where
  is_false : header ≡ false
  empty : head ≡ []

no_header : (header : Bool) (h : Held) (head : List ℕ) → 2 ≤ h.number → IsFront header h head → NoHeader header head
no_header false h head l f = record { is_false = refl; empty = f }
no_header true h head l f = absurd (late h.number l f.0) where
  late : (n : ℕ) → 2 ≤ n → nat_lt n 2 ≡ true → ⊥
  late n m e = grind (arith, nat_tests)

find : (k : Setting) (cs : List Implication) (h : Held) → 1 ≤ h.number → HasBlocks k cs h → Found k cs h
find k [] h l (header, head, blanks, split, front, blank) =
    record { header = header; head = head; text = []; blanks = blanks; tokens = []; split = split; front = front; spells = refl; blocks = no_block; blank = blank }
find k (c ∷ cs) h l (b, bs) =
    let r = find k cs (behind h b) (omega (arith, l)) bs in
    let none = no_header r.header (behind h b) r.head (omega (arith, l)) r.front in
    let second = b.header || h.second in
    let t = tree_spelled second 400 b.written 0 0 (omega arith) b.allowed.proper b.allowed.within in
    let few = t.few in
    let first : Spells b.text (Word Cert ∷ Number h.number ∷ (t.ts ++ Sign 59 ∷ [])) = subst (Spells b.text) (ap (λ j. Word Cert ∷ Number h.number ∷ j) (t.spelled (Sign 59 ∷ []))) b.spells in
    record {
      header = b.header;
      head = b.head;
      text = b.text ++ r.text;
      blanks = r.blanks;
      tokens = Word Cert ∷ Number h.number ∷ (t.ts ++ Sign 59 ∷ r.tokens);
      split = b.split ∙ ap (λ l. b.head ++ (b.text ++ l)) (r.split ∙ ap (λ l. l ++ (r.text ++ r.blanks)) none.empty) ∙ ap (λ l. b.head ++ l) (sym (append_assoc b.text r.text r.blanks));
      front = b.front;
      spells = joined (Word Cert ∷ Number h.number ∷ t.ts) r.tokens b.text r.text first r.spells;
      blocks = a_block t.is (omega (arith, few)) ((certifies_is_valid k c.given c.shown _).1 b.valid) (subst (λ s. AreBlocks k (s || second) (h.number + 1) r.tokens cs) none.is_false r.blocks);
      blank = r.blank;
    }

to_certificates : (k : Setting) (cs : List Implication) (text : List ℕ) → HasBlocks k cs (whole_text text) → AreCertificates k cs text
to_certificates k cs text h = let f = find k cs (whole_text text) (omega arith) h in by f.header f.head f.text f.blanks f.tokens f.split f.front f.spells f.blocks f.blank where
  by : (header : Bool) (head body blanks : List ℕ) (ts : List Token) → text ≡ head ++ (body ++ blanks) → IsFront header (whole_text text) head → Spells body ts → AreBlocks k (header || false) 1 ts cs → AreAll is_blank blanks → AreCertificates k cs text
  by false head body blanks ts split front spells blocks blank =
      subst (AreCertificates k cs) (sym (split ∙ ap (λ l. l ++ (body ++ blanks)) front)) (first_version body blanks spells blocks blank)
  by true head body blanks ts split front spells blocks blank =
      subst (AreCertificates k cs) (sym split) (second_version head body blanks front.2 spells blocks blank)

pub certificates_are_blocks : CertificatesAreBlocks
certificates_are_blocks k cs text = (from_certificates k cs text, to_certificates k cs text)
