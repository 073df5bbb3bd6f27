-- The blocks that the function takes are those of the grammar.
use Rattle.std.proofs.Common.{◌≡◌, ℕ, ◌+◌, ◌^◌, ◌<◌, Bool, true, false, cond, ◌||◌, List, [], ◌∷◌, ◌++◌, length, refl, sym, ap, ◌∙◌, arith, subst}
use Rattle.std.specs.Prelude.{Option, Some, None, ◌↔◌}
use Rattle.st_form.specs.Condition.{Implication}
use Rattle.st_certificate.specs.Tree.{Tree}
use Rattle.farkas_check.specs.Problem.{Setting}
use Rattle.farkas_check.specs.Valid.{IsCertificate}
use Rattle.cert_text.specs.Answer.{Answer, block, need, no_more, malformed_at, limit_at}
use Rattle.cert_text.specs.Blank.{first_place, past_blanks}
use Rattle.cert_text.specs.Grammar.{Written, IsBlock, block_tokens, meaning}
use Rattle.cert_text.specs.Held.{Held, answer_of, taken_from}
use Rattle.cert_laws.specs.Spelled.{Spells, IsFront}
use Rattle.cert_laws.proofs.BlockRead.{block-answered}
use Rattle.cert_laws.proofs.HeaderRead.{header-answered}
use Rattle.cert_laws.proofs.ReadBack.{read-spelled}
use Rattle.step_report.specs.declared.conditions.Reason.{Reason}
use Rattle.step_report.specs.declared.conditions.Reason.TheVariants.{NotValid}
use Rattle.block_laws.specs.Tests.{is_certificate}
use Rattle.block_laws.specs.Checked.{reason_of, block_tested, behind_block, block_judged, all_valid, checked_from}
use Rattle.block_laws.specs.Blocks.{HasBlock, behind, HasBlocks}
use Rattle.block_laws.specs.Laws.{AllDischarged}
use Rattle.block_laws.proofs.Ends.{blank_ends, ends_blank}
use Rattle.block_laws.proofs.Tests.{certificate_is, certificate_of}

-- the block that what is held begins with is answered
record Reads (h : Held) (header : Bool) (head text rest : List ℕ) (w : Written) : Type 0 where
  answer : answer_of h ≡ block h.number (meaning w)
  taken : taken_from h ≡ record h { bytes = rest; place = h.place + length head + length text; number = h.number + 1; second = header || h.second }

reads : (h : Held) (header : Bool) (head text rest : List ℕ) (w : Written) → h.number < 2 ^ 32 → h.bytes ≡ head ++ (text ++ rest) → IsFront header h head
    → Spells text (block_tokens h.number w []) → IsBlock h.number (header || h.second) w → Reads h header head text rest w
reads h false head text rest w room split front spells allowed =
    let bytes : h.bytes ≡ text ++ rest = split ∙ ap (λ l. l ++ (text ++ rest)) front in
    let r = block-answered h w text rest room allowed spells bytes in
    let size : h.place + length text ≡ h.place + length head + length text = omega (arith, ap length front) in
    record { answer = r.0; taken = r.1 ∙ ap (λ n. record h { bytes = rest; place = n; number = h.number + 1 }) size }
reads h true head text rest w room split front spells allowed =
    let r = header-answered h w head text rest front.0 front.1 front.2 allowed spells split in
    record { answer = r.0; taken = r.1 }

-- a valid block discharges its condition
discharges : (k : Setting) (c : Implication) (h : Held) (n : ℕ) (t : Tree) → answer_of h ≡ block n t → IsCertificate k c.given c.shown t → block_tested k c h ≡ None
unfolding block_tested
discharges k c h n t answer valid = ap (reason_of k c) answer ∙ ap (λ b. cond b None (Some NotValid)) (certificate_of k c.given c.shown t valid)

behind_is : (h g : Held) → taken_from h ≡ g → behind_block h ≡ g
unfolding behind_block
behind_is h g is = is

module _ (k : Setting) where
  from_blocks : (n : ℕ) (cs : List Implication) (h : Held) → h.number ≡ n → h.number + length cs < 2 ^ 32 → HasBlocks k cs h → (rest : Held) × (checked_from k n cs h ≡ all_valid rest) × (first_place (past_blanks rest) ≡ None)
  from_blocks n [] h same room blank = (h, refl, blank_ends h blank)
  from_blocks n (c ∷ cs) h same room blocks =
      let b = blocks.0 in
      let r = reads h b.header b.head b.text b.rest b.written (omega arith) b.split b.front b.spells b.allowed in
      let more = from_blocks (n + 1) cs (behind h b) (omega (arith, same)) (omega arith) blocks.1 in
      let here : block_tested k c h ≡ None = discharges k c h h.number (meaning b.written) r.answer b.valid in
      let next : behind_block h ≡ behind h b = behind_is h (behind h b) r.taken in (
        more.0,
        ap (block_judged n c (checked_from k (n + 1) cs (behind_block h))) here ∙ ap (checked_from k (n + 1) cs) next ∙ more.1,
        more.2,
      )

  -- the other way round
  record Block (c : Implication) (h : Held) : Type 0 where
    n : ℕ
    tree : Tree
    answer : answer_of h ≡ block n tree
    valid : IsCertificate k c.given c.shown tree

  by_test : (c : Implication) (h : Held) (n : ℕ) (t : Tree) → answer_of h ≡ block n t → (b : Bool) → is_certificate k c.given c.shown t ≡ b → cond b None (Some NotValid) ≡ None → Block c h
  by_test c h n t answer true is e = record { n = n; tree = t; answer = answer; valid = certificate_is k c.given c.shown t is }
  by_test c h n t answer false is e = absurd cc

  by_answer : (c : Implication) (h : Held) (a : Answer) → answer_of h ≡ a → reason_of k c a ≡ None → Block c h
  by_answer c h (block n t) is e = by_test c h n t is (is_certificate k c.given c.shown t) refl e
  by_answer c h need is e = absurd cc
  by_answer c h no_more is e = absurd cc
  by_answer c h (malformed_at place) is e = absurd cc
  by_answer c h (limit_at place) is e = absurd cc

  block_there : (c : Implication) (h : Held) → block_tested k c h ≡ None → Block c h
  unfolding block_tested
  block_there c h e = by_answer c h (answer_of h) refl e

  -- a condition that isn't refused has its block, and what is behind it is checked
  record Goes (n : ℕ) (c : Implication) (cs : List Implication) (h rest : Held) : Type 0 where
    tested : block_tested k c h ≡ None
    more : checked_from k (n + 1) cs (behind_block h) ≡ all_valid rest

  goes_on : (n : ℕ) (c : Implication) (cs : List Implication) (h rest : Held) (o : Option Reason) → block_tested k c h ≡ o → block_judged n c (checked_from k (n + 1) cs (behind_block h)) o ≡ all_valid rest → Goes n c cs h rest
  goes_on n c cs h rest None is e = record { tested = is; more = e }
  goes_on n c cs h rest (Some reason) is e = absurd cc

  has_block : (c : Implication) (h : Held) → h.number < 2 ^ 32 → Block c h → (b : HasBlock k h c) × (behind_block h ≡ behind h b)
  has_block c h room b =
      let (header, w, head, text, rest, split, front, spells, allowed, number, tree, taken) = read-spelled h b.n b.tree room b.answer in (
        record {
          header = header;
          head = head;
          text = text;
          rest = rest;
          written = w;
          split = split;
          front = front;
          spells = spells;
          allowed = allowed;
          valid = subst (IsCertificate k c.given c.shown) tree b.valid;
        },
        behind_is h _ taken,
      )

  to_blocks : (n : ℕ) (cs : List Implication) (h rest : Held) → h.number ≡ n → h.finished ≡ true → h.number + length cs < 2 ^ 32 → checked_from k n cs h ≡ all_valid rest → first_place (past_blanks rest) ≡ None → HasBlocks k cs h
  to_blocks n [] h rest same finished room valid blank =
      let is : h ≡ rest = cc in ends_blank h (omega arith) finished (subst (λ (g : Held). first_place (past_blanks g) ≡ None) (sym is) blank)
  to_blocks n (c ∷ cs) h rest same finished room valid blank =
      let g = goes_on n c cs h rest (block_tested k c h) refl valid in
      let b = has_block c h (omega arith) (block_there c h g.tested) in
      (b.0, to_blocks (n + 1) cs (behind h b.0) rest (omega (arith, same)) finished (omega arith) (ap (checked_from k (n + 1) cs) (sym b.1) ∙ g.more) blank)

pub exact : (k : Setting) (cs : List Implication) (h : Held) → h.finished ≡ true → h.number + length cs < 2 ^ 32 → AllDischarged k cs h ↔ HasBlocks k cs h
exact k cs h finished room = (
  λ all. to_blocks k h.number cs h all.rest refl finished room all.valid all.blank,
  λ blocks. (let r = from_blocks k h.number cs h refl room blocks in record { rest = r.0; valid = r.1; blank = r.2 }),
)
