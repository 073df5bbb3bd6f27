-- What the function over blocks finds is said in the words of the grammar of certificates.
use Rattle.std.proofs.Common.{◌≡◌, ℕ, ◌+◌, ◌^◌, ◌<◌, Bool, true, false, cond, ◌||◌, List, [], ◌∷◌, ◌++◌, length, refl, sym, ap, ◌∙◌, arith, subst}
use Rattle.std.specs.Prelude.{Option, Some, None}
use Rattle.st_form.specs.Condition.{Implication}
use Rattle.st_certificate.specs.Tree.{Tree}
use Rattle.farkas_check.specs.Problem.{Setting}
use Rattle.farkas_check.specs.Valid.{IsCertificate}
use Rattle.cert_text.specs.Answer.{Answer, block, need, no_more, malformed_at, limit_at}
use Rattle.cert_text.specs.Grammar.{Written, IsBlock, block_tokens, meaning}
use Rattle.cert_text.specs.Held.{Held, answer_of, taken_from}
use Rattle.cert_laws.specs.Laws.{SpelledIsRead, HeaderIsRead, ReadIsSpelled}
use Rattle.cert_laws.specs.Refused.{NeedIsExact, EndIsExact, LimitIsExact, MalformedIsExact}
use Rattle.cert_laws.specs.Spelled.{Spells, IsFront}
use Rattle.step_report.specs.declared.conditions.Reason.{Reason}
use Rattle.step_report.specs.declared.conditions.Reason.TheVariants.{Absent, Malformed, OverLimit, NotValid}
use Rattle.block_laws.specs.Blocks.{HasBlock, behind}
use Rattle.block_laws.specs.Checked.{Checked, all_valid, refused, reason_of, block_tested, behind_block, block_judged, checked_from}
use Rattle.block_laws.specs.Laws.{TestIsExact, BlocksAreExact}
use Rattle.block_laws.specs.Tests.{is_certificate}
use Rattle.status_meanings.specs.Blocks.{HaveBlocks, IsWhy, is_absent, is_malformed, is_over, is_not_valid, IsFirstWithout}

pub record BlockLaws : Type 0 where
  pub read : SpelledIsRead
  pub header : HeaderIsRead
  pub spelled : ReadIsSpelled
  pub test : TestIsExact
  pub need_is : NeedIsExact
  pub end_is : EndIsExact
  pub limit_is : LimitIsExact
  pub malformed_is : MalformedIsExact
  pub blocks : BlocksAreExact

opposite : (b : Bool) → b ≡ true → b ≡ false → ⊥
opposite b e f = let no : true ≡ false = sym e ∙ f in cc

tested_is : (k : Setting) (c : Implication) (h : Held) (a : Answer) → answer_of h ≡ a → block_tested k c h ≡ reason_of k c a
unfolding block_tested
tested_is k c h a is = ap (reason_of k c) is

behind_is : (h g : Held) → taken_from h ≡ g → behind_block h ≡ g
unfolding behind_block
behind_is h g is = is

reason_is : (r s : Reason) → ◌≡◌ {A = Option Reason} (Some r) (Some s) → r ≡ s
reason_is r s e = cc

module _ (law : BlockLaws) (k : Setting) where
  -- WHY
  not_valid : (c : Implication) (t : Tree) → is_certificate k c.given c.shown t ≡ false → IsCertificate k c.given c.shown t → ⊥
  not_valid c t e valid = opposite (is_certificate k c.given c.shown t) ((law.test k c.given c.shown t).1 valid) e

  invalid : (c : Implication) (t : Tree) → (IsCertificate k c.given c.shown t → ⊥) → (b : Bool) → is_certificate k c.given c.shown t ≡ b → b ≡ false
  invalid c t not true is = absurd (not ((law.test k c.given c.shown t).0 is))
  invalid c t not false is = refl

  why_tree : (c : Implication) (h : Held) (n : ℕ) (t : Tree) (reason : Reason) → answer_of h ≡ block n t → (b : Bool) → is_certificate k c.given c.shown t ≡ b → cond b None (Some NotValid) ≡ Some reason → IsWhy k c h reason
  why_tree c h n t reason is true test e = absurd cc
  why_tree c h n t reason is false test e = subst (IsWhy k c h) (reason_is NotValid reason e) (is_not_valid n t is (not_valid c t test))

  why_answer : (c : Implication) (h : Held) (reason : Reason) → h.number < 2 ^ 32 → h.finished ≡ true → (a : Answer) → answer_of h ≡ a → reason_of k c a ≡ Some reason → IsWhy k c h reason
  why_answer c h reason room whole (block n t) is e = why_tree c h n t reason is (is_certificate k c.given c.shown t) refl e
  why_answer c h reason room whole no_more is e = subst (IsWhy k c h) (reason_is Absent reason e) (is_absent ((law.end_is h room).0 is))
  why_answer c h reason room whole (malformed_at place) is e = subst (IsWhy k c h) (reason_is Malformed reason e) (is_malformed place ((law.malformed_is h place room).0 is))
  why_answer c h reason room whole (limit_at place) is e = subst (IsWhy k c h) (reason_is OverLimit reason e) (is_over place ((law.limit_is h place room).0 is))
  why_answer c h reason room whole need is e = absurd (opposite h.finished whole ((law.need_is h room).0 is).0)

  why_of : (c : Implication) (h : Held) (reason : Reason) → h.number < 2 ^ 32 → h.finished ≡ true → block_tested k c h ≡ Some reason → IsWhy k c h reason
  why_of c h reason room whole e = why_answer c h reason room whole (answer_of h) refl (sym (tested_is k c h (answer_of h) refl) ∙ e)

  of_why : (c : Implication) (h : Held) (reason : Reason) → h.number < 2 ^ 32 → IsWhy k c h reason → block_tested k c h ≡ Some reason
  of_why c h reason room (is_absent ended) = tested_is k c h no_more ((law.end_is h room).1 ended)
  of_why c h reason room (is_malformed place wrong) = tested_is k c h (malformed_at place) ((law.malformed_is h place room).1 wrong)
  of_why c h reason room (is_over place over) = tested_is k c h (limit_at place) ((law.limit_is h place room).1 over)
  of_why c h reason room (is_not_valid n t is not) =
      tested_is k c h (block n t) is ∙ ap (λ (b : Bool). cond b None (Some NotValid)) (invalid c t not (is_certificate k c.given c.shown t) refl)

  -- BLOCKS
  record Taken (c : Implication) (h : Held) (b : HasBlock k h c) : Type 0 where
    tested : block_tested k c h ≡ None
    next : behind_block h ≡ behind h b

  record Reads (h : Held) (header : Bool) (head text rest : List ℕ) (w : Written) : Type 0 where
    answer : answer_of h ≡ block h.number (meaning w)
    taken : taken_from h ≡ record h { bytes = rest; place = h.place + length head + length text; number = h.number + 1; second = header || h.second }

  reads : (h : Held) (header : Bool) (head text rest : List ℕ) (w : Written) → h.number < 2 ^ 32 → h.bytes ≡ head ++ (text ++ rest) → IsFront header h head
      → Spells text (block_tokens h.number w []) → IsBlock h.number (header || h.second) w → Reads h header head text rest w
  reads h false head text rest w room split front spells allowed =
      let bytes : h.bytes ≡ text ++ rest = split ∙ ap (λ l. l ++ (text ++ rest)) front in
      let r = law.read h w text rest room allowed spells bytes in
      let size : h.place + length text ≡ h.place + length head + length text = omega (arith, ap length front) in
      record { answer = r.0; taken = r.1 ∙ ap (λ n. record h { bytes = rest; place = n; number = h.number + 1 }) size }
  reads h true head text rest w room split front spells allowed =
      let r = law.header h w head text rest front.0 front.1 front.2 allowed spells split in
      record { answer = r.0; taken = r.1 }

  taken_is : (c : Implication) (h : Held) → h.number < 2 ^ 32 → (b : HasBlock k h c) → Taken c h b
  taken_is c h room b =
      let r = reads h b.header b.head b.text b.rest b.written room b.split b.front b.spells b.allowed in
      record {
        tested = tested_is k c h (block h.number (meaning b.written)) r.answer ∙ ap (λ (z : Bool). cond z None (Some NotValid)) ((law.test k c.given c.shown (meaning b.written)).1 b.valid);
        next = behind_is h (behind h b) r.taken;
      }

  record Block (c : Implication) (h : Held) : Type 0 where
    n : ℕ
    tree : Tree
    answer : answer_of h ≡ block n tree
    valid : IsCertificate k c.given c.shown tree

  by_test : (c : Implication) (h : Held) (n : ℕ) (t : Tree) → answer_of h ≡ block n t → (b : Bool) → is_certificate k c.given c.shown t ≡ b → cond b None (Some NotValid) ≡ None → Block c h
  by_test c h n t answer true is e = record { n = n; tree = t; answer = answer; valid = (law.test k c.given c.shown t).0 is }
  by_test c h n t answer false is e = absurd cc

  by_answer : (c : Implication) (h : Held) (a : Answer) → answer_of h ≡ a → reason_of k c a ≡ None → Block c h
  by_answer c h (block n t) is e = by_test c h n t is (is_certificate k c.given c.shown t) refl e
  by_answer c h need is e = absurd cc
  by_answer c h no_more is e = absurd cc
  by_answer c h (malformed_at place) is e = absurd cc
  by_answer c h (limit_at place) is e = absurd cc

  has_block : (c : Implication) (h : Held) → h.number < 2 ^ 32 → Block c h → (b : HasBlock k h c) × (behind_block h ≡ behind h b)
  has_block c h room b =
      let (header, w, head, text, rest, split, front, spells, allowed, number, tree, taken) = law.spelled h b.n b.tree room b.answer in (
        record {
          header = header;
          head = head;
          text = text;
          rest = rest;
          written = w;
          split = split;
          front = front;
          spells = spells;
          allowed = allowed;
          valid = subst (IsCertificate k c.given c.shown) tree b.valid;
        },
        behind_is h _ taken,
      )

  block_there : (c : Implication) (h : Held) → h.number < 2 ^ 32 → block_tested k c h ≡ None → (b : HasBlock k h c) × (behind_block h ≡ behind h b)
  block_there c h room e = has_block c h room (by_answer c h (answer_of h) refl (sym (tested_is k c h (answer_of h) refl) ∙ e))

  -- ALL CONDITIONS
  abbrev pub Judged : List Implication → Held → Checked → Type 0
  Judged cs h (all_valid rest) = HaveBlocks k cs h rest
  Judged cs h (refused n c reason) = IsFirstWithout k cs h n c reason

  judged_further : (c : Implication) (cs : List Implication) (h : Held) (b : HasBlock k h c) (r : Checked) → Judged cs (behind h b) r → Judged (c ∷ cs) h r
  judged_further c cs h b (all_valid rest) j = (b, j)
  judged_further c cs h b (refused n d reason) j = record {
    before = c ∷ j.before;
    further = j.further;
    are = ap (λ l. c ∷ l) j.are;
    number = (let e = j.number in omega (arith, e));
    held = j.held;
    blocks = (b, j.blocks);
    why = j.why;
  }

  judged_by : (n : ℕ) (c : Implication) (cs : List Implication) (h : Held) → h.number ≡ n → h.finished ≡ true → h.number < 2 ^ 32 → ((b : HasBlock k h c) → Judged cs (behind h b) (checked_from k (n + 1) cs (behind h b)))
      → (o : Option Reason) → block_tested k c h ≡ o → Judged (c ∷ cs) h (block_judged n c (checked_from k (n + 1) cs (behind_block h)) o)
  judged_by n c cs h same whole room again None is =
      let b = block_there c h room is in
      judged_further c cs h b.0 (checked_from k (n + 1) cs (behind_block h)) (subst (λ (g : Held). Judged cs (behind h b.0) (checked_from k (n + 1) cs g)) (sym b.1) (again b.0))
  judged_by n c cs h same whole room again (Some reason) is =
      record { before = []; further = cs; are = refl; number = (let e = same in omega (arith, e)); held = h; blocks = refl; why = why_of c h reason room whole is }

  pub judged : (n : ℕ) (cs : List Implication) (h : Held) → h.number ≡ n → h.finished ≡ true → h.number + length cs < 2 ^ 32 → Judged cs h (checked_from k n cs h)
  judged n [] h same whole room = refl
  judged n (c ∷ cs) h same whole room =
      judged_by n c cs h same whole (omega (arith, room)) (λ b. judged (n + 1) cs (behind h b) (omega (arith, same)) whole (omega (arith, room))) (block_tested k c h) refl

  pub valid_to : (n : ℕ) (cs : List Implication) (h g : Held) → h.number + length cs < 2 ^ 32 → HaveBlocks k cs h g → checked_from k n cs h ≡ all_valid g
  valid_to n [] h g room same = ap all_valid same
  valid_to n (c ∷ cs) h g room blocks =
      let t = taken_is c h (omega (arith, room)) blocks.0 in
      ap (block_judged n c (checked_from k (n + 1) cs (behind_block h))) t.tested ∙ ap (checked_from k (n + 1) cs) t.next ∙ valid_to (n + 1) cs (behind h blocks.0) g (omega (arith, room)) blocks.1

  pub refused_at : (n : ℕ) (before : List Implication) (c : Implication) (further : List Implication) (h g : Held) (reason : Reason) → h.number + length before < 2 ^ 32 → HaveBlocks k before h g → IsWhy k c g reason
      → checked_from k n (before ++ c ∷ further) h ≡ refused (n + length before) c reason
  refused_at n [] c further h g reason room same why =
      let here : block_tested k c h ≡ Some reason = of_why c h reason (omega (arith, room)) (subst (λ (z : Held). IsWhy k c z reason) (sym same) why) in
      let size : n ≡ n + length {A = Implication} [] = omega arith in
      ap (block_judged n c (checked_from k (n + 1) further (behind_block h))) here ∙ ap (λ m. refused m c reason) size
  refused_at n (d ∷ before) c further h g reason room blocks why =
      let t = taken_is d h (omega (arith, room)) blocks.0 in
      let size : n + 1 + length before ≡ n + length (d ∷ before) = omega arith in
      ap (block_judged n d (checked_from k (n + 1) (before ++ c ∷ further) (behind_block h))) t.tested ∙ ap (checked_from k (n + 1) (before ++ c ∷ further)) t.next
      ∙ refused_at (n + 1) before c further (behind h blocks.0) g reason (omega (arith, room)) blocks.1 why ∙ ap (λ m. refused m c reason) size
