-- A line that the search would write, with the header or the end of the line before in front of it, is read as the certificate that it
-- was written of. So the condition is discharged, and what is left is what is left where the line's bytes are taken unread.
use Rattle.std.proofs.Common.{◌≡◌, ◌∙◌, ℕ, zero, suc, ◌+◌, ◌-◌, ◌<◌, ◌≤◌, ◌^◌, Bool, true, false, cond, List, [], ◌∷◌, ◌++◌, length, drop, get_or, refl, sym, ap, subst, arith, codes, append_assoc, append-nil, length-append, length-drop, add-one}
use Rattle.std.specs.Prelude.{Some, None, nat_lt}
use Rattle.std.proofs.lemmas.List.{drop_at, drop-drop}
use Rattle.st_form.specs.Condition.{Implication}
use Rattle.st_form.specs.Shared.{plain_condition, given_of, shown_of}
use Rattle.st_form.specs.declared.conditions.Condition.{Condition}
use Rattle.st_certificate.specs.Tree.{Tree}
use Rattle.farkas_check.specs.Problem.{Setting}
use Rattle.farkas_check.specs.Valid.{IsCertificate}
use Rattle.cert_text.specs.declared.scan.Word.TheVariants as words
use Rattle.cert_text.specs.declared.scan.Token.{Token}
use Rattle.cert_text.specs.declared.scan.Token.TheVariants as tokens
use Rattle.cert_text.specs.Answer.{block}
use Rattle.cert_text.specs.Blank.{front_len, header_len, past, may_begin, past_blanks}
use Rattle.cert_text.specs.Grammar.{Written, IsBlock, block_tokens, tree_tokens, meaning}
use Rattle.cert_text.specs.Held.{Held, answer_of, taken_from}
use Rattle.cert_text.specs.Spelling.{block_text}
use Rattle.cert_laws.specs.Spelled.{Spells, IsHeader}
use Rattle.cert_laws.specs.Laws.{closed, SpelledIsRead, HeaderIsRead}
use Rattle.cert_laws.proofs.Writing.{kept, same_meaning, kept_block, line_text_of, block_pieces, text_spells}
use Rattle.search_blocks.specs.Writable.{IsWritable}
use Rattle.step_report.specs.declared.conditions.Reason.TheVariants.{NotValid}
use Rattle.block_laws.specs.Checked.{reason_of, block_tested, behind_block, block_judged, checked_from}
use Rattle.block_laws.specs.Plain.{plains}
use Rattle.block_laws.proofs.Tests.{certificate_of}
use Rattle.certificate_batches.specs.Following.{lead, is_behind, line_of, passed, IsProof, IsExpected, IsPassed}
use Rattle.certificate_batches.proofs.Blanks.{more_than_none}

-- ---- a line without its end
abbrev body : ℕ → Tree → List ℕ
body place t = lead place ++ line_text_of (place + 1) t

-- how long it is
abbrev size : ℕ → Tree → ℕ
size place t = length (body place t)

line_body : (place : ℕ) (t : Tree) → line_of place t ≡ body place t ++ 10 ∷ []
line_body place t =
    ap (λ (xs : List ℕ). lead place ++ xs) (sym (append-nil (block_text (place + 1) t)) ∙ block_pieces (place + 1) t [])
    ∙ sym (append_assoc (lead place) (line_text_of (place + 1) t) (10 ∷ []))

later_lead : (place : ℕ) → lead (suc place) ≡ codes "\n"
later_lead place = ap (λ (c : Bool). cond c (codes "version 2;\n") (codes "\n")) (more_than_none place)

later_behind : (place : ℕ) → is_behind (suc place) ≡ true
later_behind place = ap (λ (c : Bool). cond c false true) (more_than_none place)

-- ---- how it is read
abbrev ReadsTo : Held → Tree → ℕ → List ℕ → Type 0
ReadsTo h t size rest =
    (answer_of h ≡ block h.number t) × (taken_from h ≡ record h { bytes = 10 ∷ rest; place = h.place + size; number = h.number + 1; second = true })

-- a line's end in front is blank
behind_end : (t : Token) (bs : List ℕ) (k : List Token) → Spells bs (t ∷ k) → Spells (10 ∷ bs) (t ∷ k)
behind_end t bs k h = (10 ∷ h.0, h.1, h.2, ap (λ (xs : List ℕ). 10 ∷ xs) h.3, (refl, h.4), h.5, h.6, h.7)

line_spells : (n : ℕ) (w : Written) → n < 2 ^ 32 → IsBlock n true w → Spells (10 ∷ line_text_of n (meaning w)) (block_tokens n (kept w) [])
line_spells n w few allowed =
    behind_end (tokens.Word words.Cert) (line_text_of n (meaning w)) (tokens.Number n ∷ tree_tokens (kept w) (tokens.Sign 59 ∷ [])) (text_spells n true w few allowed)

module _ (spelled : SpelledIsRead) (header : HeaderIsRead) where
  -- behind the end of the line before
  later_read : (h : Held) (w : Written) (rest : List ℕ) → h.number < 2 ^ 32 → h.second ≡ true → IsBlock h.number true w → h.bytes ≡ (10 ∷ line_text_of h.number (meaning w)) ++ 10 ∷ rest
      → ReadsTo h (meaning w) (length (10 ∷ line_text_of h.number (meaning w))) rest
  later_read h w rest few second allowed is =
      let line = 10 ∷ line_text_of h.number (meaning w) in
      let block_allowed : IsBlock h.number h.second (kept w) = subst (λ (s : Bool). IsBlock h.number s (kept w)) (sym second) (kept_block h.number true w allowed) in
      let read = spelled h (kept w) line (10 ∷ rest) few block_allowed (line_spells h.number w few allowed) is in (
        read.0 ∙ ap (block h.number) (same_meaning w),
        read.1 ∙ ap (λ (s : Bool). record h { bytes = 10 ∷ rest; place = h.place + length line; number = h.number + 1; second = s }) second,
      )

  -- behind the header
  is_header : IsHeader (codes "version 2;")
  is_header = ([], 32 ∷ [], [], refl, tt, (refl, tt), tt)

  first_read : (h : Held) (w : Written) (rest : List ℕ) → h.number ≡ 1 → h.second ≡ false → IsBlock h.number true w → h.bytes ≡ (codes "version 2;\n" ++ line_text_of h.number (meaning w)) ++ 10 ∷ rest
      → ReadsTo h (meaning w) (length (codes "version 2;\n" ++ line_text_of h.number (meaning w))) rest
  first_read h w rest number second allowed is =
      let text = line_text_of h.number (meaning w) in
      let line = 10 ∷ text in
      let head = codes "version 2;" in
      let few : h.number < 2 ^ 32 = omega (arith, number) in
      let first : nat_lt h.number 2 ≡ true = ap (λ (n : ℕ). nat_lt n 2) number in
      let bytes : h.bytes ≡ head ++ (line ++ 10 ∷ rest) = is in
      let read = header h (kept w) head line (10 ∷ rest) first second is_header (kept_block h.number true w allowed) (line_spells h.number w few allowed) bytes in
      let one : length head ≡ 10 = refl in
      let both : length (codes "version 2;\n") ≡ 11 = refl in
      let size : h.place + length head + length line ≡ h.place + length (codes "version 2;\n" ++ text) = omega (arith, one, both, length-append (codes "version 2;\n") text) in (
        read.0 ∙ ap (block h.number) (same_meaning w),
        read.1 ∙ ap (λ (p : ℕ). record h { bytes = 10 ∷ rest; place = p; number = h.number + 1; second = true }) size,
      )

  -- either
  line_read : (place : ℕ) (h : Held) (w : Written) (rest : List ℕ) → place < 20000 → h.number ≡ place + 1 → h.second ≡ is_behind place → IsBlock h.number true w → h.bytes ≡ body place (meaning w) ++ 10 ∷ rest
      → ReadsTo h (meaning w) (length (body place (meaning w))) rest
  line_read zero h w rest few number second allowed is =
      let same : codes "version 2;\n" ++ line_text_of h.number (meaning w) ≡ body zero (meaning w) = ap (λ (n : ℕ). codes "version 2;\n" ++ line_text_of n (meaning w)) number in
      subst (λ (xs : List ℕ). ReadsTo h (meaning w) (length xs) rest) same
      (first_read h w rest number second allowed (is ∙ ap (λ (xs : List ℕ). xs ++ 10 ∷ rest) (sym same)))
  line_read (suc place) h w rest few number second allowed is =
      let same : 10 ∷ line_text_of h.number (meaning w) ≡ body (suc place) (meaning w) =
      ap (λ (n : ℕ). 10 ∷ line_text_of n (meaning w)) number ∙ ap (λ (xs : List ℕ). xs ++ line_text_of (suc place + 1) (meaning w)) (sym (later_lead place)) in
      subst (λ (xs : List ℕ). ReadsTo h (meaning w) (length xs) rest) same
      (later_read h w rest (omega (arith, number, few)) (second ∙ later_behind place) allowed (is ∙ ap (λ (xs : List ℕ). xs ++ 10 ∷ rest) (sym same)))

  -- the same of a certificate that can be written
  written_read : (place : ℕ) (h : Held) (t : Tree) (rest : List ℕ) → place < 20000 → h.number ≡ place + 1 → h.second ≡ is_behind place → IsWritable t → h.bytes ≡ body place t ++ 10 ∷ rest
      → ReadsTo h t (length (body place t)) rest
  written_read place h t rest few number second writable is =
      let w = writable.written in
      subst (λ (x : Tree). ReadsTo h x (length (body place x)) rest) writable.means
      (line_read place h w rest few number second (writable.block h.number) (is ∙ ap (λ (x : Tree). body place x ++ 10 ∷ rest) (sym writable.means)))

-- ---- what comes of it
module _ (k : Setting) where
  tested_none : (c : Implication) (h : Held) (n : ℕ) (t : Tree) → answer_of h ≡ block n t → IsCertificate k c.given c.shown t → block_tested k c h ≡ None
  unfolding block_tested
  tested_none c h n t is valid = ap (reason_of k c) is ∙ ap (λ (x : Bool). cond x None (Some NotValid)) (certificate_of k c.given c.shown t valid)

  -- the next condition is discharged
  next_discharged : (cs : List Condition) (place n m : ℕ) (h : Held) (t : Tree) → place < length cs → ((any : Condition) → IsCertificate k (given_of (get_or cs place any)) (shown_of (get_or cs place any)) t)
      → answer_of h ≡ block m t → checked_from k (n + 1) (plains (drop (suc place) cs)) (taken_from h) ≡ checked_from k n (plains (drop place cs)) h
  unfolding behind_block
  next_discharged [] place n m h t below valid is = absurd (omega (arith, below))
  next_discharged (c ∷ cs) zero n m h t below valid is =
      sym (ap (block_judged n (plain_condition c) (checked_from k (n + 1) (plains cs) (behind_block h))) (tested_none (plain_condition c) h m t is (valid c)))
  next_discharged (c ∷ cs) (suc place) n m h t below valid is = next_discharged cs place n m h t (omega (arith, below)) valid is

  module _ (spelled : SpelledIsRead) (header : HeaderIsRead) (cs : List Condition) (place : ℕ) (below : place < length cs) (few : place < 20000) (h : Held) (number : h.number ≡ place + 1) (second : h.second ≡ is_behind place)
      (t : Tree) (proof : IsProof k cs place t) (more : List ℕ) (is : h.bytes ≡ line_of place t ++ more) where
    sized : length (line_of place t) ≡ size place t + 1
    sized = ap length (line_body place t) ∙ length-append (body place t) (10 ∷ [])

    bytes : h.bytes ≡ body place t ++ 10 ∷ more
    bytes = is ∙ ap (λ (xs : List ℕ). xs ++ more) (line_body place t) ∙ append_assoc (body place t) (10 ∷ []) more

    left : drop (size place t) h.bytes ≡ 10 ∷ more
    left = ap (drop (length (body place t))) bytes ∙ drop_at (body place t) (10 ∷ more) (length (body place t)) refl

    -- what is taken of the text, wherever it ends
    whole : (rest : List ℕ) → (answer_of (closed h rest) ≡ block h.number t) × (taken_from (closed h rest) ≡ closed (passed h (size place t)) rest)
    whole rest =
        let g = closed h rest in
        let all : g.bytes ≡ body place t ++ 10 ∷ (more ++ rest) = ap (λ (xs : List ℕ). xs ++ rest) bytes ∙ append_assoc (body place t) (10 ∷ more) rest in
        let read = written_read spelled header place g t (more ++ rest) few number second proof.writable all in
        (read.0, read.1 ∙ ap (λ (xs : List ℕ). closed (record (passed h (size place t)) { bytes = xs }) rest) (sym left))

    is_passed : IsPassed k cs place h (passed h (size place t))
    is_passed = record {
      number = refl;
      finished = refl;
      reached = omega (arith, ap length bytes, length-append (body place t) (10 ∷ more), length-drop (length (body place t)) h.bytes);
      discharged = λ n rest.
          (let one : place + 1 ≡ suc place = add-one place in
          ap (λ (m : ℕ). checked_from k (n + 1) (plains (drop m cs)) (closed (passed h (size place t)) rest)) one
          ∙ ap (checked_from k (n + 1) (plains (drop (suc place) cs))) (sym (whole rest).1)
          ∙ next_discharged cs place n h.number (closed h rest) t below proof.valid (whole rest).0);
    }

  -- a line that is expected was taken but its end
  pub line_passed : SpelledIsRead → HeaderIsRead → (cs : List Condition) (place : ℕ) (h now : Held) (text : List ℕ) → place < length cs → place < 20000 → h.number ≡ place + 1 → h.second ≡ is_behind place
      → IsExpected k cs place text → h.bytes ≡ text ++ drop (length text) h.bytes → now ≡ passed h (length text - 1) → IsPassed k cs place h now
  line_passed spelled header cs place h now text below few number second expected is left =
      let t = expected.tree in
      let all : h.bytes ≡ line_of place t ++ drop (length text) h.bytes = is ∙ ap (λ (xs : List ℕ). xs ++ drop (length text) h.bytes) expected.written in
      let long = sized spelled header cs place below few h number second t expected.proof (drop (length text) h.bytes) all in
      let count : length text - 1 ≡ size place t = omega (arith, ap length expected.written, long) in
      subst (IsPassed k cs place h) (sym (left ∙ ap (passed h) count)) (is_passed spelled header cs place below few h number second t expected.proof (drop (length text) h.bytes) all)

-- ---- the header, and the end of its line, are taken as blank
header_front : (more : List ℕ) → front_len true (codes "version 2;\n" ++ 99 ∷ more) ≡ (11, true)
unfolding header_len
header_front more = refl

pub header_passed : (h : Held) (more : List ℕ) → h.number ≡ 1 → h.second ≡ false → h.bytes ≡ codes "version 2;\n" ++ 99 ∷ more → past_blanks h ≡ record h { bytes = drop 11 h.bytes; place = h.place + 11; second = true }
header_passed h more number second is =
    let may : may_begin h ≡ true = ap (λ (n : ℕ). may_begin (record h { number = n })) number ∙ ap (λ (s : Bool). may_begin (record h { number = 1; second = s })) second in
    ap (λ (c : Bool). past (front_len c h.bytes) h) may ∙ ap (λ (xs : List ℕ). past (front_len true xs) h) is ∙ ap (λ (f : ℕ × Bool). past f h) (header_front more)

-- how long a line is, at least
first_size : (t : Tree) → 12 ≤ length (line_of 0 t)
first_size t =
    let head : length (codes "version 2;\n") ≡ 11 = refl in
    omega (arith, head, ap length (line_body 0 t), length-append (body 0 t) (10 ∷ []), length-append (codes "version 2;\n") (line_text_of 1 t))

-- where the first line stands in front, the header's line is taken as blank, and the rest of the line is there behind it
pub header_behind : (h : Held) (place : ℕ) (t : Tree) (more : List ℕ) (count : ℕ) → place ≡ 0 → h.number ≡ place + 1 → h.second ≡ is_behind place → count ≡ length (line_of place t) → h.bytes ≡ line_of place t ++ more
    → (past_blanks h ≡ record h { bytes = drop 11 h.bytes; place = h.place + 11; second = true }) × (count - 12 ≤ length (drop 11 h.bytes)) × (12 ≤ count)
header_behind h place t more count none number second sized is =
    let one : h.number ≡ 1 = number ∙ ap (λ (p : ℕ). p + 1) none in
    let bytes : h.bytes ≡ line_of 0 t ++ more = is ∙ ap (λ (p : ℕ). line_of p t ++ more) none in
    let size : count ≡ length (line_of 0 t) = sized ∙ ap (λ (p : ℕ). length (line_of p t)) none in (
      header_passed h _ one (second ∙ ap is_behind none) bytes,
      omega (arith, size, ap length bytes, length-append (line_of 0 t) more, length-drop 11 h.bytes),
      omega (arith, size, first_size t),
    )

-- so what is left behind both is what is left behind the line but its end
pub after_header : (h mid now : Held) (count : ℕ) → 12 ≤ count → mid ≡ record h { bytes = drop 11 h.bytes; place = h.place + 11; second = true }
    → now ≡ record mid { bytes = drop (count - 12) mid.bytes; place = mid.place + (count - 12); number = mid.number + 1 } → now ≡ passed h (count - 1)
after_header h mid now count long first is =
    let all : 11 + (count - 12) ≡ count - 1 = omega (arith, long) in
    let place : h.place + 11 + (count - 12) ≡ h.place + (count - 1) = omega (arith, long) in
    is ∙ ap (λ (x : Held). record x { bytes = drop (count - 12) x.bytes; place = x.place + (count - 12); number = x.number + 1 }) first
    ∙ ap (λ (p : ℕ). record h { bytes = drop (count - 12) (drop 11 h.bytes); place = p; number = h.number + 1; second = true }) place
    ∙ ap (λ (xs : List ℕ). record h { bytes = xs; place = h.place + (count - 1); number = h.number + 1; second = true }) (drop-drop (count - 12) 11 h.bytes ∙ ap (λ (m : ℕ). drop m h.bytes) all)
