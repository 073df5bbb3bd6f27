-- Lists in brackets whose items are judged once more at the token behind them, where it is known that they are whole.
use Rattle.std.proofs.Common.{◌≡◌, ℕ, zero, suc, ◌+◌, ◌≤◌, Bool, true, false, cond, List, [], ◌∷◌, ◌++◌, length, length-append, Ok, Err, refl, sym, ap, subst, ◌∙◌, arith, append_assoc, append-nil}
use Rattle.std.specs.Prelude.{nat_lt}
use Rattle.st_tokens.specs.Stream.{◌++>◌, Lexeme, Stream, ends, breaks, more}
use Rattle.st_reading.specs.declared.mark.Mark.TheVariants as marks
use Rattle.st_reading.specs.declared.sign.Sign.{Sign}
use Rattle.st_reading.specs.declared.sign.Sign.TheVariants as signs
use Rattle.st_reading.specs.Sign.{sign_of, is}
use Rattle.st_reading.specs.Reading.{Read, ◌>>=◌, syntax, ahead, size, refusal, expected, gives, then_reads, Turn, goes, turned, only}
use Rattle.st_reading.specs.Breaches.{Breach, Reader, unless}
use Rattle.st_reading.specs.BrokenRules.{Broken}
use Rattle.st_reading.specs.Steady.{head, Short, Wide, moves, anything}
use Rattle.st_reading.proofs.Soundness.{Shrinks, split, values}
use Rattle.st_reading.proofs.Shrinking.{shrinks_bind, shrinks_map}
use Rattle.st_reading.proofs.Steadiness.{bind_ok}
use Rattle.st_reading.proofs.Chains.{chain_none, chain_of, chain_step}
use Rattle.st_reading.proofs.Whiles.{stream_size}
use Rattle.st_reading.proofs.Lawful.{viable_of}
use Rattle.st_reading.proofs.LawfulPhrases.{LawfulPhrase}
use Rattle.st_reading.proofs.Judging.{JudgedAt, alike, judged_bind}
use Rattle.st_reading.proofs.JudgedParts.{judged_as, judged_map}
use Rattle.proof_script.specs.Listing.{bracketed, counted, further_counted}
use Rattle.proof_script.specs.Rules.{ends_item}
use Rattle.script_grammar.specs.RawScripts.{RawUnit}
use Rattle.script_grammar.specs.Sizes.{bracketed_size, marked_size}
use Rattle.script_grammar.specs.Breaking.{broken_where, listed_rules, one_too_many_rules}
use Rattle.script_grammar.specs.FirstFaults.{IsSyntactic}
use Rattle.script_grammar.proofs.JudgedReferences.{refusal_syntactic}
use Rattle.script_grammar.proofs.JudgedPairs.{both_of}
use Rattle.script_grammar.proofs.Judges.{Judges, Whatever, pair_so, seen_so, as_so, after_so, made_so, same_so, shrinks_so, marked, mark_so}
use Rattle.script_grammar.proofs.JudgedChoices.{verdict_so}
use Rattle.script_grammar.proofs.MarkedItems.{further_none, items_step, one_marked}
use Rattle.script_grammar.proofs.JudgedBrackets.{brackets_lawful, others, others_front, others_inner, tail_lawful, tail_needs, the_list}

-- an item that is read, and whether it is wrong if nothing goes on with it
pub record Pending (A : Type 0) : Type 0 where
  pub wrong : Bool
  pub breach : Breach
  pub item : A

-- where nothing goes on
abbrev pub completed : {A : Type 0} → Pending A → Reader A
completed q s = cond (ends_item (ahead s)) (unless q.wrong q.breach q.item s) (Err (refusal s))

pub completed_shrinks : {A : Type 0} (q : Pending A) → Shrinks (completed q)
completed_shrinks {A} q s x rest h = at_test (ends_item (ahead s)) q.wrong h
  where
    at_test : (b c : Bool) → cond b (unless c q.breach q.item s) (Err (refusal s)) ≡ Ok (x, rest) → size rest ≤ size s
    at_test true false h = let v = values {X = Breach} (gives q.item s) q.item x s rest refl h in omega (arith, ap size v.1)
    at_test true true h = absurd cc
    at_test false c h = absurd cc

-- `r` reads what `pending` reads, completed. `own` are the rules that an item breaks by itself.
module _ {A R : Type 0} (front inner : Sign → Bool) (between : inner (signs.Marked marks.Semicolon) ≡ true) (closes : inner (signs.Marked marks.CloseBlock) ≡ true) (quiet : inner signs.Nothing ≡ true) (p : LawfulPhrase Breach R front inner) (fits : Wide front inner inner p.phrase.reader)
    (form : R → RawUnit) (count : R → ℕ) (rules own : ℕ → R → List (Broken Breach)) (wrong : R → Bool) (breach : R → Breach) (rules_are : (at : ℕ) (x : R) → rules at x ≡ own at x ++ broken_where (wrong x) (at + count x + 1) (breach x))
    (r : ℕ → Reader A) (pending : ℕ → Reader (Pending A)) (reads : (k : ℕ) (s : Stream) → r k s ≡ then_reads (pending k) completed s) where
  -- so many items stand before it
  abbrev pub Fits : ℕ → R → Pending A → Type 0
  Fits k x q = (nat_lt k 64 ≡ true) × ((q.wrong ≡ wrong x) × (q.breach ≡ breach x))

  abbrev pub item_rules : ℕ → ℕ → R → List (Broken Breach)
  item_rules k at x = cond (nat_lt k 64) (own at x) (one_too_many_rules at (form x))

  -- what is due at the token behind it
  abbrev due : ℕ → R → ℕ → List (Broken Breach)
  due k x n = cond (nat_lt k 64) (broken_where (wrong x) n (breach x)) []

  -- behind it
  abbrev tail_rules : ℕ → R → ℕ → List R → List (Broken Breach)
  tail_rules k x at [] = due k x (at + 1)
  tail_rules k x at (y ∷ ys) = due k x (at + 1) ++ (item_rules (suc k) (at + 1) y ++ tail_rules (suc k) y (at + (1 + count y)) ys)

  abbrev TailRead : Type 0
  TailRead = List R × ℕ

  abbrev rest_of : TailRead → TailRead
  rest_of ([], n) = ([], n)
  rest_of (y ∷ ys, n) = (ys, n)

  abbrev raw_tail : Reader TailRead
  raw_tail = (tail_lawful front inner between closes quiet p fits).phrase.reader

  abbrev one : Reader R
  one = one_marked marks.Semicolon p.phrase.reader p.lawful.one

  abbrev grown_by : R → TailRead → TailRead
  grown_by a z = both_of (a ∷ z.0) z.1

  abbrev behind_one : R → Reader TailRead
  behind_one a = then_reads raw_tail (λ z. gives (grown_by a z))

  abbrev close : List R → Reader TailRead
  close xs = then_reads (expected marks.CloseBlock) (λ n. gives (both_of xs n))

  abbrev ended : List A → Reader (List A)
  ended ys = then_reads (expected marks.CloseBlock) (λ m. gives ys)

  abbrev loop : List A → Reader (List A)
  loop ys = further_counted marks.Semicolon r ys

  abbrev goes_on : List A → A → Reader (List A)
  goes_on xs x = then_reads (loop (xs ++ x ∷ [])) ended

  abbrev tail : List A → Pending A → Reader (List A)
  tail xs q = then_reads (completed q) (goes_on xs)

  -- READ PLAINLY
  raw_step : (t : Lexeme) (s : Stream) → is (sign_of t) marks.Semicolon ≡ true → raw_tail (more t s) ≡ then_reads one behind_one (more t s)
  raw_step t s e = ap (λ (o : Read Breach (List R)). o >>= λ x. close x.0 x.1) (items_step marks.Semicolon p.phrase.reader p.lawful.one t s e) ∙ at_one (one (more t s))
    where
      at_close : (a : R) (xs : List R) (o : Read Breach ℕ) → (o >>= λ n. gives {X = Breach} (both_of (a ∷ xs) n.0) n.1) ≡ ((o >>= λ n. gives {X = Breach} (both_of xs n.0) n.1) >>= λ z. gives {X = Breach} (grown_by a z.0) z.1)
      at_close a xs (Ok n) = refl
      at_close a xs (Err f) = refl

      at_others : (a : R) (o : Read Breach (List R)) → ((o >>= λ xs. gives {X = Breach} (a ∷ xs.0) xs.1) >>= λ x. close x.0 x.1) ≡ ((o >>= λ x. close x.0 x.1) >>= λ z. gives {X = Breach} (grown_by a z.0) z.1)
      at_others a (Ok xs) = at_close a xs.0 (expected marks.CloseBlock xs.1)
      at_others a (Err f) = refl

      at_one : (o : Read Breach R) → ((o >>= λ a. then_reads (others front inner between closes quiet p fits).phrase.reader (λ xs. gives (a.0 ∷ xs)) a.1) >>= λ x. close x.0 x.1) ≡ (o >>= λ a. behind_one a.0 a.1)
      at_one (Ok a) = at_others a.0 ((others front inner between closes quiet p fits).phrase.reader a.1)
      at_one (Err f) = refl

  raw_end : (s : Stream) → is (ahead s) marks.Semicolon ≡ false → raw_tail s ≡ close [] s
  raw_end s e = bind_ok (others front inner between closes quiet p fits).phrase.reader close s [] s (further_none marks.Semicolon p.phrase.reader p.lawful.one [] s e)

  short : Short inner anything behind_one
  short =
      let v = viable_of (others_front front inner between closes quiet p fits) anything raw_tail (moves refl (syntax 0) (tail_needs front inner between closes quiet p fits)) (λ i. raw_tail) (tail_lawful front inner between closes quiet p fits).lawful tt in
      record {
        text = λ a. v.others;
        spelled = λ a. v.spelled;
        value = λ a. grown_by a v.value;
        begins = λ a after h. others_inner front inner between closes quiet p fits (ahead (v.others ++> after)) (v.begins refl after h);
        reads = λ a after h. bind_ok raw_tail (λ z. gives (grown_by a z)) (v.others ++> after) v.value after (v.reads after h);
      }

  read_behind : (b : R) (c : TailRead) (s rest : Stream) → behind_one b s ≡ Ok (c, rest) → c ≡ grown_by b (rest_of c)
  read_behind b c s rest h =
      let q = split raw_tail (λ z. gives (grown_by b z)) s c rest h in
      let v = values {X = Breach} (gives (grown_by b q.value) q.middle) (grown_by b q.value) c q.middle rest refl q.second in
      sym v.0 ∙ ap (λ z. grown_by b (rest_of z)) v.0

  -- THE RULES
  due_moved : (k : ℕ) (x : R) (at n : ℕ) (b : Bool) → n ≡ at + count x + 1 → cond b (rules at x) (one_too_many_rules at (form x)) ≡ cond b (own at x) (one_too_many_rules at (form x)) ++ cond b (broken_where (wrong x) n (breach x)) []
  due_moved k x at n true e = rules_are at x ∙ ap (λ m. own at x ++ broken_where (wrong x) m (breach x)) (sym e)
  due_moved k x at n false e = sym (append-nil (one_too_many_rules at (form x)))

  rules_moved : (k at : ℕ) (x : R) (xs : List R) → listed_rules form count rules k at (x ∷ xs) ≡ item_rules k (at + 1) x ++ tail_rules k x (at + (1 + count x)) xs
  rules_moved k at x [] = append-nil (cond (nat_lt k 64) (rules (at + 1) x) (one_too_many_rules (at + 1) (form x))) ∙ due_moved k x (at + 1) ((at + (1 + count x)) + 1) (nat_lt k 64) (omega arith)
  rules_moved k at x (y ∷ ys) =
      let later = at + (1 + count x) in
      ap (λ z. z ++ listed_rules form count rules (suc k) later (y ∷ ys)) (due_moved k x (at + 1) (later + 1) (nat_lt k 64) (omega arith))
      ∙ append_assoc (item_rules k (at + 1) x) (due k x (later + 1)) (listed_rules form count rules (suc k) later (y ∷ ys))
      ∙ ap (λ z. item_rules k (at + 1) x ++ (due k x (later + 1) ++ z)) (rules_moved (suc k) later y ys)

  module _ (item : (k : ℕ) → Judges inner (pending k) p.phrase.reader count (item_rules k) (Fits k)) where
    r_shrinks : (k : ℕ) → Shrinks (r k)
    r_shrinks k s x rest h = shrinks_bind (pending k) completed (shrinks_so (item k)) completed_shrinks s x rest (sym (reads k s) ∙ h)

    abbrev grown : List A → A → Turn (List A) (List A)
    grown xs x = goes (xs ++ x ∷ [])

    counted_shrinks : (o : Unit {0}) (place : ℕ) (xs : List A) → Shrinks {A = Turn (List A) (List A)} (counted r o place xs)
    counted_shrinks o place xs = shrinks_map (grown xs) (r (length xs)) (r_shrinks (length xs))

    loop_none : (xs : List A) (s : Stream) → is (ahead s) marks.Semicolon ≡ false → loop xs s ≡ Ok (xs, s)
    loop_none xs s e = chain_none (only marks.Semicolon) (counted r) gives (size s) xs s (rw e refl)

    -- a further item, which isn't completed by then
    abbrev next_one : List A → Reader (List A × Pending A)
    next_one ys = then_reads (pending (length ys)) (λ q. gives (both_of ys q))

    abbrev turn : List A → Pending A → Reader (List A × Pending A)
    turn xs q = then_reads (marked marks.Semicolon q.wrong (λ n. q.breach) (xs ++ q.item ∷ [])) next_one

    abbrev tail_of : List A × Pending A → Reader (List A)
    tail_of z = tail z.0 z.1

    -- what the loop does behind a ";"
    loop_goes : (ys : List A) (t : Lexeme) (s : Stream) → is (sign_of t) marks.Semicolon ≡ true → then_reads (loop ys) ended (more t s) ≡ then_reads (next_one ys) tail_of s
    loop_goes ys t s e =
        ap (λ (o : Read Breach (List A)). o >>= λ x. ended x.0 x.1) (chain_step (only marks.Semicolon) refl (counted r) gives counted_shrinks t tt ys s (rw e refl))
        ∙ ap (λ (o : Read Breach A). ((o >>= λ x. gives {X = Breach} (grown ys x.0) x.1) >>= λ y. turned (chain_of (only marks.Semicolon) refl (counted r) gives counted_shrinks) y.0 y.1) >>= λ x. ended x.0 x.1) (reads (length ys) s)
        ∙ at_pending (pending (length ys) s)
      where
        at_completed : (o : Read Breach A) → (((o >>= λ x. gives {X = Breach} (grown ys x.0) x.1) >>= λ y. turned (chain_of (only marks.Semicolon) refl (counted r) gives counted_shrinks) y.0 y.1) >>= λ x. ended x.0 x.1) ≡ (o >>= λ x. goes_on ys x.0 x.1)
        at_completed (Ok x) = refl
        at_completed (Err f) = refl

        at_pending : (o : Read Breach (Pending A)) → ((((o >>= λ q. completed q.0 q.1) >>= λ x. gives {X = Breach} (grown ys x.0) x.1) >>= λ y. turned (chain_of (only marks.Semicolon) refl (counted r) gives counted_shrinks) y.0 y.1) >>= λ x. ended x.0 x.1) ≡ ((o >>= λ q. gives {X = Breach} (both_of ys q.0) q.1) >>= λ z. tail_of z.0 z.1)
        at_pending (Ok q) = at_completed (completed q.0 q.1)
        at_pending (Err f) = refl

    tail_step : (xs : List A) (q : Pending A) (t : Lexeme) (s : Stream) → is (sign_of t) marks.Semicolon ≡ true → tail xs q (more t s) ≡ then_reads (turn xs q) tail_of (more t s)
    tail_step xs q t s e = rw e (at_wrong q.wrong)
      where
        at_wrong : (b : Bool) → (unless b q.breach q.item (more t s) >>= λ x. goes_on xs x.0 x.1) ≡ ((unless b q.breach (xs ++ q.item ∷ []) s >>= λ ys. next_one ys.0 ys.1) >>= λ z. tail_of z.0 z.1)
        at_wrong true = refl
        at_wrong false = loop_goes (xs ++ q.item ∷ []) t s e

    tail_end : (xs : List A) (q : Pending A) (t : Lexeme) (s : Stream) → is (sign_of t) marks.Semicolon ≡ false → is (sign_of t) marks.CloseBlock ≡ true → tail xs q (more t s) ≡ marked marks.CloseBlock q.wrong (λ n. q.breach) (xs ++ q.item ∷ []) (more t s)
    tail_end xs q t s e f = rw (e, f) (at_wrong q.wrong)
      where
        at_wrong : (b : Bool) → (unless b q.breach q.item (more t s) >>= λ x. goes_on xs x.0 x.1) ≡ unless b q.breach (xs ++ q.item ∷ []) s
        at_wrong true = refl
        at_wrong false = bind_ok (loop (xs ++ q.item ∷ [])) ended (more t s) (xs ++ q.item ∷ []) (more t s) (loop_none (xs ++ q.item ∷ []) (more t s) e) ∙ rw f refl

    -- JUDGED
    abbrev tail_count : TailRead → ℕ
    tail_count z = marked_size count z.0 + 1

    abbrev JudgedTail : List A → Pending A → ℕ → R → ℕ → Stream → Type 0
    JudgedTail xs q k x at s = JudgedAt IsSyntactic anything at (tail xs q) raw_tail tail_count (λ z. tail_rules k x at z.0) Whatever s

    abbrev Turned : List A → Pending A → ℕ → R → List A × Pending A → Type 0
    Turned xs q k y z = (z.0 ≡ xs ++ q.item ∷ []) × Fits (suc k) y z.1

    module _ (xs : List A) (q : Pending A) (k : ℕ) (long : length xs ≡ k) (x : R) (m : Fits k x q) where
      abbrev ys : List A
      ys = xs ++ q.item ∷ []

      due_is : (n : ℕ) → due k x n ≡ broken_where q.wrong n q.breach
      due_is n = let e = m.0 in let f = m.1.0 in let h = m.1.1 in rw (e, f, h) refl

      next_so : Judges inner (next_one ys) p.phrase.reader count (item_rules (suc k)) (Turned xs q k)
      next_so =
          let e : length ys ≡ suc k = omega (arith, length-append xs (q.item ∷ []), long) in
          made_so (both_of ys) (Turned xs q k) (λ y z fit. (refl, fit)) (subst (λ n. Judges inner (pending n) p.phrase.reader count (item_rules (suc k)) (Fits (suc k))) (sym e) (item (suc k)))

      turn_so : Judges inner (turn xs q) one (λ y. 1 + count y) (λ at y. due k x (at + 1) ++ item_rules (suc k) (at + 1) y) (Turned xs q k)
      turn_so =
          same_so (λ y. 1 + count y) (λ at y. due k x (at + 1) ++ item_rules (suc k) (at + 1) y) (λ y. refl) (λ at y. ap (λ z. z ++ item_rules (suc k) (at + 1) y) (due_is (at + 1)))
          (verdict_so marks.Semicolon q.wrong q.breach ys next_one count (item_rules (suc k)) (Turned xs q k) p fits next_so)

      end_so : Judges anything (marked marks.CloseBlock q.wrong (λ n. q.breach) ys) (close []) tail_count (λ at z. tail_rules k x at z.0) Whatever
      end_so =
          seen_so (both_of []) tail_count (λ at z. tail_rules k x at z.0) Whatever (λ n. refl) (λ at n. due_is (at + 1)) (λ n a e. tt)
          (mark_so marks.CloseBlock q.wrong (λ n. q.breach) ys)

      counted_so : (b : R) (c : TailRead) (s rest : Stream) → behind_one b s ≡ Ok (c, rest) → tail_count c ≡ (1 + count b) + tail_count (rest_of c)
      counted_so b c s rest h = ap tail_count (read_behind b c s rest h) ∙ omega arith

      ruled_so : (at : ℕ) (b : R) (c : TailRead) (s rest : Stream) → behind_one b s ≡ Ok (c, rest) → tail_rules k x at c.0 ≡ (due k x (at + 1) ++ item_rules (suc k) (at + 1) b) ++ tail_rules (suc k) b (at + (1 + count b)) (rest_of c).0
      ruled_so at b c s rest h =
          ap (λ (z : TailRead). tail_rules k x at z.0) (read_behind b c s rest h)
          ∙ sym (append_assoc (due k x (at + 1)) (item_rules (suc k) (at + 1) b) (tail_rules (suc k) b (at + (1 + count b)) (rest_of c).0))

      at_semicolon : (at : ℕ) (t : Lexeme) (s : Stream) → is (sign_of t) marks.Semicolon ≡ true
          → ((ts : List Lexeme) (y : R) (z : List A × Pending A) (rest : Stream) → more t s ≡ ts ++> rest → 1 + count y ≡ length ts → Turned xs q k y z → JudgedTail z.0 z.1 (suc k) y (at + (1 + count y)) rest)
          → JudgedTail xs q k x at (more t s)
      at_semicolon at t s e again =
          judged_as IsSyntactic anything at (then_reads (turn xs q) tail_of) (then_reads one behind_one) tail_count (λ z. tail_rules k x at z.0) Whatever (tail xs q) raw_tail (more t s) (λ after h. judge_at after h) (λ after h. plain_at after h)
          (judged_bind IsSyntactic inner anything at (turn xs q) one (λ y. 1 + count y) (λ y. due k x (at + 1) ++ item_rules (suc k) (at + 1) y) (Turned xs q k) tail_of behind_one tail_count (λ z. tail_rules k x at z.0) Whatever
          (λ b c. tail_count (rest_of c)) (λ b c. tail_rules (suc k) b (at + (1 + count b)) (rest_of c).0) counted_so (ruled_so at) short (more t s) (turn_so.judged at (more t s))
          (λ ts y z rest is_cut many fit.
          judged_map IsSyntactic anything (at + (1 + count y)) (tail_of z) raw_tail tail_count (λ c. tail_rules (suc k) y (at + (1 + count y)) c.0) Whatever (grown_by y) (λ c. tail_count (rest_of c)) (λ c. tail_rules (suc k) y (at + (1 + count y)) (rest_of c).0) Whatever (λ c. refl) (λ c. refl) (λ c a n. tt) rest
          (again ts y z rest is_cut many fit)))
        where
          judge_at : (after : Stream) → head after ≡ head (more t s) → tail xs q after ≡ then_reads (turn xs q) tail_of after
          judge_at (ends n) h = absurd cc
          judge_at (breaks f) h = absurd cc
          judge_at (more u n) h = let same : u ≡ t = cc in tail_step xs q u n (ap (λ (v : Lexeme). is (sign_of v) marks.Semicolon) same ∙ e)

          plain_at : (after : Stream) → head after ≡ head (more t s) → raw_tail after ≡ then_reads one behind_one after
          plain_at (ends n) h = absurd cc
          plain_at (breaks f) h = absurd cc
          plain_at (more u n) h = let same : u ≡ t = cc in raw_step u n (ap (λ (v : Lexeme). is (sign_of v) marks.Semicolon) same ∙ e)

      at_close : (at : ℕ) (t : Lexeme) (s : Stream) → is (sign_of t) marks.Semicolon ≡ false → is (sign_of t) marks.CloseBlock ≡ true → JudgedTail xs q k x at (more t s)
      at_close at t s e f =
          judged_as IsSyntactic anything at (marked marks.CloseBlock q.wrong (λ n. q.breach) ys) (close []) tail_count (λ z. tail_rules k x at z.0) Whatever (tail xs q) raw_tail (more t s) (λ after h. judge_at after h) (λ after h. plain_at after h)
          (end_so.judged at (more t s))
        where
          judge_at : (after : Stream) → head after ≡ head (more t s) → tail xs q after ≡ marked marks.CloseBlock q.wrong (λ n. q.breach) ys after
          judge_at (ends n) h = absurd cc
          judge_at (breaks b) h = absurd cc
          judge_at (more u n) h = let same : u ≡ t = cc in tail_end xs q u n (ap (λ (v : Lexeme). is (sign_of v) marks.Semicolon) same ∙ e) (ap (λ (v : Lexeme). is (sign_of v) marks.CloseBlock) same ∙ f)

          plain_at : (after : Stream) → head after ≡ head (more t s) → raw_tail after ≡ close [] after
          plain_at (ends n) h = absurd cc
          plain_at (breaks b) h = absurd cc
          plain_at (more u n) h = let same : u ≡ t = cc in raw_end (more u n) (ap (λ (v : Lexeme). is (sign_of v) marks.Semicolon) same ∙ e)

      neither : (at : ℕ) (s : Stream) → is (ahead s) marks.Semicolon ≡ false → is (ahead s) marks.CloseBlock ≡ false → JudgedTail xs q k x at s
      neither at s e f = alike (refusal s) (refusal_syntactic s) (rw (e, f) refl) (raw_end s e ∙ rw f refl)

    within : (n : ℕ) (xs : List A) (q : Pending A) (k : ℕ) (x : R) (at : ℕ) (s : Stream) → size s ≤ n → length xs ≡ k → Fits k x q → JudgedTail xs q k x at s
    within n xs q k x at (ends e) le long m = neither xs q k long x m at (ends e) refl refl
    within n xs q k x at (breaks f) le long m = neither xs q k long x m at (breaks f) refl refl
    within zero xs q k x at (more t s) le long m = absurd (omega arith)
    within (suc n) xs q k x at (more t s) le long m = at_tests (λ ys z j y i rest less longer fit. within n ys z j y i rest less longer fit) (is (sign_of t) marks.Semicolon) (is (sign_of t) marks.CloseBlock) refl refl
      where
        at_tests : ((ys : List A) (z : Pending A) (j : ℕ) (y : R) (i : ℕ) (rest : Stream) → size rest ≤ n → length ys ≡ j → Fits j y z → JudgedTail ys z j y i rest) → (b c : Bool) → is (sign_of t) marks.Semicolon ≡ b → is (sign_of t) marks.CloseBlock ≡ c → JudgedTail xs q k x at (more t s)
        at_tests again true c e f =
            at_semicolon xs q k long x m at t s e
            (λ ts y z rest is_cut many turned_so. again z.0 z.1 (suc k) y (at + (1 + count y)) rest (omega (arith, le, stream_size ts rest, ap size is_cut, many)) (omega (arith, ap length turned_so.0, length-append xs (q.item ∷ []), long)) turned_so.1)
        at_tests again false true e f = at_close xs q k long x m at t s e f
        at_tests again false false e f = neither xs q k long x m at (more t s) e f

    tail_so : (x : R) (q : Pending A) → Fits 0 x q → Judges anything (tail [] q) raw_tail tail_count (λ at z. tail_rules 0 x at z.0) Whatever
    tail_so x q m = record { judged = λ at s. within (size s) [] q 0 x at s (omega arith) refl m }

    -- THE LIST
    abbrev first : Reader (Pending A)
    first = then_reads (expected marks.OpenBlock) (λ m. pending 0)

    brackets_are : (s : Stream) → bracketed r s ≡ then_reads first (tail []) s
    brackets_are s = at_open (expected marks.OpenBlock s)
      where
        at_completed : (o : Read Breach A) → ((o >>= λ x. loop (x.0 ∷ []) x.1) >>= λ ys. ended ys.0 ys.1) ≡ (o >>= λ x. goes_on [] x.0 x.1)
        at_completed (Ok x) = refl
        at_completed (Err f) = refl

        at_pending : (o : Read Breach (Pending A)) → (((o >>= λ q. completed q.0 q.1) >>= λ x. loop (x.0 ∷ []) x.1) >>= λ ys. ended ys.0 ys.1) ≡ (o >>= λ q. tail [] q.0 q.1)
        at_pending (Ok q) = at_completed (completed q.0 q.1)
        at_pending (Err f) = refl

        at_open : (o : Read Breach ℕ) → (o >>= λ m. then_reads (then_reads (r 0) (λ x. loop (x ∷ []))) ended m.1) ≡ ((o >>= λ m. pending 0 m.1) >>= λ q. tail [] q.0 q.1)
        at_open (Ok m) = ap (λ (o : Read Breach A). (o >>= λ x. loop (x.0 ∷ []) x.1) >>= λ ys. ended ys.0 ys.1) (reads 0 m.1) ∙ at_pending (pending 0 m.1)
        at_open (Err f) = refl

    pub completed_so : Judges anything (bracketed r) (brackets_lawful front inner between closes quiet p fits).phrase.reader (bracketed_size count) (listed_rules form count rules 0) Whatever
    completed_so =
        as_so (bracketed r) (brackets_lawful front inner between closes quiet p fits).phrase.reader brackets_are (λ s. refl)
        (seen_so (the_list front inner between closes quiet p fits) (bracketed_size count) (listed_rules form count rules 0) Whatever (λ z. omega arith) (λ at z. rules_moved 0 at z.0 z.1.0) (λ z a m. tt)
        (pair_so {rules2 = λ x at z. tail_rules 0 x at z.0} {makes = Whatever} (others_inner front inner between closes quiet p fits) (tail_lawful front inner between closes quiet p fits) (moves refl (syntax 0) (tail_needs front inner between closes quiet p fits)) (after_so marks.OpenBlock p fits (item 0)) tail_so))
