-- Items that each stand behind a mark, judged one after another beside their plain reader.
use Rattle.std.proofs.Common.{◌≡◌, ℕ, zero, suc, ◌+◌, ◌<◌, ◌≤◌, Bool, true, false, List, [], ◌∷◌, ◌++◌, length, Ok, Err, refl, sym, ap, ◌∙◌, arith}
use Rattle.st_tokens.specs.Stream.{◌++>◌, Lexeme, Stream, ends, breaks, more}
use Rattle.st_reading.specs.declared.mark.Mark.{Mark}
use Rattle.st_reading.specs.declared.sign.Sign.{Sign}
use Rattle.st_reading.specs.declared.sign.Sign.TheVariants as signs
use Rattle.st_reading.specs.Sign.{sign_of, is}
use Rattle.st_reading.specs.Reading.{Read, ◌>>=◌, ahead, size, expected, gives, then_reads}
use Rattle.st_reading.specs.Breaches.{Breach, Reader}
use Rattle.st_reading.specs.BrokenRules.{Broken}
use Rattle.st_reading.specs.Steady.{head, Short, Within}
use Rattle.st_reading.proofs.Streams.{ahead_same}
use Rattle.st_reading.proofs.Spelled.{none_spelled}
use Rattle.st_reading.proofs.Soundness.{split, values}
use Rattle.st_reading.proofs.Steadiness.{bind_ok}
use Rattle.st_reading.proofs.Tokens.{but, not_that}
use Rattle.st_reading.proofs.Whiles.{stream_size}
use Rattle.st_reading.proofs.LawfulPhrases.{LawfulPhrase}
use Rattle.st_reading.proofs.Judging.{JudgedAt, good, judged_bind}
use Rattle.st_reading.proofs.JudgedParts.{judged_as, judged_map, Turns}
use Rattle.script_grammar.specs.Sizes.{marked_size}
use Rattle.script_grammar.specs.FirstFaults.{IsSyntactic}
use Rattle.script_grammar.proofs.MarkedItems.{items, further_none, items_step, one_marked, with_others}

-- `Sees x k`: the rules see k of what the judging loop has, x.
module _ {S K A : Type 0} (mark : Mark) (front inner next : Sign → Bool) (marked : inner (signs.Marked mark) ≡ true) (clear : Within next (but mark)) (fewer : Within next inner) (p : LawfulPhrase Breach A front inner)
    (loop : S → Reader S) (turn : S → Reader S) (loop_none : (x : S) (s : Stream) → is (ahead s) mark ≡ false → loop x s ≡ Ok (x, s)) (loop_step : (x : S) (t : Lexeme) (s : Stream) → is (sign_of t) mark ≡ true → loop x (more t s) ≡ then_reads (turn x) loop (more t s))
    (count : A → ℕ) (makes : S → A → S → Type 0) (Sees : S → K → Type 0) (step : K → A → K) (sees : (x y : S) (k : K) (a : A) → Sees x k → makes x a y → Sees y (step k a))
    (rules : K → ℕ → A → List (Broken Breach)) (all_rules : K → ℕ → List A → List (Broken Breach)) (no_rules : (k : K) (at : ℕ) → all_rules k at [] ≡ []) (more_rules : (k : K) (at : ℕ) (a : A) (xs : List A) → all_rules k at (a ∷ xs) ≡ rules k at a ++ all_rules (step k a) (at + (1 + count a)) xs)
    (judged_item : (x : S) (k : K) (at : ℕ) → Sees x k → (s : Stream) → JudgedAt IsSyntactic inner at (turn x) (one_marked mark p.phrase.reader p.lawful.one) (λ a. 1 + count a) (rules k at) (makes x) s) where
  abbrev loops : Reader (List A)
  loops = items mark front inner next marked clear fewer p

  abbrev one : Reader A
  one = one_marked mark p.phrase.reader p.lawful.one

  abbrev behind : A → Reader (List A)
  behind a = with_others mark p.phrase.reader p.lawful.one a

  abbrev all_count : List A → ℕ
  all_count = marked_size count

  abbrev Makes : S → List A → S → Type 0
  Makes = Turns makes

  abbrev others : List A → List A
  others [] = []
  others (a ∷ xs) = xs

  loops_none : (s : Stream) → is (ahead s) mark ≡ false → loops s ≡ Ok ([], s)
  loops_none s h = further_none mark p.phrase.reader p.lawful.one [] s h

  short : Short inner next behind
  short = record {
    text = λ a. [];
    spelled = λ a. none_spelled;
    value = λ a. a ∷ [];
    begins = λ a after h. fewer (ahead after) h;
    reads = λ a after h. bind_ok loops (λ xs. gives (a ∷ xs)) after [] after (loops_none after (not_that mark (ahead after) (clear (ahead after) h)));
  }

  read_behind : (b : A) (c : List A) (s rest : Stream) → behind b s ≡ Ok (c, rest) → c ≡ b ∷ others c
  read_behind b c s rest h =
      let q = split loops (λ xs. gives (b ∷ xs)) s c rest h in
      let v = values {X = Breach} (gives (b ∷ q.value) q.middle) (b ∷ q.value) c q.middle rest refl q.second in
      sym v.0 ∙ ap (λ xs. b ∷ others xs) v.0

  module _ (x : S) (k : K) (at : ℕ) where
    counted : (b : A) (c : List A) (s rest : Stream) → behind b s ≡ Ok (c, rest) → all_count c ≡ (1 + count b) + all_count (others c)
    counted b c s rest h = ap all_count (read_behind b c s rest h)

    ruled : (b : A) (c : List A) (s rest : Stream) → behind b s ≡ Ok (c, rest) → all_rules k at c ≡ rules k at b ++ all_rules (step k b) (at + (1 + count b)) (others c)
    ruled b c s rest h = ap (all_rules k at) (read_behind b c s rest h) ∙ more_rules k at b (others c)

    at_end : (s : Stream) → is (ahead s) mark ≡ false → JudgedAt IsSyntactic next at (loop x) loops all_count (all_rules k at) (Makes x) s
    at_end s e =
        good [] [] x s refl
        (λ after h. loops_none after (ap (λ g. is g mark) (ahead_same s after h) ∙ e))
        (λ after h. loop_none x after (ap (λ g. is g mark) (ahead_same s after h) ∙ e)) refl (no_rules k at) refl

    at_item : (t : Lexeme) (s : Stream) → is (sign_of t) mark ≡ true → Sees x k
        → ((ts : List Lexeme) (b : A) (y : S) (rest : Stream) → more t s ≡ ts ++> rest → 1 + count b ≡ length ts → makes x b y → JudgedAt IsSyntactic next (at + (1 + count b)) (loop y) loops all_count (all_rules (step k b) (at + (1 + count b))) (Makes y) rest)
        → JudgedAt IsSyntactic next at (loop x) loops all_count (all_rules k at) (Makes x) (more t s)
    at_item t s e seen again =
        judged_as IsSyntactic next at (then_reads (turn x) loop) (then_reads one behind) all_count (all_rules k at) (Makes x) (loop x) loops (more t s)
        (λ after h. at_head after h) (λ after h. at_head2 after h)
        (judged_bind IsSyntactic inner next at (turn x) one (λ a. 1 + count a) (rules k at) (makes x) loop behind all_count (all_rules k at) (Makes x) (λ b c. all_count (others c)) (λ b c. all_rules (step k b) (at + (1 + count b)) (others c)) counted ruled short (more t s)
        (judged_item x k at seen (more t s))
        (λ ts b y rest is_cut many made.
        judged_map IsSyntactic next (at + (1 + count b)) (loop y) loops all_count (all_rules (step k b) (at + (1 + count b))) (Makes y) (λ xs. b ∷ xs) (λ c. all_count (others c)) (λ c. all_rules (step k b) (at + (1 + count b)) (others c)) (Makes x) (λ xs. refl) (λ xs. refl) (λ xs z m. (y, made, m)) rest
        (again ts b y rest is_cut many made)))
      where
        at_head : (after : Stream) → head after ≡ head (more t s) → loop x after ≡ then_reads (turn x) loop after
        at_head (ends q) h = absurd cc
        at_head (breaks f) h = absurd cc
        at_head (more u m) h = let same : u ≡ t = cc in loop_step x u m (ap (λ (v : Lexeme). is (sign_of v) mark) same ∙ e)

        at_head2 : (after : Stream) → head after ≡ head (more t s) → loops after ≡ then_reads one behind after
        at_head2 (ends q) h = absurd cc
        at_head2 (breaks f) h = absurd cc
        at_head2 (more u m) h = let same : u ≡ t = cc in items_step mark p.phrase.reader p.lawful.one u m (ap (λ (v : Lexeme). is (sign_of v) mark) same ∙ e)

  at_more : (n : ℕ) → ((x : S) (k : K) (at : ℕ) (s : Stream) → size s ≤ n → Sees x k → JudgedAt IsSyntactic next at (loop x) loops all_count (all_rules k at) (Makes x) s)
      → (x : S) (k : K) (at : ℕ) (t : Lexeme) (s : Stream) → size s ≤ n → Sees x k → (b : Bool) → is (sign_of t) mark ≡ b → JudgedAt IsSyntactic next at (loop x) loops all_count (all_rules k at) (Makes x) (more t s)
  at_more n again x k at t s le seen false e = at_end x k at (more t s) e
  at_more n again x k at t s le seen true e = at_item x k at t s e seen (λ ts b y rest is_cut many made. again y (step k b) (at + (1 + count b)) rest (omega (arith, le, stream_size ts rest, ap size is_cut, many)) (sees x y k b seen made))

  within : (n : ℕ) (x : S) (k : K) (at : ℕ) (s : Stream) → size s ≤ n → Sees x k → JudgedAt IsSyntactic next at (loop x) loops all_count (all_rules k at) (Makes x) s
  within n x k at (ends q) le seen = at_end x k at (ends q) refl
  within n x k at (breaks f) le seen = at_end x k at (breaks f) refl
  within zero x k at (more t s) le seen = absurd (omega arith)
  within (suc n) x k at (more t s) le seen = at_more n (λ x k at s le seen. within n x k at s le seen) x k at t s (omega arith) seen (is (sign_of t) mark) refl

  pub judged_items : (x : S) (k : K) (at : ℕ) → Sees x k → (s : Stream) → JudgedAt IsSyntactic next at (loop x) loops all_count (all_rules k at) (Makes x) s
  judged_items x k at seen s = within (size s) x k at s (omega arith) seen
