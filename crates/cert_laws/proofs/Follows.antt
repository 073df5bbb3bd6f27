-- How the control goes along the tokens of a block, limits aside: each is taken, up to the first that is marked as past a limit,
-- and that one is refused for it. Numbers are as the machine has them: they stand still at 2^64 - 1.
use Rattle.std.proofs.Common.{◌≡◌, ℕ, ◌+◌, ◌-◌, ◌<◌, ◌^◌, Bool, true, false, cond, ◌||◌, List, [], ◌∷◌, refl, sym, ap, ◌∙◌, arith, nat_lt, nat_le, ◌==◌, min}
use Rattle.std.proofs.lemmas.Bool.Decides.{nat_tests}
use Rattle.cert_text.specs.declared.scan.Token.{Token}
use Rattle.cert_text.specs.declared.scan.Token.TheVariants as tokens
use Rattle.cert_text.specs.declared.scan.Want.{Want}
use Rattle.cert_text.specs.declared.scan.Want.TheVariants as wants
use Rattle.cert_text.specs.declared.scan.Scan.{Scan}
use Rattle.cert_text.specs.declared.scan.Action.{Action}
use Rattle.cert_text.specs.declared.scan.Action.TheVariants as actions
use Rattle.cert_text.specs.declared.scan.Given.{Given}
use Rattle.cert_text.specs.declared.scan.Given.TheVariants as givens
use Rattle.cert_text.specs.Control.{give, behind}
use Rattle.cert_text.specs.Reading.{is_whole}
use Rattle.cert_text.specs.Run.{scan_at, want_behind}
use Rattle.cert_text.specs.Grammar.{Int, int_tokens, pick_tokens, picks_tokens, line_tokens, lines_tokens, none_left, is_long}
use Rattle.cert_laws.specs.Limits.{int_marks, is_row_over, is_size_over, pick_marks, picks_marks, line_marks, lines_marks}

-- a number as the machine has it
unfoldable pub stopped : ℕ → ℕ
stopped n = min n (2 ^ 64 - 1)

abbrev pub as_read : Token → Token
as_read (tokens.Word w) = tokens.Word w
as_read (tokens.Number n) = tokens.Number (stopped n)
as_read (tokens.Sign c) = tokens.Sign c

-- no sign passes a limit
abbrev pub IsQuiet : Token → Bool → Type 0
IsQuiet (tokens.Word w) m = Unit {0}
IsQuiet (tokens.Number n) m = Unit {0}
IsQuiet (tokens.Sign c) m = m ≡ false

abbrev pub Follows : List Token → List Bool → Scan → Type 0
Follows [] [] s = is_whole s.want ≡ true
Follows [] (m ∷ ms) s = ⊥
Follows (t ∷ ts) [] s = ⊥
Follows (t ∷ ts) (m ∷ ms) s =
    (s1 : Scan) × (a : Action) × (give s (as_read t) ≡ cond m givens.Over (givens.On s1 a)) × IsQuiet t m
    × (m ≡ false → (as_read t ≡ t) × Follows ts ms s1)

no_truth : false ≡ true → ⊥
no_truth h = cc

-- numbers that stand still

pub small_same : (n : ℕ) → n < 2 ^ 63 → stopped n ≡ n
unfolding stopped
small_same n h = omega (arith, h)

stopped_some : (n : ℕ) → 0 < n → (stopped n == 0) ≡ false
unfolding stopped
stopped_some n h = grind (arith, nat_tests)

pub stopped_lt : (n limit : ℕ) → limit < 2 ^ 63 → nat_lt limit (stopped n) ≡ nat_lt limit n
unfolding stopped
stopped_lt n limit h = grind (arith, nat_tests)

pub stopped_le : (n limit : ℕ) → limit < 2 ^ 63 → nat_le limit (stopped n) ≡ nat_le limit n
unfolding stopped
stopped_le n limit h = grind (arith, nat_tests)

pub not_over : (n limit : ℕ) → limit < 2 ^ 63 → nat_lt limit n ≡ false → n < 2 ^ 63
not_over n limit h e = grind (arith, nat_tests)

not_past : (n limit : ℕ) → limit < 2 ^ 63 → nat_le limit n ≡ false → n < 2 ^ 63
not_past n limit h e = grind (arith, nat_tests)

-- where no limit is passed the number is exact
pub limited : (test : Bool) (n : ℕ) (f : ℕ → Given) → (test ≡ false → n < 2 ^ 63) → cond test givens.Over (f (stopped n)) ≡ cond test givens.Over (f n)
limited true n f h = refl
limited false n f h = ap f (small_same n (h refl))

exact : (n : ℕ) → n < 2 ^ 63 → tokens.Number (stopped n) ≡ tokens.Number n
exact n h = ap (λ m. tokens.Number m) (small_same n h)

-- a number that isn't 0, below a limit
pub some_given : (n limit : ℕ) (f : ℕ → Given) → 0 < n → limit < 2 ^ 63 → cond (stopped n == 0) givens.Wrong (cond (nat_lt limit (stopped n)) givens.Over (f (stopped n))) ≡ cond (nat_lt limit n) givens.Over (f n)
some_given n limit f z h =
    ap (λ c. cond c givens.Wrong (cond (nat_lt limit (stopped n)) givens.Over (f (stopped n)))) (stopped_some n z)
    ∙ ap (λ c. cond c givens.Over (f (stopped n))) (stopped_lt n limit h)
    ∙ limited (nat_lt limit n) n f (λ e. not_over n limit h e)

left : (a b : Bool) → (a || b) ≡ false → a ≡ false
left true b h = h
left false b h = refl

right : (a b : Bool) → (a || b) ≡ false → b ≡ false
right true b h = absurd (no_truth (sym h))
right false b h = h

pub not_none : (d : ℕ) → (d + 1 == 0) ≡ false
not_none d = grind (arith, nat_tests)

pub one_less : (d : ℕ) → d + 1 - 1 ≡ d
one_less d = omega arith

pub more_than_none : (d : ℕ) → nat_lt 0 (d + 1) ≡ true
more_than_none d = grind (arith, nat_tests)

pub deep_enough : (trees d : ℕ) → none_left trees d ≡ false → nat_le 400 d ≡ false
deep_enough trees d h = right (nat_le 100000 trees) (nat_le 400 d) h

module _ (number : ℕ) (second : Bool) where
  abbrev pub At : Want → ℕ → ℕ → Scan
  At want d trees = scan_at number second want d trees

  -- a sign, or a word, that is given
  pub on_step : (t : Token) (ts : List Token) (ms : List Bool) (s s1 : Scan) (a : Action) → as_read t ≡ t → IsQuiet t false → give s t ≡ givens.On s1 a → Follows ts ms s1 → Follows (t ∷ ts) (false ∷ ms) s
  on_step t ts ms s s1 a r q e f = (s1, a, ap (give s) r ∙ e, q, λ z. (r, f))

  pub behind_is : (want : Want) (d0 d trees : ℕ) (a : Action) → behind (At want d0 trees) d a ≡ givens.On (At (want_behind d) d trees) a
  behind_is want d0 d trees a = by (d == 0) where
    by : (c : Bool) → cond c (givens.On (At wants.End d trees) a) (givens.On (At (wants.Tree true) d trees) a) ≡ givens.On (At (cond c wants.End (wants.Tree true)) d trees) a
    by true = refl
    by false = refl

  -- a multiplier and what follows it
  size_given : (signed negative : Bool) (count row n d trees : ℕ) (w : Want) → cond (nat_le 1099511627776 (stopped n)) givens.Over (givens.On (At (wants.MorePicks signed count) d trees) (actions.Pick signed row negative (stopped n))) ≡ cond (is_size_over n) givens.Over (givens.On (At (wants.MorePicks signed count) d trees) (actions.Pick signed row negative n))
  size_given signed negative count row n d trees w =
      ap (λ c. cond c givens.Over (givens.On (At (wants.MorePicks signed count) d trees) (actions.Pick signed row negative (stopped n)))) (stopped_le n 1099511627776 (omega arith))
      ∙ limited (is_size_over n) n (λ m. givens.On (At (wants.MorePicks signed count) d trees) (actions.Pick signed row negative m)) (λ e. not_past n 1099511627776 (omega arith) e)

  pub number_step : (test : Bool) (n : ℕ) (ts : List Token) (ms : List Bool) (s s1 : Scan) (a : Action) → give s (tokens.Number (stopped n)) ≡ cond test givens.Over (givens.On s1 a) → (test ≡ false → n < 2 ^ 63) → (test ≡ false → Follows ts ms s1) → Follows (tokens.Number n ∷ ts) (test ∷ ms) s
  number_step test n ts ms s s1 a e small f = (s1, a, e, tt, λ z. (exact n (small z), f z))

  row_given : (signed : Bool) (count m d trees : ℕ) → give (At (wants.Row signed count) d trees) (tokens.Number (stopped (m + 1))) ≡ cond (is_row_over count m) givens.Over (givens.On (At (wants.Times signed (count + 1) (m + 1)) d trees) actions.Nothing)
  row_given signed count m d trees =
      ap (λ c. cond c givens.Wrong (cond (nat_lt 4294967295 (stopped (m + 1)) || nat_le 4096 count) givens.Over (givens.On (At (wants.Times signed (count + 1) (stopped (m + 1))) d trees) actions.Nothing))) (stopped_some (m + 1) (omega arith))
      ∙ ap (λ c. cond (c || nat_le 4096 count) givens.Over (givens.On (At (wants.Times signed (count + 1) (stopped (m + 1))) d trees) actions.Nothing)) (stopped_lt (m + 1) 4294967295 (omega arith))
      ∙ limited (is_row_over count m) (m + 1) (λ x. givens.On (At (wants.Times signed (count + 1) x) d trees) actions.Nothing) (λ e. not_over (m + 1) 4294967295 (omega arith) (left (is_long (m + 1)) (nat_le 4096 count) e))

  row_small : (count m : ℕ) → is_row_over count m ≡ false → m + 1 < 2 ^ 63
  row_small count m e = not_over (m + 1) 4294967295 (omega arith) (left (is_long (m + 1)) (nat_le 4096 count) e)

  size_small : (n : ℕ) → is_size_over n ≡ false → n < 2 ^ 63
  size_small n e = not_past n 1099511627776 (omega arith) e

  -- a row and a multiplier without a sign
  pub pick_follows : (p : ℕ × ℕ) (count d trees : ℕ) (ts : List Token) (ms : List Bool) → Follows ts ms (At (wants.MorePicks false (count + 1)) d trees) → Follows (pick_tokens p ts) (pick_marks count p ms) (At (wants.Row false count) d trees)
  pick_follows p count d trees ts ms f =
      number_step (is_row_over count p.0) (p.0 + 1) (tokens.Sign 42 ∷ tokens.Number p.1 ∷ ts) (false ∷ is_size_over p.1 ∷ ms) (At (wants.Row false count) d trees) (At (wants.Times false (count + 1) (p.0 + 1)) d trees) actions.Nothing (row_given false count p.0 d trees) (row_small count p.0)
      (λ e. on_step (tokens.Sign 42) (tokens.Number p.1 ∷ ts) (is_size_over p.1 ∷ ms) (At (wants.Times false (count + 1) (p.0 + 1)) d trees) (At (wants.Multiplier false (count + 1) (p.0 + 1)) d trees) actions.Nothing refl refl refl
      (number_step (is_size_over p.1) p.1 ts ms (At (wants.Multiplier false (count + 1) (p.0 + 1)) d trees) (At (wants.MorePicks false (count + 1)) d trees) (actions.Pick false (p.0 + 1) false p.1) (size_given false false (count + 1) (p.0 + 1) p.1 d trees wants.Whole) (size_small p.1) (λ o. f)))

  pub picks_follow : (ps : List (ℕ × ℕ)) (count d trees : ℕ) (ts : List Token) (ms : List Bool) → ((n : ℕ) → Follows ts ms (At (wants.MorePicks false n) d trees)) → Follows (picks_tokens ps ts) (picks_marks count ps ms) (At (wants.MorePicks false count) d trees)
  picks_follow [] count d trees ts ms f = f count
  picks_follow (p ∷ ps) count d trees ts ms f =
      on_step (tokens.Sign 44) (pick_tokens p (picks_tokens ps ts)) (pick_marks count p (picks_marks (count + 1) ps ms)) (At (wants.MorePicks false count) d trees) (At (wants.Row false count) d trees) actions.Nothing refl refl refl
      (pick_follows p count d trees (picks_tokens ps ts) (picks_marks (count + 1) ps ms) (picks_follow ps (count + 1) d trees ts ms f))

  -- a multiplier with its sign
  signed_follows : (i : Int) (count row d trees : ℕ) (ts : List Token) (ms : List Bool) → Follows ts ms (At (wants.MorePicks true count) d trees) → Follows (int_tokens i ts) (int_marks (is_size_over i.1) i ms) (At (wants.Multiplier true count row) d trees)
  signed_follows i count row d trees ts ms f = by i.0 where
    by : (c : Bool) → Follows (cond c (tokens.Sign 45 ∷ tokens.Number i.1 ∷ ts) (tokens.Number i.1 ∷ ts)) (cond c (false ∷ is_size_over i.1 ∷ ms) (is_size_over i.1 ∷ ms)) (At (wants.Multiplier true count row) d trees)
    by true =
        on_step (tokens.Sign 45) (tokens.Number i.1 ∷ ts) (is_size_over i.1 ∷ ms) (At (wants.Multiplier true count row) d trees) (At (wants.Negative count row) d trees) actions.Nothing refl refl refl
        (number_step (is_size_over i.1) i.1 ts ms (At (wants.Negative count row) d trees) (At (wants.MorePicks true count) d trees) (actions.Pick true row true i.1) (size_given true true count row i.1 d trees wants.Whole) (size_small i.1) (λ o. f))
    by false = number_step (is_size_over i.1) i.1 ts ms (At (wants.Multiplier true count row) d trees) (At (wants.MorePicks true count) d trees) (actions.Pick true row false i.1) (size_given true false count row i.1 d trees wants.Whole) (size_small i.1) (λ o. f)

  pub line_follows : (p : ℕ × Int) (count d trees : ℕ) (ts : List Token) (ms : List Bool) → Follows ts ms (At (wants.MorePicks true (count + 1)) d trees) → Follows (line_tokens p ts) (line_marks count p ms) (At (wants.Row true count) d trees)
  line_follows p count d trees ts ms f =
      number_step (is_row_over count p.0) (p.0 + 1) (tokens.Sign 42 ∷ int_tokens p.1 ts) (false ∷ int_marks (is_size_over p.1.1) p.1 ms) (At (wants.Row true count) d trees) (At (wants.Times true (count + 1) (p.0 + 1)) d trees) actions.Nothing (row_given true count p.0 d trees) (row_small count p.0)
      (λ e. on_step (tokens.Sign 42) (int_tokens p.1 ts) (int_marks (is_size_over p.1.1) p.1 ms) (At (wants.Times true (count + 1) (p.0 + 1)) d trees) (At (wants.Multiplier true (count + 1) (p.0 + 1)) d trees) actions.Nothing refl refl refl
      (signed_follows p.1 (count + 1) (p.0 + 1) d trees ts ms f))

  pub lines_follow : (ps : List (ℕ × Int)) (count d trees : ℕ) (ts : List Token) (ms : List Bool) → ((n : ℕ) → Follows ts ms (At (wants.MorePicks true n) d trees)) → Follows (lines_tokens ps ts) (lines_marks count ps ms) (At (wants.MorePicks true count) d trees)
  lines_follow [] count d trees ts ms f = f count
  lines_follow (p ∷ ps) count d trees ts ms f =
      on_step (tokens.Sign 44) (line_tokens p (lines_tokens ps ts)) (line_marks count p (lines_marks (count + 1) ps ms)) (At (wants.MorePicks true count) d trees) (At (wants.Row true count) d trees) actions.Nothing refl refl refl
      (line_follows p count d trees (lines_tokens ps ts) (lines_marks (count + 1) ps ms) (lines_follow ps (count + 1) d trees ts ms f))
