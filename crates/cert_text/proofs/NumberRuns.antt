-- Blanks are one step, and so is a number that ends, where nothing is asked of it while it grows.
use Rattle.std.proofs.Common.{◌≡◌, ℕ, suc, ◌+◌, ◌<◌, Bool, true, false, cond, List, [], ◌∷◌, length, drop, refl, sym, ap, subst, ◌∙◌, arith}
use Rattle.std.specs.List.{prefix_len}
use Rattle.std.proofs.lemmas.Bool.Decides.{nat_tests}
use Rattle.cert_text.specs.declared.scan.Token.TheVariants as tokens
use Rattle.cert_text.specs.declared.scan.Want.{Want}
use Rattle.cert_text.specs.declared.scan.Want.TheVariants as wants
use Rattle.cert_text.specs.declared.scan.Scan.{Scan}
use Rattle.cert_text.specs.Control.{give, fits_number_at}
use Rattle.cert_text.specs.Letters.{is_blank, is_letter, is_digit, grown}
use Rattle.cert_text.specs.Fronts.{number_by, takes_numbers}
use Rattle.cert_text.specs.Tree.{Built}
use Rattle.cert_text.specs.Reading.{going, malformed, idle, digits, token_taken, word_grown, number_grown, and_begun, step, after}
use Rattle.cert_text.proofs.WordRuns.{taken_then}

pub blank_step : (at b : ℕ) (scan : Scan) (built : Built) → is_blank b ≡ true → step at (going scan built idle) b ≡ going scan built idle
unfolding step
blank_step at b scan built h = ap (λ x. cond x (going scan built idle) (cond (is_letter b) (word_grown at scan built [] b) (cond (is_digit b) (number_grown at scan built 0 b) (token_taken at (at + 1) (give scan (tokens.Sign b)) built)))) h

blank_run : (at : ℕ) (scan : Scan) (built : Built) (bs : List ℕ) → after (at + prefix_len is_blank bs) (going scan built idle) (drop (prefix_len is_blank bs) bs) ≡ after at (going scan built idle) bs
blank_run at scan built [] = refl
blank_run at scan built (b ∷ bs) = by (is_blank b) refl (blank_run (at + 1) scan built bs) where
  by : (l : Bool) → is_blank b ≡ l → after (at + 1 + prefix_len is_blank bs) (going scan built idle) (drop (prefix_len is_blank bs) bs) ≡ after (at + 1) (going scan built idle) bs → after (at + cond l (1 + prefix_len is_blank bs) 0) (going scan built idle) (drop (cond l (1 + prefix_len is_blank bs) 0) (b ∷ bs)) ≡ after at (going scan built idle) (b ∷ bs)
  by true e next =
      let n : 1 + prefix_len is_blank bs ≡ suc (prefix_len is_blank bs) = omega arith in
      ap (λ m. after (at + m) (going scan built idle) (drop m (b ∷ bs))) n
      ∙ ap (λ m. after m (going scan built idle) (drop (prefix_len is_blank bs) bs)) (omega arith)
      ∙ next
      ∙ ap (λ s. after (at + 1) s bs) (sym (blank_step at b scan built e))
  by false e next = ap (λ n. after n (going scan built idle) (b ∷ bs)) (omega arith)

-- blanks in front
pub blanks_in_front : (at k : ℕ) (scan : Scan) (built : Built) (bs : List ℕ) → k ≡ prefix_len is_blank bs → after (at + k) (going scan built idle) (drop k bs) ≡ after at (going scan built idle) bs
blanks_in_front at k scan built bs is = subst (λ n. after (at + n) (going scan built idle) (drop n bs) ≡ after at (going scan built idle) bs) (sym is) (blank_run at scan built bs)

all_fit : (want : Want) (number n : ℕ) → takes_numbers want ≡ true → fits_number_at want number n ≡ true
all_fit (wants.Subject branching) number n h = refl
all_fit (wants.Row signed count) number n h = refl
all_fit (wants.Multiplier signed count row) number n h = refl
all_fit (wants.Negative count row) number n h = refl
all_fit (wants.Coefficient first negative last) number n h = refl
all_fit (wants.Variable negative size last) number n h = refl
all_fit (wants.Constant negative) number n h = refl
all_fit (wants.Block header) number n h = cc
all_fit wants.HeaderNumber number n h = cc
all_fit wants.HeaderEnd number n h = cc
all_fit wants.BlockNumber number n h = cc
all_fit (wants.Tree end) number n h = cc
all_fit (wants.Branches branching m) number n h = cc
all_fit (wants.Picks signed) number n h = cc
all_fit (wants.Times signed count row) number n h = cc
all_fit (wants.MorePicks signed count) number n h = cc
all_fit wants.Terms number n h = cc
all_fit (wants.Colon negative size last) number n h = cc
all_fit (wants.MoreTerms last) number n h = cc
all_fit (wants.ConstantEnd negative size) number n h = cc
all_fit (wants.CutBranches negative size) number n h = cc
all_fit wants.End number n h = cc
all_fit wants.Whole number n h = cc

module _ (start : ℕ) (scan : Scan) (built : Built) where
  -- behind the digits of n, k more lead to where the whole number leads
  abbrev NumberLeads : ℕ → ℕ → List ℕ → ℕ → ℕ → Type 0
  NumberLeads at n bs k value = after at (going scan built (digits start n)) bs ≡ after (at + k) (token_taken start (at + k) (give scan (tokens.Number value)) built) (drop k bs)

  no_more : (at n b : ℕ) (bs : List ℕ) → is_digit b ≡ false → NumberLeads at n (b ∷ bs) 0 n
  unfolding step
  no_more at n b bs e =
      ap (λ l. after (at + 1) (cond l (number_grown start scan built n b) (and_begun at b (token_taken start at (give scan (tokens.Number n)) built))) bs) e
      ∙ ap (λ s. after (at + 1) s bs) (sym (taken_then start at at b (give scan (tokens.Number n)) built))
      ∙ ap (λ m. after m (token_taken start m (give scan (tokens.Number n)) built) (b ∷ bs)) (omega arith)

  one_more : (at n b : ℕ) (bs : List ℕ) (k value : ℕ) → takes_numbers scan.want ≡ true → is_digit b ≡ true → NumberLeads (at + 1) (grown n b) bs k value → NumberLeads at n (b ∷ bs) (suc k) value
  unfolding step
  one_more at n b bs k value fits e h =
      ap (λ l. after (at + 1) (cond l (number_grown start scan built n b) (and_begun at b (token_taken start at (give scan (tokens.Number n)) built))) bs) e
      ∙ ap (λ f. after (at + 1) (cond f (going scan built (digits start (grown n b))) (malformed start)) bs) (all_fit scan.want scan.number (grown n b) fits)
      ∙ h
      ∙ ap (λ m. after m (token_taken start m (give scan (tokens.Number value)) built) (drop k bs)) (omega arith)

  number_run : (at n : ℕ) (bs : List ℕ) → takes_numbers scan.want ≡ true → prefix_len is_digit bs < length bs → NumberLeads at n bs (prefix_len is_digit bs) (number_by n bs)
  number_run at n [] fits h = absurd (omega arith)
  number_run at n (b ∷ bs) fits h = by (is_digit b) refl h (λ m. number_run (at + 1) (grown n b) bs fits m) where
    by : (l : Bool) → is_digit b ≡ l → cond l (1 + prefix_len is_digit bs) 0 < length (b ∷ bs) → (prefix_len is_digit bs < length bs → NumberLeads (at + 1) (grown n b) bs (prefix_len is_digit bs) (number_by (grown n b) bs)) → NumberLeads at n (b ∷ bs) (cond l (1 + prefix_len is_digit bs) 0) (cond l (number_by (grown n b) bs) n)
    by true e m next = let k : suc (prefix_len is_digit bs) ≡ 1 + prefix_len is_digit bs = omega arith in subst (λ j. NumberLeads at n (b ∷ bs) j (number_by (grown n b) bs)) k (one_more at n b bs (prefix_len is_digit bs) (number_by (grown n b) bs) fits e (next (omega arith)))
    by false e m next = no_more at n b bs e

digit_no_blank : (b : ℕ) → is_digit b ≡ true → is_blank b ≡ false
digit_no_blank b h = grind (arith, nat_tests)

digit_no_letter : (b : ℕ) → is_digit b ≡ true → is_letter b ≡ false
digit_no_letter b h = grind (arith, nat_tests)

first_digit : (at b : ℕ) (scan : Scan) (built : Built) → is_digit b ≡ true → step at (going scan built idle) b ≡ step at (going scan built (digits at 0)) b
unfolding step
first_digit at b scan built e =
    let taken = token_taken at (at + 1) (give scan (tokens.Sign b)) built in
    ap (λ x. cond x (going scan built idle) (cond (is_letter b) (word_grown at scan built [] b) (cond (is_digit b) (number_grown at scan built 0 b) taken))) (digit_no_blank b e)
    ∙ ap (λ x. cond x (word_grown at scan built [] b) (cond (is_digit b) (number_grown at scan built 0 b) taken)) (digit_no_letter b e)
    ∙ ap (λ x. cond x (number_grown at scan built 0 b) taken) e
    ∙ sym (ap (λ x. cond x (number_grown at scan built 0 b) (and_begun at b (token_taken at at (give scan (tokens.Number 0)) built))) e)

-- a whole number in front, behind which other bytes stand
pub number_in_front : (at k value : ℕ) (scan : Scan) (built : Built) (bs : List ℕ) → takes_numbers scan.want ≡ true → k ≡ prefix_len is_digit bs → value ≡ number_by 0 bs → 0 < k → k < length bs → after (at + k) (token_taken at (at + k) (give scan (tokens.Number value)) built) (drop k bs) ≡ after at (going scan built idle) bs
number_in_front at k value scan built [] fits is of some more = absurd (omega arith)
number_in_front at k value scan built (b ∷ bs) fits is of some more =
    sym (ap (λ s. after (at + 1) s bs) (first_digit at b scan built (digit (is_digit b) (subst (λ n. 0 < n) is some)))
    ∙ subst (λ n. NumberLeads at scan built at 0 (b ∷ bs) n value) (sym is) (subst (λ v. NumberLeads at scan built at 0 (b ∷ bs) (prefix_len is_digit (b ∷ bs)) v) (sym of) (number_run at scan built at 0 (b ∷ bs) fits (subst (λ n. n < length (b ∷ bs)) is more)))) where
      digit : (l : Bool) → 0 < cond l (1 + prefix_len is_digit bs) 0 → l ≡ true
      digit true h = refl
      digit false h = absurd (omega arith)
