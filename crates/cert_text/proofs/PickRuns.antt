-- A pick within the limits is one step, and so is a sign.
use Rattle.std.proofs.Common.{◌≡◌, ℕ, ◌+◌, ◌<◌, ◌≤◌, ◌^◌, Bool, true, false, cond, ◌==◌, nat_lt, nat_le, List, [], ◌∷◌, length, drop, get_or, refl, sym, ap, subst, ◌∙◌, arith}
use Rattle.std.specs.List.{prefix_len}
use Rattle.std.proofs.Common.{length-drop}
use Rattle.std.proofs.lemmas.List.{drop_more}
use Rattle.std.proofs.lemmas.Bool.Decides.{nat_tests}
use Rattle.cert_text.specs.declared.pick_fronts.Pick.{Pick}
use Rattle.cert_text.specs.declared.scan.Token.TheVariants as tokens
use Rattle.cert_text.specs.declared.scan.Want.{Want}
use Rattle.cert_text.specs.declared.scan.Want.TheVariants as wants
use Rattle.cert_text.specs.declared.scan.Scan.{Scan}
use Rattle.cert_text.specs.declared.scan.Given.TheVariants as givens
use Rattle.cert_text.specs.declared.scan.Action.TheVariants as actions
use Rattle.cert_text.specs.Control.{give, give_at, at_row, at_negative, picks_closed}
use Rattle.cert_text.specs.Letters.{is_blank, is_letter, is_digit}
use Rattle.cert_text.specs.Fronts.{takes_numbers}
use Rattle.cert_text.specs.PickFronts.{IsPick, IsFrom}
use Rattle.cert_text.specs.Run.{want_behind}
use Rattle.cert_text.specs.Tree.{Built, applied}
use Rattle.cert_text.specs.Reading.{going, idle, token_taken, word_grown, number_grown, step, after}
use Rattle.cert_text.proofs.Lasts.{dropping}
use Rattle.cert_text.proofs.NumberRuns.{number_in_front}
use Rattle.cert_text.proofs.Taken.{behind_taken}

sign_step : (at c : ℕ) (scan : Scan) (built : Built) → is_blank c ≡ false → is_letter c ≡ false → is_digit c ≡ false → step at (going scan built idle) c ≡ token_taken at (at + 1) (give scan (tokens.Sign c)) built
unfolding step
sign_step at c scan built b l d =
    let taken = token_taken at (at + 1) (give scan (tokens.Sign c)) built in
    ap (λ x. cond x (going scan built idle) (cond (is_letter c) (word_grown at scan built [] c) (cond (is_digit c) (number_grown at scan built 0 c) taken))) b
    ∙ ap (λ x. cond x (word_grown at scan built [] c) (cond (is_digit c) (number_grown at scan built 0 c) taken)) l
    ∙ ap (λ x. cond x (number_grown at scan built 0 c) taken) d

-- a sign that stands at a place
pub sign_at : (at k c : ℕ) (scan : Scan) (built : Built) (bs : List ℕ) → k < length bs → get_or bs k 0 ≡ c → is_blank c ≡ false → is_letter c ≡ false → is_digit c ≡ false → after (at + (k + 1)) (token_taken (at + k) (at + k + 1) (give scan (tokens.Sign c)) built) (drop (k + 1) bs) ≡ after (at + k) (going scan built idle) (drop k bs)
sign_at at k c scan built bs within is b l d =
    let e : at + (k + 1) ≡ at + k + 1 = omega arith in
    let front : drop k bs ≡ c ∷ drop (k + 1) bs = drop_more bs k 0 within ∙ ap (λ x. x ∷ drop (k + 1) bs) is in
    ap (λ n. after n (token_taken (at + k) (at + k + 1) (give scan (tokens.Sign c)) built) (drop (k + 1) bs)) e
    ∙ ap (λ s. after (at + k + 1) s (drop (k + 1) bs)) (sym (sign_step (at + k) c scan built b l d))
    ∙ sym (ap (after (at + k) (going scan built idle)) front)

row_given : (scan : Scan) (signed : Bool) (count n : ℕ) → 0 < n → n ≤ 4294967295 → count < 4096 → at_row scan signed count (tokens.Number n) ≡ givens.On (record scan { want = wants.Times signed (count + 1) n }) actions.Nothing
row_given scan signed count n some short few =
    let z : (n == 0) ≡ false = grind (arith, nat_tests) in
    let o : nat_lt 4294967295 n ≡ false = grind (arith, nat_tests) in
    let c : nat_le 4096 count ≡ false = grind (arith, nat_tests) in
    rw (z, o, c) refl

size_given : (scan : Scan) (signed negative : Bool) (count row n : ℕ) → n < 2 ^ 40 → at_negative scan signed negative count row (tokens.Number n) ≡ givens.On (record scan { want = wants.MorePicks signed count }) (actions.Pick signed row negative n)
size_given scan signed negative count row n small =
    let o : nat_le 1099511627776 n ≡ false = grind (arith, nat_tests) in
    rw o refl

module _ (at : ℕ) (signed : Bool) (count : ℕ) (scan : Scan) (built : Built) (bs : List ℕ) (p : Pick) (few : count < 4096) (is : IsPick signed p bs) where
  -- the scan with this wanted
  abbrev Sc : Want → Scan
  Sc want = record scan { want = want }

  abbrev Added : Bool → Built
  Added negative = applied (actions.Pick signed p.row negative p.size) built

  row_leads : scan.want ≡ wants.Row signed count → after (at + p.times) (going (Sc (wants.Times signed (count + 1) p.row)) built idle) (drop p.times bs) ≡ after at (going scan built idle) bs
  row_leads want =
      let given : give scan (tokens.Number p.row) ≡ givens.On (Sc (wants.Times signed (count + 1) p.row)) actions.Nothing = ap (λ w. give_at w scan (tokens.Number p.row)) want ∙ row_given scan signed count p.row is.some is.short few in
      ap (λ g. after (at + p.times) (token_taken at (at + p.times) g built) (drop p.times bs)) (sym given)
      ∙ number_in_front at p.times p.row scan built bs (ap takes_numbers want) is.times is.row is.named (within p.negative is.sign) where
        within : (n : Bool) → IsFrom signed n p.times p.from bs → p.times < length bs
        within true h = (let e = h.1.1 in omega (arith, e, is.given, is.more))
        within false h = omega (arith, h, is.given, is.more)

  star_leads : p.times < length bs → after (at + (p.times + 1)) (going (Sc (wants.Multiplier signed (count + 1) p.row)) built idle) (drop (p.times + 1) bs) ≡ after (at + p.times) (going (Sc (wants.Times signed (count + 1) p.row)) built idle) (drop p.times bs)
  star_leads within = sign_at at p.times 42 (Sc (wants.Times signed (count + 1) p.row)) built bs within is.star refl refl refl

  -- from the digits of the multiplier on
  size_leads : (want : Want) (negative : Bool) → takes_numbers want ≡ true → give (Sc want) (tokens.Number p.size) ≡ givens.On (Sc (wants.MorePicks signed (count + 1))) (actions.Pick signed p.row negative p.size) → after (at + p.end) (going (Sc (wants.MorePicks signed (count + 1))) (Added negative) idle) (drop p.end bs) ≡ after (at + p.from) (going (Sc want) built idle) (drop p.from bs)
  size_leads want negative takes given =
      let k : ℕ = prefix_len is_digit (drop p.from bs) in
      let e : at + p.end ≡ at + p.from + k = omega (arith, is.digits) in
      let dropped : drop p.end bs ≡ drop k (drop p.from bs) = ap (λ n. drop n bs) is.digits ∙ sym (dropping p.from k bs) in
      let some : 0 < k = omega (arith, is.digits, is.given) in
      let more : k < length (drop p.from bs) = omega (arith, is.digits, is.more, length-drop p.from bs) in
      ap (λ n. after n (going (Sc (wants.MorePicks signed (count + 1))) (Added negative) idle) (drop p.end bs)) e
      ∙ ap (after (at + p.from + k) (going (Sc (wants.MorePicks signed (count + 1))) (Added negative) idle)) dropped
      ∙ ap (λ g. after (at + p.from + k) (token_taken (at + p.from) (at + p.from + k) g built) (drop k (drop p.from bs))) (sym given)
      ∙ number_in_front (at + p.from) k p.size (Sc want) built (drop p.from bs) takes refl is.size some more

  signed_leads : (negative : Bool) → IsFrom signed negative p.times p.from bs → after (at + p.end) (going (Sc (wants.MorePicks signed (count + 1))) (Added negative) idle) (drop p.end bs) ≡ after (at + (p.times + 1)) (going (Sc (wants.Multiplier signed (count + 1) p.row)) built idle) (drop (p.times + 1) bs)
  signed_leads false from =
      size_leads (wants.Multiplier signed (count + 1) p.row) false refl (size_given (Sc (wants.Multiplier signed (count + 1) p.row)) signed false (count + 1) p.row p.size is.small)
      ∙ ap (λ n. after (at + n) (going (Sc (wants.Multiplier signed (count + 1) p.row)) built idle) (drop n bs)) from
  signed_leads true h =
      let within : p.times + 1 < length bs = (let e = h.1.1 in omega (arith, e, is.given, is.more)) in
      let from : p.from ≡ p.times + 1 + 1 = (let e = h.1.1 in omega (arith, e)) in
      let given : give (Sc (wants.Multiplier signed (count + 1) p.row)) (tokens.Sign 45) ≡ givens.On (Sc (wants.Negative (count + 1) p.row)) actions.Nothing = ap (λ s. cond s (givens.On (Sc (wants.Negative (count + 1) p.row)) actions.Nothing) givens.Wrong) h.0 in
      size_leads (wants.Negative (count + 1) p.row) true refl (subst (λ s. at_negative (Sc (wants.Negative (count + 1) p.row)) true true (count + 1) p.row (tokens.Number p.size) ≡ givens.On (Sc (wants.MorePicks s (count + 1))) (actions.Pick s p.row true p.size)) (sym h.0) (size_given (Sc (wants.Negative (count + 1) p.row)) true true (count + 1) p.row p.size is.small))
      ∙ ap (λ n. after (at + n) (going (Sc (wants.Negative (count + 1) p.row)) built idle) (drop n bs)) from
      ∙ ap (λ n. after n (going (Sc (wants.Negative (count + 1) p.row)) built idle) (drop (p.times + 1 + 1) bs)) (omega arith)
      ∙ ap (λ g. after (at + (p.times + 1 + 1)) (token_taken (at + (p.times + 1)) (at + (p.times + 1) + 1) g built) (drop (p.times + 1 + 1) bs)) (sym given)
      ∙ sign_at at (p.times + 1) 45 (Sc (wants.Multiplier signed (count + 1) p.row)) built bs within h.1.0 refl refl refl

  -- a pick in front, where a row may stand
  pub pick_leads : scan.want ≡ wants.Row signed count → after (at + p.end) (going (Sc (wants.MorePicks signed (count + 1))) (Added p.negative) idle) (drop p.end bs) ≡ after at (going scan built idle) bs
  pick_leads want = signed_leads p.negative is.sign ∙ star_leads (within p.negative is.sign) ∙ row_leads want where
    within : (n : Bool) → IsFrom signed n p.times p.from bs → p.times < length bs
    within true h = (let e = h.1.1 in omega (arith, e, is.given, is.more))
    within false h = omega (arith, h, is.given, is.more)

  -- the same with the sign behind it, where more picks may stand
  signed_behind : (c : ℕ) → scan.want ≡ wants.Row signed count → get_or bs p.end 0 ≡ c → is_blank c ≡ false → is_letter c ≡ false → is_digit c ≡ false → after (at + (p.end + 1)) (token_taken (at + p.end) (at + p.end + 1) (give (Sc (wants.MorePicks signed (count + 1))) (tokens.Sign c)) (Added p.negative)) (drop (p.end + 1) bs) ≡ after at (going scan built idle) bs
  signed_behind c want e b l d = sign_at at p.end c (Sc (wants.MorePicks signed (count + 1))) (Added p.negative) bs is.more e b l d ∙ pick_leads want

  pub comma_leads : scan.want ≡ wants.Row signed count → get_or bs p.end 0 ≡ 44 → after (at + (p.end + 1)) (going (Sc (wants.Row signed (count + 1))) (Added p.negative) idle) (drop (p.end + 1) bs) ≡ after at (going scan built idle) bs
  comma_leads want e = signed_behind 44 want e refl refl refl

  pub closing_leads : scan.want ≡ wants.Row signed count → get_or bs p.end 0 ≡ 93 → after (at + (p.end + 1)) (going (Sc (want_behind scan.depth)) (applied (picks_closed signed) (Added p.negative)) idle) (drop (p.end + 1) bs) ≡ after at (going scan built idle) bs
  closing_leads want e =
      ap (λ s. after (at + (p.end + 1)) s (drop (p.end + 1) bs)) (sym (behind_taken (at + p.end) (at + p.end + 1) (Sc (wants.MorePicks signed (count + 1))) scan.depth (picks_closed signed) (Added p.negative)))
      ∙ signed_behind 93 want e refl refl refl
