use Rattle.std.proofs.Common.{ℕ, Bool, true, false, cond, ◌<◌, ◌^◌, arith, nat_le, nat_lt, ◌≡◌, ◌==◌, ◌&&◌, ◌||◌, ◌-◌, refl}
use Rattle.std.proofs.lemmas.Bool.Decides.{nat_tests}
use Rattle.cert_text.specs.Control.{only_sign, behind, tree_begun, entered, give, give_at, at_block, at_header_number, at_block_number, at_tree, at_subject, at_row, at_negative, at_multiplier, at_more_picks, at_coefficient, at_variable, at_more_terms, at_constant, is_full, one_tree, picks_closed}
use Rattle.cert_text.specs.Tree.{IsModest}
use Rattle.cert_text.specs.declared.scan.Word.TheVariants as words
use Rattle.cert_text.specs.declared.scan.Token.{Token}
use Rattle.cert_text.specs.declared.scan.Token.TheVariants as tokens
use Rattle.cert_text.specs.declared.scan.Want.{Want}
use Rattle.cert_text.specs.declared.scan.Want.TheVariants as wants
use Rattle.cert_text.specs.declared.scan.Scan.{Scan}
use Rattle.cert_text.specs.declared.scan.Branching.{Branching}
use Rattle.cert_text.specs.declared.scan.Action.{Action}
use Rattle.cert_text.specs.declared.scan.Action.TheVariants as actions
use Rattle.cert_text.specs.declared.scan.Given.{Given}
use Rattle.cert_text.specs.declared.scan.Given.TheVariants as givens

abbrev pub IsFine : Given → Type 0
IsFine (givens.On scan action) = IsModest action
IsFine givens.Wrong = Unit {0}
IsFine givens.Over = Unit {0}

small : (n : ℕ) → false ≡ nat_le 1099511627776 n → n < 2 ^ 63
small n e = grind (arith, nat_tests)

fine_if : (b : Bool) (x y : Given) → IsFine x → IsFine y → IsFine (cond b x y)
fine_if true x y p q = p
fine_if false x y p q = q

fine_pick : (scan : Scan) (signed negative : Bool) (row n : ℕ) (b : Bool) → b ≡ nat_le 1099511627776 n → IsFine (cond b givens.Over (givens.On scan (actions.Pick signed row negative n)))
fine_pick scan signed negative row n true e = tt
fine_pick scan signed negative row n false e = small n e

fine_sign : (token : Token) (sign : ℕ) (g : Given) → IsFine g → IsFine (only_sign token sign g)
fine_sign (tokens.Word w) sign g h = tt
fine_sign (tokens.Number n) sign g h = tt
fine_sign (tokens.Sign c) sign g h = fine_if (c == sign) _ _ h tt

fine_behind : (scan : Scan) (depth : ℕ) (action : Action) → IsModest action → IsFine (behind scan depth action)
fine_behind scan depth action h = fine_if (depth == 0) _ _ h h

fine_entered : (scan : Scan) (action : Action) → IsModest action → IsFine (entered scan action)
fine_entered scan action h = fine_if (nat_le 400 scan.depth) _ _ tt h

fine_begun : (scan : Scan) (want : Want) → IsFine (tree_begun scan want)
fine_begun scan want = fine_if (is_full scan) _ _ tt tt

fine_block : (scan : Scan) (header : Bool) (token : Token) → IsFine (at_block scan header token)
fine_block scan header (tokens.Word words.Cert) = tt
fine_block scan header (tokens.Word words.Version) = fine_if header _ _ tt tt
fine_block scan header (tokens.Word words.Absurd) = tt
fine_block scan header (tokens.Word words.Farkas) = tt
fine_block scan header (tokens.Word words.Linear) = tt
fine_block scan header (tokens.Word words.Case) = tt
fine_block scan header (tokens.Word words.Truth) = tt
fine_block scan header (tokens.Word words.Split) = tt
fine_block scan header (tokens.Word words.Cut) = tt
fine_block scan header (tokens.Number n) = tt
fine_block scan header (tokens.Sign c) = tt

fine_header_number : (scan : Scan) (token : Token) → IsFine (at_header_number scan token)
fine_header_number scan (tokens.Number n) = fine_if (n == 2) _ _ tt tt
fine_header_number scan (tokens.Word w) = tt
fine_header_number scan (tokens.Sign c) = tt

fine_block_number : (scan : Scan) (token : Token) → IsFine (at_block_number scan token)
fine_block_number scan (tokens.Number n) = fine_if (n == scan.number) _ _ tt tt
fine_block_number scan (tokens.Word w) = tt
fine_block_number scan (tokens.Sign c) = tt

fine_tree : (scan : Scan) (end : Bool) (token : Token) → IsFine (at_tree scan end token)
fine_tree scan end (tokens.Word words.Absurd) = fine_if (is_full scan) _ _ tt (fine_behind (one_tree scan) scan.depth actions.Absurd tt)
fine_tree scan end (tokens.Word words.Farkas) = fine_begun scan _
fine_tree scan end (tokens.Word words.Linear) = fine_if scan.second _ _ (fine_begun scan _) tt
fine_tree scan end (tokens.Word words.Case) = fine_begun scan _
fine_tree scan end (tokens.Word words.Truth) = fine_begun scan _
fine_tree scan end (tokens.Word words.Split) = fine_begun scan _
fine_tree scan end (tokens.Word words.Cut) = fine_begun scan _
fine_tree scan end (tokens.Word words.Cert) = tt
fine_tree scan end (tokens.Word words.Version) = tt
fine_tree scan end (tokens.Number n) = tt
fine_tree scan end (tokens.Sign c) = fine_if (c == 125) _ _ (fine_if (end && nat_lt 0 scan.depth) _ _ (fine_behind scan (scan.depth - 1) actions.Leave tt) tt) tt

fine_subject : (scan : Scan) (branching : Branching) (token : Token) → IsFine (at_subject scan branching token)
fine_subject scan branching (tokens.Number n) = fine_if (n == 0) _ _ tt (fine_if (nat_lt 4294967295 n) _ _ tt tt)
fine_subject scan branching (tokens.Word w) = tt
fine_subject scan branching (tokens.Sign c) = tt

fine_row : (scan : Scan) (signed : Bool) (count : ℕ) (token : Token) → IsFine (at_row scan signed count token)
fine_row scan signed count (tokens.Number n) = fine_if (n == 0) _ _ tt (fine_if (nat_lt 4294967295 n || nat_le 4096 count) _ _ tt tt)
fine_row scan signed count (tokens.Word w) = tt
fine_row scan signed count (tokens.Sign c) = tt

fine_negative : (scan : Scan) (signed negative : Bool) (count row : ℕ) (token : Token) → IsFine (at_negative scan signed negative count row token)
fine_negative scan signed negative count row (tokens.Number n) = fine_pick _ signed negative row n _ refl
fine_negative scan signed negative count row (tokens.Word w) = tt
fine_negative scan signed negative count row (tokens.Sign c) = tt

fine_multiplier : (scan : Scan) (signed : Bool) (count row : ℕ) (token : Token) → IsFine (at_multiplier scan signed count row token)
fine_multiplier scan signed count row (tokens.Number n) = fine_negative scan signed false count row (tokens.Number n)
fine_multiplier scan signed count row (tokens.Word w) = tt
fine_multiplier scan signed count row (tokens.Sign c) = fine_if (c == 45) _ _ (fine_if signed _ _ tt tt) tt

fine_closed : (signed : Bool) → IsModest (picks_closed signed)
fine_closed true = tt
fine_closed false = tt

fine_more_picks : (scan : Scan) (signed : Bool) (count : ℕ) (token : Token) → IsFine (at_more_picks scan signed count token)
fine_more_picks scan signed count (tokens.Number n) = tt
fine_more_picks scan signed count (tokens.Word w) = tt
fine_more_picks scan signed count (tokens.Sign c) = fine_if (c == 44) _ _ tt (fine_if (c == 93) _ _ (fine_behind scan scan.depth (picks_closed signed) (fine_closed signed)) tt)

fine_coefficient : (scan : Scan) (first negative : Bool) (last : ℕ) (token : Token) → IsFine (at_coefficient scan first negative last token)
fine_coefficient scan first negative last (tokens.Number n) = fine_if (n == 0) _ _ tt (fine_if (nat_lt 1152921504606846976 n) _ _ tt tt)
fine_coefficient scan first negative last (tokens.Word w) = tt
fine_coefficient scan first negative last (tokens.Sign c) = fine_if (c == 45) _ _ (fine_if negative _ _ tt tt) (fine_if (c == 59) _ _ (fine_if first _ _ tt tt) tt)

fine_variable : (scan : Scan) (negative : Bool) (size last : ℕ) (token : Token) → IsFine (at_variable scan negative size last token)
fine_variable scan negative size last (tokens.Number n) = fine_if (nat_le n last) _ _ tt (fine_if (nat_lt 4294967295 n) _ _ tt tt)
fine_variable scan negative size last (tokens.Word w) = tt
fine_variable scan negative size last (tokens.Sign c) = tt

fine_more_terms : (scan : Scan) (last : ℕ) (token : Token) → IsFine (at_more_terms scan last token)
fine_more_terms scan last (tokens.Number n) = tt
fine_more_terms scan last (tokens.Word w) = tt
fine_more_terms scan last (tokens.Sign c) = fine_if (c == 44) _ _ tt (fine_if (c == 59) _ _ tt tt)

fine_constant : (scan : Scan) (negative : Bool) (token : Token) → IsFine (at_constant scan negative token)
fine_constant scan negative (tokens.Number n) = fine_if (nat_lt 1152921504606846976 n) _ _ tt tt
fine_constant scan negative (tokens.Word w) = tt
fine_constant scan negative (tokens.Sign c) = fine_if (c == 45) _ _ (fine_if negative _ _ tt tt) tt

give_at_fine : (want : Want) (scan : Scan) (token : Token) → IsFine (give_at want scan token)
give_at_fine (wants.Block header) scan token = fine_block scan header token
give_at_fine wants.HeaderNumber scan token = fine_header_number scan token
give_at_fine wants.HeaderEnd scan token = fine_sign token _ _ tt
give_at_fine wants.BlockNumber scan token = fine_block_number scan token
give_at_fine (wants.Tree end) scan token = fine_tree scan end token
give_at_fine (wants.Subject branching) scan token = fine_subject scan branching token
give_at_fine (wants.Branches branching n) scan token = fine_sign token _ _ (fine_entered scan (actions.Enter branching n) tt)
give_at_fine (wants.Picks signed) scan token = fine_sign token _ _ tt
give_at_fine (wants.Row signed count) scan token = fine_row scan signed count token
give_at_fine (wants.Times signed count row) scan token = fine_sign token _ _ tt
give_at_fine (wants.Multiplier signed count row) scan token = fine_multiplier scan signed count row token
give_at_fine (wants.Negative count row) scan token = fine_negative scan true true count row token
give_at_fine (wants.MorePicks signed count) scan token = fine_more_picks scan signed count token
give_at_fine wants.Terms scan token = fine_sign token _ _ tt
give_at_fine (wants.Coefficient first negative last) scan token = fine_coefficient scan first negative last token
give_at_fine (wants.Colon negative size last) scan token = fine_sign token _ _ tt
give_at_fine (wants.Variable negative size last) scan token = fine_variable scan negative size last token
give_at_fine (wants.MoreTerms last) scan token = fine_more_terms scan last token
give_at_fine (wants.Constant negative) scan token = fine_constant scan negative token
give_at_fine (wants.ConstantEnd negative size) scan token = fine_sign token _ _ tt
give_at_fine (wants.CutBranches negative size) scan token = fine_sign token _ _ (fine_entered scan (actions.Cut negative size) tt)
give_at_fine wants.End scan token = fine_sign token _ _ tt
give_at_fine wants.Whole scan token = tt

-- a multiplier that a token adds fits
pub give_fine : (scan : Scan) (token : Token) → IsFine (give scan token)
give_fine scan token = give_at_fine scan.want scan token
