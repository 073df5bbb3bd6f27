-- A number that is taken is below the place where the machine's numbers stand still.
use Rattle.std.proofs.Common.{◌≡◌, ℕ, ◌^◌, ◌<◌, Bool, true, false, ◌||◌, refl, arith, nat_lt, nat_le, ◌==◌}
use Rattle.std.proofs.lemmas.Bool.Decides.{nat_tests}
use Rattle.cert_text.specs.declared.scan.Token.TheVariants as tokens
use Rattle.cert_text.specs.declared.scan.Want.{Want}
use Rattle.cert_text.specs.declared.scan.Want.TheVariants as wants
use Rattle.cert_text.specs.declared.scan.Scan.{Scan}
use Rattle.cert_text.specs.Control.{give_at}
use Rattle.cert_laws.proofs.Givens.{OnlyOn, on_if}

abbrev pub IsSmall : ℕ → Scan → Type 0
IsSmall n s = n < 2 ^ 63

as_small : (number n : ℕ) → number < 2 ^ 32 → (n == number) ≡ true → n < 2 ^ 63
as_small number n h e = grind (arith, nat_tests)

two_small : (n : ℕ) → (n == 2) ≡ true → n < 2 ^ 63
two_small n e = grind (arith, nat_tests)

number_small : (n : ℕ) → nat_lt 4294967295 n ≡ false → n < 2 ^ 63
number_small n e = grind (arith, nat_tests)

row_small : (n : ℕ) (b : Bool) → (nat_lt 4294967295 n || b) ≡ false → n < 2 ^ 63
row_small n b e = number_small n (left (nat_lt 4294967295 n) b e) where
  left : (a c : Bool) → (a || c) ≡ false → a ≡ false
  left true c h = h
  left false c h = refl

multiplier_small : (n : ℕ) → nat_le 1099511627776 n ≡ false → n < 2 ^ 63
multiplier_small n e = grind (arith, nat_tests)

entry_small : (n : ℕ) → nat_lt 1152921504606846976 n ≡ false → n < 2 ^ 63
entry_small n e = grind (arith, nat_tests)

pub small_number : (want : Want) (scan : Scan) (n : ℕ) → scan.number < 2 ^ 32 → OnlyOn (IsSmall n) (give_at want scan (tokens.Number n))
small_number (wants.Block header) scan n h = tt
small_number wants.HeaderNumber scan n h = on_if (IsSmall n) (n == 2) _ _ (λ e. two_small n e) (λ e. tt)
small_number wants.HeaderEnd scan n h = tt
small_number wants.BlockNumber scan n h = on_if (IsSmall n) (n == scan.number) _ _ (λ e. as_small scan.number n h e) (λ e. tt)
small_number (wants.Tree end) scan n h = tt
small_number (wants.Subject branching) scan n h = on_if (IsSmall n) (n == 0) _ _ (λ e. tt) (λ e. on_if (IsSmall n) (nat_lt 4294967295 n) _ _ (λ o. tt) (λ o. number_small n o))
small_number (wants.Branches branching m) scan n h = tt
small_number (wants.Picks signed) scan n h = tt
small_number (wants.Row signed count) scan n h = on_if (IsSmall n) (n == 0) _ _ (λ e. tt) (λ e. on_if (IsSmall n) (nat_lt 4294967295 n || nat_le 4096 count) _ _ (λ o. tt) (λ o. row_small n (nat_le 4096 count) o))
small_number (wants.Times signed count row) scan n h = tt
small_number (wants.Multiplier signed count row) scan n h = on_if (IsSmall n) (nat_le 1099511627776 n) _ _ (λ o. tt) (λ o. multiplier_small n o)
small_number (wants.Negative count row) scan n h = on_if (IsSmall n) (nat_le 1099511627776 n) _ _ (λ o. tt) (λ o. multiplier_small n o)
small_number (wants.MorePicks signed count) scan n h = tt
small_number wants.Terms scan n h = tt
small_number (wants.Coefficient first negative last) scan n h = on_if (IsSmall n) (n == 0) _ _ (λ e. tt) (λ e. on_if (IsSmall n) (nat_lt 1152921504606846976 n) _ _ (λ o. tt) (λ o. entry_small n o))
small_number (wants.Colon negative size last) scan n h = tt
small_number (wants.Variable negative size last) scan n h = on_if (IsSmall n) (nat_le n last) _ _ (λ e. tt) (λ e. on_if (IsSmall n) (nat_lt 4294967295 n) _ _ (λ o. tt) (λ o. number_small n o))
small_number (wants.MoreTerms last) scan n h = tt
small_number (wants.Constant negative) scan n h = on_if (IsSmall n) (nat_lt 1152921504606846976 n) _ _ (λ o. tt) (λ o. entry_small n o)
small_number (wants.ConstantEnd negative size) scan n h = tt
small_number (wants.CutBranches negative size) scan n h = tt
small_number wants.End scan n h = tt
small_number wants.Whole scan n h = tt
