-- Picks as the grammar has them, and small facts of numbers that the control tests.
use Rattle.std.proofs.Common.{◌≡◌, ℕ, ◌+◌, ◌-◌, ◌<◌, ◌≤◌, Bool, true, false, cond, ◌&&◌, List, [], ◌∷◌, refl, ap, ◌∙◌, arith, nat_lt, nat_le, ◌==◌}
use Rattle.std.proofs.lemmas.Bool.Decides.{nat_tests}
use Rattle.cert_text.specs.declared.scan.Token.{Token}
use Rattle.cert_text.specs.declared.scan.Token.TheVariants as tokens
use Rattle.cert_text.specs.Grammar.{Int, int_tokens, picks_tokens, lines_tokens}
use Rattle.cert_laws.proofs.Ends.{AreAllowed}

no_truth : false ≡ true → ⊥
no_truth h = cc

-- picks without signs are lines

abbrev pub plain_picks : List (ℕ × Int) → List (ℕ × ℕ)
plain_picks [] = []
plain_picks (p ∷ ps) = (p.0, p.1.1) ∷ plain_picks ps

pub int_plain : (i : Int) (k : List Token) → i.0 ≡ false → int_tokens i k ≡ tokens.Number i.1 ∷ k
int_plain i k h = ap (λ c. cond c (tokens.Sign 45 ∷ tokens.Number i.1 ∷ k) (tokens.Number i.1 ∷ k)) h

pub lines_plain : (ps : List (ℕ × Int)) (k : List Token) → AreAllowed false ps → lines_tokens ps k ≡ picks_tokens (plain_picks ps) k
lines_plain [] k h = refl
lines_plain (p ∷ ps) k h = ap (λ j. tokens.Sign 44 ∷ tokens.Number (p.0 + 1) ∷ tokens.Sign 42 ∷ j) (int_plain p.1 (lines_tokens ps k) h.0 ∙ ap (λ j. tokens.Number p.1.1 ∷ j) (lines_plain ps k h.1))

pub same_if : (a b : ℕ) → (a == b) ≡ true → a ≡ b
same_if a b h = grind (arith, nat_tests)

pub one_more : (n : ℕ) → (n == 0) ≡ false → n ≡ n - 1 + 1
one_more n h = grind (arith, nat_tests)

pub some_size : (n : ℕ) → (n == 0) ≡ false → 0 < n
some_size n h = grind (arith, nat_tests)

pub risen : (n last : ℕ) → nat_le n last ≡ false → (n ≡ n - 1 + 1) × (last ≤ n - 1)
risen n last h = (grind (arith, nat_tests), grind (arith, nat_tests))

pub not_zero : (n : ℕ) → (n == 0) ≡ false → 0 < n
not_zero n h = grind (arith, nat_tests)

pub left_one : (d : ℕ) → nat_lt 0 d ≡ true → d ≡ d - 1 + 1
left_one d h = grind (arith, nat_tests)

pub both : (a c : Bool) → (a && c) ≡ true → (a ≡ true) × (c ≡ true)
both true c h = (refl, h)
both false c h = absurd (no_truth h)
